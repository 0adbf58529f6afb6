-- One digit more is taken from what is left, or ends it where it is none or the number no longer fits.
-- Assumes nothing.
use Rattle.std.proofs.Common.{◌^◌, [], ◌∷◌, get_or, drop, sym, ◌∙◌, suc, arith, add-one, drop-cons, drop_of_length-le}
use borrow.Author.Tests.{lt-ltb}
use Rattle.text.specs.Words.{digits_of}
use Rattle.text.proofs.Numerals.{digit_by_digit, in64-below}
use Rattle.text.proofs.decimal.decimal_of.Goals as goal

pub returns-in_err-n : goal.returns-in_err-n
returns-in_err-n c =
    let word = c.args.word.now in
    let i = c.loop-letter.letter-index in
    c.from_residual.ensures
    ∙ sym (c.loop-letter.invariant.1 ∙ rw (drop-cons word i 0 (omega arith), digit_by_digit c.loop-letter.n (get_or word i 0) (drop (suc i) word), ← c.in_err-n.ensures))

pub loop-letter-preserved : goal.loop-letter-preserved
loop-letter-preserved c =
    let word = c.args.word.now in
    let i = c.loop-letter.letter-index in (
      in64-below (digits_of c.loop-letter.n (get_or word i 0 ∷ [])) (sym c.in_ok-n.ensures),
      c.loop-letter.invariant.1 ∙ rw (add-one i, drop-cons word i 0 (omega arith), digit_by_digit c.loop-letter.n (get_or word i 0) (drop (suc i) word), ← c.in_ok-n.ensures),
    )

pub returns : goal.returns
unfolding digits_of
returns c =
    sym (c.loop-letter.invariant.1
    ∙ rw (drop_of_length-le c.args.word.now {i = c.loop-letter.letter-index} (omega arith), lt-ltb c.loop-letter.n (2 ^ 64) c.loop-letter.invariant.0))
