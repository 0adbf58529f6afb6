-- A pair that is a byte is passed, and one that is none ends it; so does an odd number of letters.
-- Assumes nothing.
use Rattle.std.proofs.Common.{length, ◌%◌, ◌≡◌, sym, ◌∙◌, ap, arith, length-append}
use Rattle.std.specs.Slice.Iter.{chunks_exact_rest}
use Rattle.text.proofs.Halves.{odd-none, none-in-front, pair-in-front, left-over}
use Rattle.text.proofs.hex.is_hex.Goals as goal

pub returns-then-word-eq1 : goal.returns-then-word-eq1
returns-then-word-eq1 c = rw (odd-none c.args.word.now c.if-word-eq1.true)

pub returns-then-is_none : goal.returns-then-is_none
returns-then-is_none c =
    let steps = c.in-Some.ensures.steps in
    let two = steps.1.1 ∙ c.loop-pair.invariant.0 in
    let none = none-in-front c.in-Some.pair.now (chunks_exact_rest c.next.new.self) two c.byte_of.ensures c.if-is_none.ensures in
    sym (c.loop-pair.invariant.2 ∙ rw (steps.1.0, none))

pub loop-pair-preserved : goal.loop-pair-preserved
loop-pair-preserved c =
    let steps = c.in-Some.ensures.steps in
    let two = steps.1.1 ∙ c.loop-pair.invariant.0 in
    let some = pair-in-front c.in-Some.pair.now (chunks_exact_rest c.next.new.self) two c.byte_of.ensures c.if-is_none.ensures in
    let size = ap length steps.1.0 ∙ length-append c.in-Some.pair.now (chunks_exact_rest c.next.new.self) in
    (steps.0 ∙ c.loop-pair.invariant.0, omega arith, c.loop-pair.invariant.2 ∙ rw steps.1.0 some)

pub returns : goal.returns
returns c =
    let few = c.in-None.ensures.steps.1.0 in
    let rest = chunks_exact_rest c.loop-pair.pair-iterator in
    let even : length rest % 2 ≡ 0 = omega arith in
    rw even at (left-over rest (omega arith)) ∙ sym c.loop-pair.invariant.2
