-- The size goes by the encoding, and of a simple sequence by what stands in its last sixteen bytes.
-- Assumes nothing.
use Rattle.std.proofs.Common.{ℕ, List, ◌≡◌, sym, ap, ◌∙◌, arith, eq-eqb, length, length-take, length-drop, take, drop}
use lib.Seq.{take_all, drop-drop}
use Rattle.wire.specs.Writing.{length_of}
use Rattle.channel_sequence.specs.Sequences.{all_zero}
use Rattle.channel_sequence.proofs.Entries.{legacy-refused}
use Rattle.exports.specs.Sequences.{sequence_of}
use Rattle.exports.proofs.Sequences.{class-sized, simple-sized, simple-unsized, other-unsized}
use Rattle.exports.proofs.sequence_calls.written_size.Goals as goal

whole : (ns : List ℕ) → length ns ≡ 33 → length (sequence_of ns).bytes ≡ 32
whole ns long = simp (length-take, length-drop) (omega arith)

unused : (ns : List ℕ) → length ns ≡ 33 → drop 16 (sequence_of ns).bytes ≡ take 16 (drop 17 ns)
unused ns long =
    let all : take 32 (drop 1 ns) ≡ drop 1 ns = take_all 32 (drop 1 ns) (simp length-drop (omega arith)) in
    let rest : take 16 (drop 17 ns) ≡ drop 17 ns = take_all 16 (drop 17 ns) (simp length-drop (omega arith)) in
    rw (all, rest) (drop-drop 16 1 ns)

pub returns-in-0 : goal.returns-in-0
returns-in-0 c =
    let ns = c.args.numbers.now in
    sym (simple-sized (sequence_of ns) (whole ns c.requires) c.in-0.is (ap all_zero (unused ns c.requires) ∙ sym c.no_more.ensures ∙ c.if-no_more.true))

pub returns-in-0-2 : goal.returns-in-0-2
returns-in-0-2 c =
    let ns = c.args.numbers.now in
    sym (ap length_of (simple-unsized (sequence_of ns) c.in-0.is (ap all_zero (unused ns c.requires) ∙ sym c.no_more.ensures ∙ c.if-no_more.false)))

pub returns-in-1 : goal.returns-in-1
returns-in-1 c = let ns = c.args.numbers.now in sym (ap length_of (legacy-refused (sequence_of ns) (eq-eqb _ 1 c.in-1.is)))

pub returns-in-3 : goal.returns-in-3
returns-in-3 c = let ns = c.args.numbers.now in sym (class-sized (sequence_of ns) (whole ns c.requires) c.in-3.is)

pub returns-in_default : goal.returns-in_default
returns-in_default c = let ns = c.args.numbers.now in sym (ap length_of (other-unsized (sequence_of ns) (λ e. omega arith) (λ e. omega arith) (λ e. omega arith)))
