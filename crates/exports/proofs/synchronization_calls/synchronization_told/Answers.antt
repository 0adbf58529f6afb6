-- Numbers that fit are a record, with 39 bytes in front of its sequence.
-- Assumes nothing.
use Rattle.std.proofs.Common.{ℕ, List, ◌+◌, ◌≡◌, sym, ap, ◌∙◌, arith, rules, length, take, drop, length-take, length-drop}
use Rattle.std.proofs.lemmas.Result.{err_from_is_err_and}
use lib.Seq.{take_all, drop-drop}
use Rattle.wire.specs.Answer.{Answer, answer, ◌>>=◌}
use Rattle.wire.specs.Writing.{length_of}
use Rattle.wire.proofs.Stores.{length-behind}
use Rattle.channel_sequence.specs.Sequences as Q
use Rattle.channel_sequence.proofs.Entries.{sequence-written}
use Rattle.channel_sequence_tlv.specs.SequenceTLVs as C
use Rattle.channel_sequence_tlv.specs.SequenceTLVs.{head_bytes}
use Rattle.synchronization_parameters.specs.SynchronizationBytes.{fixed_bytes, bytes_of}
use Rattle.synchronization_parameters.proofs.Sizes.{length-fixed}
use Rattle.exports.specs.Sequences.{sequence_of, channel_sequence_of}
use Rattle.exports.specs.Synchronizations.{synchronization_of}
use Rattle.exports.proofs.synchronization_calls.synchronization_told.Goals as goal

rest : (ns : List ℕ) → length ns ≡ 60 → take 33 (drop 27 ns) ≡ drop 3 (drop 24 ns)
rest ns long = take_all 33 (drop 27 ns) (simp length-drop (omega arith)) ∙ sym (drop-drop 3 24 ns)

behind : (ns : List ℕ) {size : Answer ℕ} → length ns ≡ 60 → length_of (Q.bytes_of (sequence_of (take 33 (drop 27 ns)))) ≡ size
    → length_of (bytes_of (synchronization_of ns)) ≡ ((size >>= λ m. answer (6 + m)) >>= λ m. answer (33 + m))
behind ns long e =
    let p = synchronization_of ns in
    let r = channel_sequence_of (drop 24 ns) in
    let entries = rw (rest ns long) at e in
    rw (← length-fixed p) (length-behind (fixed_bytes p) (C.bytes_of r) (length-behind (head_bytes r) (Q.bytes_of (sequence_of (drop 3 (drop 24 ns)))) entries))

pub returns-in_err-written_size : goal.returns-in_err-written_size
returns-in_err-written_size c =
    let q = err_from_is_err_and c.from_residual-in_err-written_size.result c.from_residual-in_err-written_size.ensures.1 in
    rw (q.1, q.2, ← c.in_ok-fit.ensures) (sym (behind c.args.numbers.now (search rules) (sym c.in_err-written_size.ensures)))

pub overflow_add-result : goal.overflow_add-result
overflow_add-result c =
    let ns = c.args.numbers.now in
    let long : length ns ≡ 60 = search rules in
    omega (arith, (sequence-written (sequence_of (take 33 (drop 27 ns))) (simp (length-take, length-drop) (omega arith)) (sym c.in_ok-written_size.ensures)).few)

pub returns : goal.returns
returns c =
    let m = c.in_ok-written_size.field-0 in
    let sum : 39 + m ≡ 33 + (6 + m) = omega arith in
    rw (← c.in_ok-fit.ensures) (ap answer sum ∙ sym (behind c.args.numbers.now (search rules) (sym c.in_ok-written_size.ensures)))
