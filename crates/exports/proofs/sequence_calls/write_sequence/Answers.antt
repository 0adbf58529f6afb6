-- What is put is the bytes on the wire, after the size and the room were settled.
-- Assumes nothing.
use Rattle.std.proofs.Common.{ℕ, List, ◌+◌, ◌-◌, ◌≤◌, ◌≡◌, true, length, take, drop, refl, ap, ◌∙◌, arith, rules, length-take, length-drop}
use Rattle.std.proofs.lemmas.Result.{err_from_is_err_and}
use lib.Seq.{length-take-le, take-take}
use Rattle.wire.specs.Answer.{answer}
use Rattle.wire.specs.Writing.{length_of, within}
use Rattle.wire.proofs.Stores.{room_for, wrote-all, wrote_none}
use Rattle.channel_sequence.specs.Sequences.{bytes_of}
use Rattle.channel_sequence.proofs.Entries.{sequence-written}
use Rattle.exports.specs.Held.{fits, octets}
use Rattle.exports.specs.Sequences.{sequence_of, sequence_bytes}
use Rattle.exports.proofs.Written.{held-sized, part-fits}
use Rattle.exports.proofs.sequence_calls.write_sequence.Goals as goal

sized : (ns : List ℕ) {n : ℕ} → length ns ≡ 33 → length_of (sequence_bytes ns) ≡ answer n →
    let part = take (1 + n - 1) (drop 1 ns) in
    (n ≤ 32) × (sequence_bytes ns ≡ answer part) × (length part ≡ n) × (fits part (octets (length part)) ≡ true)
sized ns {n} whole e =
    let held = held-sized (fits ns (octets 33)) (sequence_of ns) bytes_of e in
    let w = sequence-written (sequence_of ns) (simp (length-take, length-drop) (omega arith)) held.1 in
    let few = w.few in
    let same : 1 + n - 1 ≡ n = omega arith in
    rw same (
      few,
      rw held.0 (w.bytes ∙ ap answer (take-take n 32 (drop 1 ns) few)),
      length-take-le n (drop 1 ns) (simp length-drop (omega arith)),
      part-fits 1 n ns (octets 33) held.0 refl few (omega arith),
    )

pub returns-in_err-size : goal.returns-in_err-size
returns-in_err-size c =
    let p = err_from_is_err_and c.from_residual.result c.from_residual.ensures.1 in
    let s = c.args.buffer.now in
    rw (p.1, p.2) (wrote_none s (sequence_bytes c.args.numbers.now) (c.in_err-size.ensures ∙ ap (within (length s)) c.sequence_told.ensures))

pub put_part-requires-clause-part_value : goal.put_part-requires-clause-part_value
put_part-requires-clause-part_value c =
    (sized c.args.numbers.now (search rules) (room_for c.sequence_told.ensures c.within.ensures c.in_ok-size.was).0).3

pub returns : goal.returns
returns c =
    let settled = room_for c.sequence_told.ensures c.within.ensures c.in_ok-size.was in
    let w = sized c.args.numbers.now (search rules) settled.0 in
    rw w.1 (wrote-all c.put_part.ensures w.2 settled.1)
