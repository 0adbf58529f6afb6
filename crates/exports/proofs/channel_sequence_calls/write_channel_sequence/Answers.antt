-- What is put is the head, and the entries behind it, after the size and the room were settled.
-- Assumes nothing.
use Rattle.std.proofs.Common.{ℕ, List, ◌-◌, ◌≤◌, ◌≡◌, ◌++◌, true, length, take, drop, refl, ap, ◌∙◌, arith, rules, length-append, length-take, length-drop}
use Rattle.std.proofs.lemmas.Result.{err_from_is_err_and}
use lib.Seq.{length-take-le, take-take, drop-drop}
use Rattle.wire.specs.Answer.{answer}
use Rattle.wire.specs.Writing.{length_of, within}
use Rattle.wire.proofs.Stores.{put_then, room_for, wrote-all, wrote_none}
use Rattle.channel_sequence_tlv.specs.SequenceTLVs.{head_bytes, bytes_of}
use Rattle.channel_sequence_tlv.proofs.SequenceTLVs.{channel-sequence-written}
use Rattle.exports.specs.Held.{fits, octets}
use Rattle.exports.specs.Sequences.{channel_sequence_largest, channel_sequence_of, channel_sequence_bytes}
use Rattle.exports.proofs.Written.{held-sized, part-fits}
use Rattle.exports.proofs.channel_sequence_calls.write_channel_sequence.Goals as goal

sized : (ns : List ℕ) {n : ℕ} → length ns ≡ 36 → length_of (channel_sequence_bytes ns) ≡ answer n →
    let part = take (n - 2 - 4) (drop 4 ns) in
    let bytes = head_bytes (channel_sequence_of ns) ++ part in
    ((6 ≤ n) × (n ≤ 38)) × (channel_sequence_bytes ns ≡ answer bytes) × (length part ≡ n - 6) × (fits part (octets (length part)) ≡ true) × (length bytes ≡ n)
sized ns {n} whole e =
    let held = held-sized (fits ns channel_sequence_largest) (channel_sequence_of ns) bytes_of e in
    let w = channel-sequence-written (channel_sequence_of ns) (simp (length-take, length-drop) (omega arith)) held.1 in
    let few = w.few in
    let head = w.head in
    let same : n - 2 - 4 ≡ n - 6 = omega arith in
    let many : length (take (n - 6) (drop 4 ns)) ≡ n - 6 = length-take-le (n - 6) (drop 4 ns) (simp length-drop (omega arith)) in
    let entries = take-take (n - 6) 32 (drop 1 (drop 3 ns)) (omega arith) ∙ ap (take (n - 6)) (drop-drop 1 3 ns) in
    rw same (
      (head, few),
      rw held.0 (w.bytes ∙ ap (λ b. answer (head_bytes (channel_sequence_of ns) ++ b)) entries),
      many,
      part-fits 4 (n - 6) ns channel_sequence_largest held.0 refl (omega arith) (omega arith),
      length-append (head_bytes (channel_sequence_of ns)) (take (n - 6) (drop 4 ns)) ∙ omega arith,
    )

pub returns-in_err-size : goal.returns-in_err-size
returns-in_err-size c =
    let p = err_from_is_err_and c.from_residual.result c.from_residual.ensures.1 in
    let s = c.args.buffer.now in
    rw (p.1, p.2) (wrote_none s (channel_sequence_bytes c.args.numbers.now) (c.in_err-size.ensures ∙ ap (within (length s)) c.channel_sequence_told.ensures))

pub put_part-requires-clause-part_value : goal.put_part-requires-clause-part_value
put_part-requires-clause-part_value c =
    (sized c.args.numbers.now (search rules) (room_for c.channel_sequence_told.ensures c.within.ensures c.in_ok-size.was).0).3

pub returns : goal.returns
returns c =
    let settled = room_for c.channel_sequence_told.ensures c.within.ensures c.in_ok-size.was in
    let w = sized c.args.numbers.now (search rules) settled.0 in
    let both = put_then c.put_head.ensures c.put_part.ensures (omega (arith, w.0, w.2, settled.1)) in
    rw w.1 (wrote-all both w.4 settled.1)
