-- What is put is the fixed part, the head, and the entries behind it, after the size and the room were settled.
-- Assumes nothing.
use Rattle.std.proofs.Common.{ℕ, List, ◌-◌, ◌≤◌, ◌≡◌, ◌++◌, true, length, take, drop, refl, ap, ◌∙◌, arith, rules, append_assoc, length-append, length-take, length-drop}
use Rattle.std.proofs.lemmas.Result.{err_from_is_err_and}
use lib.ListN.{take-append-drop}
use lib.Seq.{length-take-le, take-take, take_all, drop-drop}
use Rattle.wire.specs.Answer.{answer}
use Rattle.wire.specs.Writing.{length_of, within}
use Rattle.wire.proofs.Stores.{put_then, put-length, room_for, wrote-all, wrote_none}
use Rattle.channel_sequence_tlv.specs.SequenceTLVs.{head_bytes}
use Rattle.synchronization_parameters.specs.SynchronizationBytes.{fixed_bytes, bytes_of}
use Rattle.synchronization_parameters.proofs.Sizes.{length-fixed, synchronization-written}
use Rattle.exports.specs.Held.{fits, octets}
use Rattle.exports.specs.Sequences.{channel_sequence_of}
use Rattle.exports.specs.Synchronizations.{synchronization_largest, synchronization_of, synchronization_bytes}
use Rattle.exports.proofs.Fits.{fits-part}
use Rattle.exports.proofs.Written.{held-sized, part-fits, put_same}
use Rattle.exports.proofs.synchronization_calls.write_synchronization.Goals as goal

sized : (ns : List ℕ) {n : ℕ} → length ns ≡ 60 → length_of (synchronization_bytes ns) ≡ answer n →
    let part = take (n - 11 - 28) (drop 28 ns) in
    let bytes = fixed_bytes (synchronization_of ns) ++ (head_bytes (channel_sequence_of (drop 24 ns)) ++ part) in
    (fits ns synchronization_largest ≡ true) × ((39 ≤ n) × (n ≤ 71)) × (synchronization_bytes ns ≡ answer bytes)
    × (length part ≡ n - 39) × (fits part (octets (length part)) ≡ true) × (length bytes ≡ n)
sized ns {n} long e =
    let p = synchronization_of ns in
    let r = channel_sequence_of (drop 24 ns) in
    let held = held-sized (fits ns synchronization_largest) p bytes_of e in
    let w = synchronization-written p (simp (length-take, length-drop) (omega arith)) held.1 in
    let few = w.few in
    let head = w.head in
    let same : n - 11 - 28 ≡ n - 39 = omega arith in
    let less : n - 33 - 6 ≡ n - 39 = omega arith in
    let many : length (take (n - 39) (drop 28 ns)) ≡ n - 39 = length-take-le (n - 39) (drop 28 ns) (simp length-drop (omega arith)) in
    let entries =
    take-take (n - 39) 32 (drop 1 (drop 3 (drop 24 ns))) (omega arith) ∙ ap (take (n - 39)) (drop-drop 1 3 (drop 24 ns) ∙ drop-drop 4 24 ns) in
    let written = rw less at w.bytes in
    rw same (
      held.0,
      (head, few),
      rw held.0 (written ∙ ap (λ b. answer (fixed_bytes p ++ (head_bytes r ++ b))) entries),
      many,
      part-fits 28 (n - 39) ns synchronization_largest held.0 refl (omega arith) (omega arith),
      omega (
        arith,
        length-append (fixed_bytes p) (head_bytes r ++ take (n - 39) (drop 28 ns)),
        length-append (head_bytes r) (take (n - 39) (drop 28 ns)),
        length-fixed p,
        many,
      ),
    )

pub returns-in_err-size : goal.returns-in_err-size
returns-in_err-size c =
    let p = err_from_is_err_and c.from_residual.result c.from_residual.ensures.1 in
    let s = c.args.buffer.now in
    rw (p.1, p.2) (wrote_none s (synchronization_bytes c.args.numbers.now) (c.in_err-size.ensures ∙ ap (within (length s)) c.synchronization_told.ensures))

pub put_front-requires-clause-in_bounds : goal.put_front-requires-clause-in_bounds
put_front-requires-clause-in_bounds c =
    let settled = room_for c.synchronization_told.ensures c.within.ensures c.in_ok-size.was in
    omega (arith, (sized c.args.numbers.now (search rules) settled.0).1, settled.1)

pub put_rest-requires-clause-in_bounds : goal.put_rest-requires-clause-in_bounds
put_rest-requires-clause-in_bounds c =
    let settled = room_for c.synchronization_told.ensures c.within.ensures c.in_ok-size.was in
    omega (arith, (sized c.args.numbers.now (search rules) settled.0).1, settled.1, put-length c.put_front.ensures)

pub put_head-requires-clause-largest_value : goal.put_head-requires-clause-largest_value
put_head-requires-clause-largest_value c =
    let ns = c.args.numbers.now in
    let settled = room_for c.synchronization_told.ensures c.within.ensures c.in_ok-size.was in
    fits-part 24 36 ns synchronization_largest (sized ns (search rules) settled.0).0

pub put_head-requires-clause-at_in_bounds : goal.put_head-requires-clause-at_in_bounds
put_head-requires-clause-at_in_bounds c =
    let settled = room_for c.synchronization_told.ensures c.within.ensures c.in_ok-size.was in
    omega (arith, (sized c.args.numbers.now (search rules) settled.0).1, settled.1, put-length c.put_front.ensures, put-length c.put_rest.ensures)

pub overflow_sub-size : goal.overflow_sub-size
overflow_sub-size c =
    let settled = room_for c.synchronization_told.ensures c.within.ensures c.in_ok-size.was in
    omega (arith, (sized c.args.numbers.now (search rules) settled.0).1)

pub slice_bounds-put_part-count : goal.slice_bounds-put_part-count
slice_bounds-put_part-count c =
    let settled = room_for c.synchronization_told.ensures c.within.ensures c.in_ok-size.was in
    omega (arith, (sized c.args.numbers.now (search rules) settled.0).1)

pub slice_bounds-put_part-start : goal.slice_bounds-put_part-start
slice_bounds-put_part-start c =
    let settled = room_for c.synchronization_told.ensures c.within.ensures c.in_ok-size.was in
    omega (arith, (sized c.args.numbers.now (search rules) settled.0).1)

pub slice_bounds-put_part-end : goal.slice_bounds-put_part-end
slice_bounds-put_part-end c =
    let ns = c.args.numbers.now in
    let long : length ns ≡ 60 = search rules in
    let settled = room_for c.synchronization_told.ensures c.within.ensures c.in_ok-size.was in
    omega (arith, (sized ns long settled.0).1, long)

pub put_part-requires-clause-part_value : goal.put_part-requires-clause-part_value
put_part-requires-clause-part_value c =
    (sized c.args.numbers.now (search rules) (room_for c.synchronization_told.ensures c.within.ensures c.in_ok-size.was).0).4

pub returns : goal.returns
unfolding fixed_bytes
returns c =
    let ns = c.args.numbers.now in
    let long : length ns ≡ 60 = search rules in
    let settled = room_for c.synchronization_told.ensures c.within.ensures c.in_ok-size.was in
    let w = sized ns long settled.0 in
    let p = synchronization_of ns in
    let all : take 36 (drop 24 ns) ≡ drop 24 ns = take_all 36 (drop 24 ns) (simp length-drop (omega arith)) in
    let fixed = put_same (take-append-drop 17 (fixed_bytes p)) (put_then c.put_front.ensures c.put_rest.ensures (omega (arith, w.1, settled.1))) in
    let head = put_then fixed (rw all at c.put_head.ensures) (omega (arith, w.1, settled.1)) in
    let both = put_then head c.put_part.ensures (omega (arith, w.1, w.3, settled.1)) in
    rw w.2 (wrote-all (put_same (append_assoc (fixed_bytes p) (head_bytes (channel_sequence_of (drop 24 ns))) _) both) w.5 settled.1)
