-- The size and the room are settled first, and then the fields and the sequence are put.
-- Assumes nothing.
use Rattle.std.proofs.Common.{◌≡◌, ℕ, length, arith, rules}
use Rattle.std.specs.Prelude.{Result, Ok}
use Rattle.std.proofs.lemmas.Result.{err_from_is_err_and}
use Rattle.wire.specs.declared.refusal.Refusal.{Refusal}
use Rattle.wire.specs.Answer.{Answer}
use Rattle.wire.specs.Said.{told}
use Rattle.wire.specs.Writing.{within, length_of}
use Rattle.wire.proofs.Stores.{◌and-then◌, RoomFor, room_for, wrote-sized, nothing-written}
use Rattle.synchronization_parameters.specs.declared.synchronization_parameters_tlv.SynchronizationParametersTLV.{SynchronizationParametersTLV}
use Rattle.synchronization_parameters.specs.SynchronizationBytes.{bytes_of}
use Rattle.synchronization_parameters.proofs.Sizes.{SynchronizationWritten, synchronization-written}
use Rattle.synchronization_parameters.proofs.synchronization_parameters_tlv.SynchronizationParametersTLV.write.Goals as goal

-- where a size was given, it is that of what is written, and the buffer has room for it
record Settled (p : SynchronizationParametersTLV) (n room : ℕ) : Type 0 where
  pub fits : RoomFor (length_of (bytes_of p)) n room
  pub written : SynchronizationWritten p n

settled : (p : SynchronizationParametersTLV) → length p.channel_sequence.channel_sequence.bytes ≡ 32 → {room n : ℕ} {asked : Answer ℕ} {r : Result ℕ Refusal}
    → asked ≡ length_of (bytes_of p) → told r ≡ within room asked → r ≡ Ok n → Settled p n room
settled p whole same said given =
    let room = room_for same said given in
    record { fits = room; written = synchronization-written p whole room.0 }

pub overflow_sub-n : goal.overflow_sub-n
overflow_sub-n c = let w = settled c.args.self (search rules) c.written_size.ensures c.within.ensures c.in_ok-n.was in omega arith

pub slice_bounds-put_slice-count : goal.slice_bounds-put_slice-count
slice_bounds-put_slice-count c = let w = settled c.args.self (search rules) c.written_size.ensures c.within.ensures c.in_ok-n.was in omega arith

pub shared_ref_as_front-put_slice : goal.shared_ref_as_front-put_slice
shared_ref_as_front-put_slice c = let w = settled c.args.self (search rules) c.written_size.ensures c.within.ensures c.in_ok-n.was in omega arith

pub returns-in_err-n : goal.returns-in_err-n
returns-in_err-n c =
    let p = err_from_is_err_and c.from_residual.result c.from_residual.ensures.1 in
    let buf = c.args.buf.now in
    rw (p.1, p.2) (nothing-written buf (bytes_of c.args.self) c.in_err-n.ensures c.written_size.ensures)

pub returns : goal.returns
returns c =
    let self = c.args.self in
    let w = settled self (search rules) c.written_size.ensures c.within.ensures c.in_ok-n.was in
    let channels = (λ room. rw c.head-head.ensures at c.put_slice-at.ensures) and-then (λ room. c.put_slice.ensures) in
    let all = c.put_fields-at.ensures and-then channels in
    wrote-sized (bytes_of self) w.written.bytes w.fits.0 all w.fits.1
