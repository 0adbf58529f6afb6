-- A consistent record fills its size and is read back: one law over the format, which each crate's own round trip meets.
-- Assumes nothing.
use Prim.Native.Nat.{ℕ}
use native.Mathlib.Nat.{zero-add}
use mathlib.Core.Path.{◌≡◌, refl, sym, ap, ◌∙◌}
use mathlib.Core.Bool.{true}
use mathlib.Core.List.{List, [], ◌++◌}
use lib.Dec.{leb}
use lib.ListN.{length, drop}
use lib.Seq.{take-append_seam}
use borrow.Author.Tests.{le-leb}
use Rattle.wire.specs.Reading.{Reader, read}
use Rattle.wire.specs.Answer.{answer}
use Rattle.wire.proofs.ReadsBack.{Back}
use Rattle.channel_sequence.proofs.RoundTrip as Q
use Rattle.channel_sequence_tlv.proofs.SequenceTLVs as C
use Rattle.data_path_state.specs.Bytes.{record_bytes}
use Rattle.data_path_state.proofs.Sizes.{length-record}
use Rattle.data_path_state.proofs.RoundTrip as D
use Rattle.synchronization_parameters.proofs.RoundTrip as S
use Rattle.tlv_items.specs.declared.item.Step.{Step}
use Rattle.tlv_items.specs.Walk.{whole, walk}
use Rattle.tlv_items.specs.ItemBytes.{type_length_value}
use Rattle.tlv_items.proofs.Sizes.{sized-bytes, item-length}
use Rattle.tlv_items.proofs.RoundTrip as T
use Rattle.action_frame.specs.Frames as F'
use Rattle.action_frame.proofs.RoundTrip as F
use Rattle.tlv_items.specs.Sent.{Sent, AllSendable, sent_in, tail_with}
use Rattle.promises.specs.Formats.{Format, Fills, RoundTrip, sequences, sequences_in, channel_sequences, data_paths, synchronizations, items, frames}
use Rattle.promises.proofs.Tails.{walked-back}

-- what is read back with anything behind is read back from a buffer
fills : (F : Format) (r : F.Record) (bytes : List ℕ) → F.bytes r ≡ answer bytes → F.size r ≡ answer (length bytes)
    → ((behind : List ℕ) → F.ReadAs r (bytes ++ behind) (length bytes)) → Fills F r
fills F r bytes written size found =
    record {
      bytes = bytes;
      written = written;
      size = size;
      found = found;
      filled = λ s said after room w.
          let fits : leb (length bytes) (length s) ≡ true = le-leb (length bytes) (length s) room in
          let down : after ≡ bytes ++ drop (length bytes) s = w.buffer ∙ rw (written, fits) in
          (w.size ∙ rw (written, fits), down, rw down (found (drop (length bytes) s)));
    }

-- from the start of the bytes
start : {A : Type 0} {r : Reader A} {bytes : List ℕ} {a : A} → Back r bytes a → (behind : List ℕ) → r (bytes ++ behind) 0 ≡ read a (length bytes)
start {bytes = bytes} {a = a} b behind = b.back [] behind ∙ ap (read a) (zero-add (length bytes))

pub sequence-round : RoundTrip sequences
sequence-round q ok = let w = Q.round_trip q ok.0 ok.1 in fills sequences q w.bytes (w.written ok.2) w.size (start w.back)

pub sequence-in-round : (encoding : ℕ) → RoundTrip (sequences_in encoding)
sequence-in-round encoding q ok =
    let w = sequence-round q ok.1 in
    fills (sequences_in encoding) q w.bytes w.written w.size (λ behind. rw (← ok.0) (w.found behind))

pub channel-sequence-round : RoundTrip channel_sequences
channel-sequence-round c ok =
    let w = C.round_trip c ok.0 ok.1 ok.2 in
    fills channel_sequences c w.bytes (w.written ok.3) w.size (start w.back)

pub data-path-round : RoundTrip data_paths
data-path-round r ok =
    fills data_paths r (record_bytes r) (rw ok.1) (rw (ok.1, length-record r ok.1)) (start (D.record-back r ok.0 ok.1))

pub synchronization-round : RoundTrip synchronizations
synchronization-round p ok =
    let w = S.round_trip p ok.0 ok.1 ok.2 in
    fills synchronizations p w.bytes (w.written ok.3) w.size (start w.back)

pub item-round : RoundTrip items
item-round it ok =
    let fits : leb (length it.value) 65535 ≡ true = le-leb (length it.value) 65535 ok.short in
    fills items it (type_length_value it.type it.value) (sized-bytes it.type it.value ok.short)
    (rw fits (ap answer (sym (item-length it.type it.value))))
    (λ behind. (T.step_back it ok [] behind ∙ ap (Step.Item (T.item_at 0 it)) (zero-add (length (T.bytes_of it))), T.value-back it [] behind))

pub frame-round : RoundTrip frames
frame-round f ok =
    let bytes : List ℕ = F'.bytes_of f.head f.tail in
    let w = F.round_trip f.head f.tail ok in
    fills frames f bytes refl (ap answer (sym w.size))
    (λ behind. (w.head behind, ap F'.tail_of (take-append_seam bytes behind) ∙ w.rest))

pub tail-round : (its : List Sent) → AllSendable its → (sent_in (tail_with its) ≡ its) × ((walk (tail_with its)).ending ≡ whole)
tail-round its ok = let w = walked-back its ok in (w.sent, w.ending)
