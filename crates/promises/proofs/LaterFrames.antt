-- A later frame has the header of the frame and the items that its changes made of the frame's, so that the laws of items and of headers give the rest.
-- Assumes nothing.
use Prim.Native.Nat.{ℕ, ◌≤◌}
use native.Mathlib.Omega.{arith}
use mathlib.Core.Path.{◌≡◌, refl, sym, ap, ◌∙◌}
use mathlib.Core.List.{List, [], ◌∷◌, ◌++◌, append_assoc}
use lib.ListN.{length, take, length-append, take-append-drop}
use lib.Seq.{length-take-le, take_at, drop_at}
use Rattle.wire.specs.Reading.{Reader}
use Rattle.wire.proofs.Lawful.{SameUpTo}
use Rattle.channel_sequence_tlv.specs.SequenceTLVReader.{channel_sequence_record}
use Rattle.data_path_state.specs.DataPath.{data_path}
use Rattle.synchronization_parameters.specs.SynchronizationReader.{synchronization}
use Rattle.tlv_items.specs.Walk.{whole, walk}
use Rattle.tlv_items.specs.ItemBytes.{type_length_value}
use Rattle.action_frame.specs.Frames.{header, tail_of}
use Rattle.tlv_items.specs.Sent.{AllSendable, Sent, sent_in, tail_with}
use Rattle.promises.specs.Later.{Change, further, none, more, WholeFrame, Later, records, received}
use Rattle.promises.proofs.Tails.{spelt, walked-back}
use Rattle.promises.proofs.Takes.{header-same}
use Rattle.promises.proofs.Changes.{records_in, records-sent, synchronizations-kept, data-paths-kept, channel-sequences-kept, changes-fit}

pub whole-written : (frame : List ℕ) → WholeFrame frame → frame ≡ take 12 frame ++ tail_with (sent_in (tail_of frame))
whole-written frame w =
    let s = spelt (tail_of frame) w.bytes w.ending in
    rw s.bytes (sym (take-append-drop 12 frame))

changed-tail : (front : List Sent) {items changed : List Sent} → Change items changed → Change (front ++ items) (front ++ changed)
changed-tail [] c = c
changed-tail (it ∷ front) c = further it (changed-tail front c)

tail-append : (front back : List Sent) → tail_with (front ++ back) ≡ tail_with front ++ tail_with back
tail-append [] back = refl
tail-append (it ∷ front) back =
    ap (λ (r : List ℕ). type_length_value it.type it.value ++ r) (tail-append front back)
    ∙ sym (append_assoc (type_length_value it.type it.value) (tail_with front) (tail_with back))

-- one change at a place between items
pub changed : (frame : List ℕ) (front : List Sent) {items changed : List Sent} → sent_in (tail_of frame) ≡ front ++ items → Change items changed
    → Later frame (take 12 frame ++ (tail_with front ++ tail_with changed))
changed frame front {items} {changed} e c =
    let one : Change (sent_in (tail_of frame)) (front ++ changed) = rw e (changed-tail front c) in
    record {
      items = front ++ changed;
      changes = more one none;
      bytes = ap (λ (r : List ℕ). take 12 frame ++ r) (sym (tail-append front changed));
    }

module _ (before after : List ℕ) (w : WholeFrame before) (later : Later before after) where
  fit : AllSendable later.items
  fit = changes-fit later.changes (spelt (tail_of before) w.bytes w.ending).fit

  front_length : length (take 12 before) ≡ 12
  front_length = length-take-le 12 before w.long

  tail-after : tail_of after ≡ tail_with later.items
  tail-after = rw later.bytes (drop_at (take 12 before) (tail_with later.items) 12 front_length)

  front_same : SameUpTo 12 after before
  front_same = rw later.bytes (take_at (take 12 before) (tail_with later.items) 12 front_length)

  header-after : header after 0 ≡ header before 0
  header-after =
      let long : 12 ≤ length after = rw later.bytes (simp length-append (omega (arith, front_length))) in
      header-same after before long w.long front_same

  pub items-after : (sent_in (tail_of after) ≡ later.items) × ((walk (tail_of after)).ending ≡ whole)
  items-after = let f = walked-back later.items fit in (rw tail-after f.sent, rw tail-after f.ending)

  records-after : {A : Type 0} (type : ℕ) (reader : Reader A)
      → records_in type reader later.items ≡ records_in type reader (sent_in (tail_of before))
      → records type reader (tail_of after) ≡ records type reader (tail_of before)
  records-after type reader kept =
      records-sent type reader (tail_of after)
      ∙ ap (records_in type reader) items-after.0
      ∙ kept
      ∙ sym (records-sent type reader (tail_of before))

  pub received-after : received after ≡ received before
  received-after =
      rw (
        header-after,
        records-after 0x04 synchronization (synchronizations-kept later.changes),
        records-after 0x0C data_path (data-paths-kept later.changes),
        records-after 0x12 channel_sequence_record (channel-sequences-kept later.changes),
      )
