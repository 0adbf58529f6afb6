-- The value of an item is that part of the frame, so that a reader that is short in the one is short in the other, so much further behind.
-- Assumes nothing.
use Prim.Native.Nat.{ℕ, ◌+◌, ◌-◌, ◌≤◌, zero-le}
use native.Mathlib.Nat.{add-zero}
use native.Mathlib.Omega.{arith}
use mathlib.Core.Path.{◌≡◌, sym}
use mathlib.Core.List.{List}
use lib.ListN.{length, take, drop, length-take, length-drop}
use lib.Seq.{drop-drop, length-take-le}
use Rattle.wire.specs.Reading.{Reader}
use Rattle.wire.proofs.Lawful.{Lawful, part-between}
use Rattle.tlv_items.specs.declared.item.Item.{Item}
use Rattle.tlv_items.specs.declared.item.Step.{Step}
use Rattle.tlv_items.specs.Items.{step_at, value_of}
use Rattle.tlv_items.proofs.Steps.{Stands, step-stands, stands-value}
use Rattle.action_frame.specs.Frames.{tail_of}
use Rattle.action_frame.specs.Offsets.{value_in_frame}
use Rattle.action_frame.proofs.Offsets.{offset-inside}
use Rattle.promises.specs.Answers.{ShortInFrame}

module _ (frame : List ℕ) (at : ℕ) {it : Item} {next : ℕ} (found : step_at (tail_of frame) at ≡ Step.Item it next) where
  stood : Stands (tail_of frame) at it next
  stood = step-stands (tail_of frame) at found

  value_found : value_of (tail_of frame) it ≡ take it.length (drop (value_in_frame it) frame)
  value_found =
      let w = stood in
      let many : next - (at + 3) ≡ it.length = omega arith in
      let start : 12 + (at + 3) ≡ value_in_frame it = omega arith in
      rw (stands-value w, many, drop-drop (at + 3) 12 frame, start)

  value-fits : value_in_frame it + it.length ≤ length frame
  value-fits = let w = stood in let behind-header = length-drop 12 frame in omega arith

  value-lies : drop (value_in_frame it) (take (12 + next) frame) ≡ value_of (tail_of frame) it
  value-lies =
      let w = stood in
      let fits = value-fits in
      let ends : 12 + next ≡ value_in_frame it + it.length = omega arith in
      rw (ends, value_found) (part-between (value_in_frame it) it.length frame (omega arith))

pub short-in-frame : {A : Type 0} {reader : Reader A} → Lawful reader → ShortInFrame reader
short-in-frame lawful frame at it next p found e =
    let k : ℕ = value_in_frame it in
    let w = stood frame at found in
    let fits = value-fits frame at found in
    let many : length (take (12 + next) frame) ≡ 12 + next = length-take-le (12 + next) frame (omega arith) in
    let most = length-take it.length (drop k frame) in
    let bounded = rw (value_found frame at found) at (lawful.bounded zero-le e) in
    let here : k ≤ length (take (12 + next) frame) = omega arith in
    let short = lawful.moved-short {s = take (12 + next) frame} {at = 0} {p = p} here (rw (value-lies frame at found) e) in
    record {
      offset = k + p;
      given = sym (offset-inside frame it p fits (omega (arith, bounded.1)));
      lies = value-lies frame at found;
      short = rw (add-zero k) at short;
    }
