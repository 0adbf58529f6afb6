-- Each line brings a caller nearer to the end of the report: an item takes bytes of the tail, and a value comes once for each.
-- Assumes nothing.
use Prim.Native.Nat.{ℕ, ◌+◌, ◌*◌, ◌-◌, ◌<◌}
use native.Mathlib.Omega.{arith}
use mathlib.Core.Path.{◌≡◌, refl, sym, ap, ◌∙◌}
use mathlib.Core.Bool.{Bool, true, false, cond}
use mathlib.Core.List.{List}
use lib.Dec.{eqb, leb}
use lib.ListN.{length}
use Rattle.std.specs.Prelude.{Option, Some}
use Rattle.wire.specs.Reading.{Reading, read, refused}
use Rattle.tlv_items.specs.declared.item.Item.{Item}
use Rattle.tlv_items.specs.declared.item.Step.{Step}
use Rattle.tlv_items.specs.Items.{step_at}
use Rattle.tlv_items.proofs.Steps.{step-stands}
use Rattle.action_frame.specs.declared.AWDLActionFrame.{AWDLActionFrame}
use Rattle.action_frame.specs.Frames.{header, tail_of}
use Rattle.report.specs.declared.marks.Mark.{Mark}
use Rattle.report.specs.Marks.{Stand, line, nothing, at_header, at_step, mark_behind, stands_at}
use Rattle.report.specs.Shown.{answer_of, Shows}

-- how much is still to come from a mark, at most
abbrev pub ahead : List ℕ → Mark → ℕ
ahead frame Mark.TooLong = 1
ahead frame Mark.Frame = 3 + 2 * length (tail_of frame)
ahead frame (Mark.Item at items) = 2 + 2 * (length (tail_of frame) - at)
ahead frame (Mark.DataPath it next items) = 3 + 2 * (length (tail_of frame) - next)
ahead frame (Mark.Synchronization it next items) = 3 + 2 * (length (tail_of frame) - next)
ahead frame Mark.End = 0

-- the mark behind what stands at a mark is nearer
abbrev Nearer : List ℕ → ℕ → Stand → Type 0
Nearer frame n (line l next) = ahead frame next < n
Nearer frame n nothing = Unit

module _ (frame : List ℕ) where
  behind-nearer : (it : Item) (next items n : ℕ) → 3 + 2 * (length (tail_of frame) - next) < n → ahead frame (mark_behind it next items) < n
  behind-nearer it next items n h = go (eqb it.tlv_type 0x0C) (eqb it.tlv_type 0x04)
    where
      go : (a b : Bool)
          → ahead frame (cond a (Mark.DataPath it next items) (cond b (Mark.Synchronization it next items) (Mark.Item next items))) < n
      go true b = h
      go false true = h
      go false false = omega arith

  step-nearer : (at items : ℕ) (found : Step) → step_at (tail_of frame) at ≡ found → Nearer frame (2 + 2 * (length (tail_of frame) - at)) (at_step items found)
  step-nearer at items (Step.Item it next) e =
      let w = step-stands (tail_of frame) at e in
      behind-nearer it next (items + 1) (2 + 2 * (length (tail_of frame) - at)) (omega arith)
  step-nearer at items Step.Whole e = omega arith
  step-nearer at items (Step.Cut place) e = omega arith

  place-nearer : (at items : ℕ) (a b : Bool)
      → Nearer frame (2 + 2 * (length (tail_of frame) - at)) (cond a (cond b (at_step items (step_at (tail_of frame) at)) nothing) nothing)
  place-nearer at items true true = step-nearer at items (step_at (tail_of frame) at) refl
  place-nearer at items true false = tt
  place-nearer at items false b = tt

  header-nearer : (r : Reading AWDLActionFrame) → Nearer frame (3 + 2 * length (tail_of frame)) (at_header r)
  header-nearer (read f size) = omega arith
  header-nearer (refused why) = omega arith

  nearer : (m : Mark) → Nearer frame (ahead frame m) (stands_at frame m)
  nearer Mark.TooLong = omega arith
  nearer Mark.Frame = header-nearer (header frame 0)
  nearer (Mark.Item at items) = place-nearer at items (leb items at) (leb at (length (tail_of frame)))
  nearer (Mark.DataPath it next items) = omega arith
  nearer (Mark.Synchronization it next items) = omega arith
  nearer Mark.End = tt

  module _ (m : Mark) {s : List ℕ} {r : Option (ℕ × Mark)} {t : List ℕ} {n : ℕ} {next : Mark} (shown : Shows s (stands_at frame m) r t) (e : r ≡ Some (n, next)) where
    -- what a call that showed a line answers is nearer to the end
    pub line-nearer : ahead frame next < ahead frame m
    line-nearer = go (stands_at frame m) (sym shown.answer ∙ e) (nearer m)
      where
        go : (stand : Stand) → answer_of stand ≡ Some (n, next) → Nearer frame (ahead frame m) stand → ahead frame next < ahead frame m
        go (line l next') q h =
            let both : ◌≡◌ {A = ℕ × Mark} (length l, next') (n, next) = cc in
            rw (ap (λ (p : ℕ × Mark). p.1) both) at h
        go nothing q h = cc
