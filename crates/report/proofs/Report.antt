-- A caller who goes on from mark to mark is given the lines of the whole input and no other, since the walk goes on from place to place.
-- Assumes nothing.
use Prim.Native.Nat.{ℕ, zero, suc, ◌+◌, ◌-◌, ◌≤◌, ◌<◌}
use native.Mathlib.Nat.{add-zero, zero-add}
use native.Mathlib.Omega.{arith}
use mathlib.Core.Path.{◌≡◌, refl, sym, ap, subst, ◌∙◌}
use mathlib.Core.Bool.{Bool, true, false, cond}
use mathlib.Core.List.{List, [], ◌∷◌, ◌++◌, append_assoc}
use lib.Dec.{eqb, leb}
use lib.ListN.{length}
use Rattle.wire.specs.Reading.{Reading, read, refused}
use Rattle.tlv_items.specs.declared.item.Item.{Item}
use Rattle.tlv_items.specs.declared.item.Step.{Step}
use Rattle.tlv_items.specs.Items.{step_at}
use Rattle.tlv_items.specs.Walk.{whole, cut, Walk, go_on, walk_at, walk}
use Rattle.tlv_items.proofs.Steps.{step-stands}
use Rattle.tlv_items.proofs.Walks.{walk-goes}
use Rattle.action_frame.specs.declared.AWDLActionFrame.{AWDLActionFrame}
use Rattle.action_frame.specs.Frames.{header, tail_of}
use Rattle.report.specs.declared.marks.Mark.{Mark}
use Rattle.report.specs.Lines.{value_lines, items_lines, end_line, lines_of, frame_lines, too_long, dump_lines}
use Rattle.report.specs.Marks.{at_header, mark_behind, first_mark, GivesLines, done, more}
use Rattle.report.proofs.Places.{steps-to}

-- the lines of a walk that has some items behind it
abbrev left : List ℕ → ℕ → Walk → List (List ℕ)
left tail items w = items_lines tail w.items ++ (end_line (items + length w.items) w.ending ∷ [])

regroup : (v r : List (List ℕ)) (items n : ℕ) (end : ℕ → List ℕ)
    → (v ++ r) ++ (end (items + suc n) ∷ []) ≡ v ++ (r ++ (end (items + 1 + n) ∷ []))
regroup v r items n end =
    let same : items + suc n ≡ items + 1 + n = omega arith in
    rw (append_assoc v r (end (items + suc n) ∷ []), same)

module _ (frame : List ℕ) where
  -- behind an item's line comes the line of its value, where it has one
  value-first : (it : Item) (next items : ℕ) (rest : List (List ℕ)) → GivesLines frame (Mark.Item next items) rest
      → GivesLines frame (mark_behind it next items) (value_lines (tail_of frame) it ++ rest)
  value-first it next items rest g = go (eqb it.tlv_type 0x0C) refl (eqb it.tlv_type 0x04) refl
    where
      go : (a : Bool) → eqb it.tlv_type 0x0C ≡ a → (b : Bool) → eqb it.tlv_type 0x04 ≡ b
          → GivesLines frame (mark_behind it next items) (value_lines (tail_of frame) it ++ rest)
      go true e b f = rw e (more refl g)
      go false e true f = rw (e, f) (more refl g)
      go false e false f = rw (e, f) g

  by-step : (at items : ℕ) (found : Step) → step_at (tail_of frame) at ≡ found → items ≤ at → at ≤ length (tail_of frame)
      → ((it : Item) (next : ℕ) → step_at (tail_of frame) at ≡ Step.Item it next
      → GivesLines frame (Mark.Item next (items + 1)) (left (tail_of frame) (items + 1) (walk_at (tail_of frame) next)))
      → GivesLines frame (Mark.Item at items) (left (tail_of frame) items (go_on found (walk_at (tail_of frame))))
  by-step at items (Step.Item it next) e h k rest =
      let w = walk_at (tail_of frame) next in
      let behind = value-first it next (items + 1) (left (tail_of frame) (items + 1) w) (rest it next e) in
      more (steps-to (tail_of frame) at items h k e)
      (subst (GivesLines frame (mark_behind it next (items + 1)))
      (sym (regroup (value_lines (tail_of frame) it) (items_lines (tail_of frame) w.items) items (length w.items) (λ n. end_line n w.ending)))
      behind)
  by-step at items Step.Whole e h k rest =
      more {next = Mark.End} {l = end_line (items + 0) whole} (steps-to (tail_of frame) at items h k e ∙ rw (add-zero items)) (done refl)
  by-step at items (Step.Cut place) e h k rest =
      more {next = Mark.End} {l = end_line (items + 0) (cut place)} (steps-to (tail_of frame) at items h k e ∙ rw (add-zero items)) (done refl)

  gives-place : (m at items : ℕ) → length (tail_of frame) - at < m → items ≤ at → at ≤ length (tail_of frame)
      → GivesLines frame (Mark.Item at items) (left (tail_of frame) items (walk_at (tail_of frame) at))
  gives-place zero at items l h k = absurd (omega arith)
  gives-place (suc m) at items l h k =
      rw (walk-goes (tail_of frame) at refl)
      (by-step at items (step_at (tail_of frame) at) refl h k
      (λ it next e. let w = step-stands (tail_of frame) at e in gives-place m next (items + 1) (omega arith) (omega arith) (omega arith)))

  -- the lines of a frame, whatever its length
  pub gives-frame : GivesLines frame Mark.Frame (frame_lines frame)
  gives-frame = go (header frame 0) refl
    where
      go : (r : Reading AWDLActionFrame) → header frame 0 ≡ r → GivesLines frame Mark.Frame (lines_of frame r)
      go (read f size) e =
          let rest = gives-place (suc (length (tail_of frame))) 0 0 (omega arith) (omega arith) (omega arith) in
          more (ap at_header e) (rw (zero-add (length (walk (tail_of frame)).items)) at rest)
      go (refused why) e = more (ap at_header e) (done refl)

  -- what the dump shows
  pub gives-dump : GivesLines frame (first_mark frame) (dump_lines frame)
  gives-dump = go (leb (length frame) 4096)
    where
      go : (b : Bool) → GivesLines frame (cond b Mark.Frame Mark.TooLong) (cond b (frame_lines frame) (too_long ∷ []))
      go true = gives-frame
      go false = more refl (done refl)

  -- no other lines are given
  pub gives-once : {m : Mark} {xs ys : List (List ℕ)} → GivesLines frame m xs → GivesLines frame m ys → xs ≡ ys
  gives-once (done e) (done f) = refl
  gives-once (done e) (more f h) = let q = sym e ∙ f in cc
  gives-once (more e g) (done f) = let q = sym e ∙ f in cc
  gives-once (more {next = n₁} {l = l₁} e g) (more {next = n₂} {l = l₂} {rest = ys} f h) =
      let q = sym e ∙ f in
      let same : l₁ ≡ l₂ = cc in
      let next : n₁ ≡ n₂ = cc in
      rw (same, gives-once {ys = ys} g (rw next h))
