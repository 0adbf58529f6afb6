-- The walk's steps are enough, since each item takes some of the bytes left. So it gives what a caller is given who goes on by `step_at`, place by place, and no more.
-- Assumes nothing.
use Prim.Native.Nat.{ℕ, zero, suc, ◌+◌, ◌-◌, ◌<◌}
use native.Mathlib.Omega.{arith}
use mathlib.Core.Path.{◌≡◌, refl, sym, ap, ◌∙◌}
use mathlib.Core.List.{List, []}
use lib.ListN.{length}
use Rattle.tlv_items.specs.declared.item.Item.{Item}
use Rattle.tlv_items.specs.declared.item.Step.{Step}
use Rattle.tlv_items.specs.Items.{step_at}
use Rattle.tlv_items.specs.Walk.{Ending, whole, cut, Walk, go_on, walk_from, walk_at, walk, GivesItems, ends_whole, ends_cut, gives_item, end_report}
use Rattle.tlv_items.proofs.Steps.{step-stands}

-- what is given at a place, and behind it
gives-step : (s : List ℕ) (at : ℕ) (found : Step) (rest : ℕ → Walk) → step_at s at ≡ found
    → ((it : Item) (next : ℕ) → step_at s at ≡ Step.Item it next → GivesItems s next (rest next).items (rest next).ending)
    → let w = go_on found rest in GivesItems s at w.items w.ending
gives-step s at (Step.Item it next) rest e behind = gives_item e (behind it next e)
gives-step s at Step.Whole rest e behind = ends_whole e
gives-step s at (Step.Cut place) rest e behind = ends_cut e

-- a walk in more steps than bytes are left is given, since each item takes some
gives-steps : (m : ℕ) (s : List ℕ) (at : ℕ) → length s - at < m → GivesItems s at (walk_from m s at).items (walk_from m s at).ending
unfolding walk_from
gives-steps zero s at h = absurd (omega arith)
gives-steps (suc m) s at h =
    gives-step s at (step_at s at) (walk_from m s) refl (λ it next e. let w = step-stands s at e in gives-steps m s next (omega arith))

-- from any place, and from the tail's start
pub gives-walk-at : (s : List ℕ) (at : ℕ) → GivesItems s at (walk_at s at).items (walk_at s at).ending
gives-walk-at s at = gives-steps (suc (length s - at)) s at (omega arith)

pub gives-walk : (s : List ℕ) → GivesItems s 0 (walk s).items (walk s).ending
gives-walk s = gives-walk-at s 0

-- whatever a caller is given is that walk
only-steps : (m : ℕ) {s : List ℕ} {at : ℕ} {items : List Item} {ending : Ending} → length s - at < m → GivesItems s at items ending
    → walk_from m s at ≡ record { items = items; ending = ending }
unfolding walk_from
only-steps zero h g = absurd (omega arith)
only-steps (suc m) h (ends_whole e) = rw e
only-steps (suc m) h (ends_cut e) = rw e
only-steps (suc m) {s} {at} h (gives_item e g) = let w = step-stands s at e in rw (e, only-steps m (omega arith) g)

only-walk : {s : List ℕ} {at : ℕ} {items : List Item} {ending : Ending} → GivesItems s at items ending
    → walk_at s at ≡ record { items = items; ending = ending }
only-walk {s} {at} g = only-steps (suc (length s - at)) (omega arith) g

-- so two callers that start at one place are given the same
pub gives-walk-once : {s : List ℕ} {at : ℕ} {xs ys : List Item} {x y : Ending} → GivesItems s at xs x → GivesItems s at ys y
    → (xs ≡ ys) × (x ≡ y)
gives-walk-once g h =
    let same = sym (only-walk g) ∙ only-walk h in
    (ap (λ (w : Walk). w.items) same, ap (λ (w : Walk). w.ending) same)

-- what the walk gives from a place: what stands there, and then what it gives from the next place
pub walk-goes : (s : List ℕ) (at : ℕ) {found : Step} → step_at s at ≡ found → walk_at s at ≡ go_on found (walk_at s)
walk-goes s at {found = Step.Item it next} e = only-walk (gives_item e (gives-walk-at s next))
walk-goes s at {found = Step.Whole} e = only-walk (ends_whole e)
walk-goes s at {found = Step.Cut place} e = only-walk (ends_cut e)

-- what a step finds where a walk ends
abbrev pub last_step : Ending → Step
last_step whole = Step.Whole
last_step (cut at) = Step.Cut at

-- a walk that gives no item from a place
ends_at : (s : List ℕ) (at : ℕ) (last : Ending) → step_at s at ≡ last_step last → walk_at s at ≡ record { items = []; ending = last }
ends_at s at whole e = walk-goes s at e
ends_at s at (cut place) e = walk-goes s at e

-- what was counted up to a place and what the walk still gives are together what it gives from the start
pub record CountedTo (s : List ℕ) (at n : ℕ) : Type 0 where
  pub count : n + length (walk_at s at).items ≡ length (walk s).items
  pub ending : (walk_at s at).ending ≡ (walk s).ending

pub counted_none : (s : List ℕ) → CountedTo s 0 0
counted_none s = record { count = omega arith; ending = refl }

pub counted-item : {s : List ℕ} {at n : ℕ} {it : Item} {next : ℕ} → CountedTo s at n → step_at s at ≡ Step.Item it next → CountedTo s next (n + 1)
counted-item {s} {at} w e =
    let goes = walk-goes s at e in
    let more = ap (λ (w : Walk). length w.items) goes in
    record { count = omega arith; ending = sym (ap (λ (w : Walk). w.ending) goes) ∙ w.ending }

pub counted-all : {s : List ℕ} {at n : ℕ} (last : Ending) → CountedTo s at n → step_at s at ≡ last_step last
    → record { count = n; ending = last } ≡ end_report (walk s)
counted-all {s} {at} {n} last w e =
    let ends = ends_at s at last e in
    let none = ap (λ (w : Walk). length w.items) ends in
    let all : length (walk s).items ≡ n = omega arith in
    rw (all, ← w.ending, ends)
