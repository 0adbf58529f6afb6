-- A step that finds an item finds it at its place, whole and within the tail, because each of the three fields was read. A step that ends the walk ends it there.
-- Assumes nothing.
use Prim.Native.Nat.{ℕ, ◌+◌, ◌-◌, ◌≤◌}
use native.Mathlib.Nat.{zero-add}
use native.Mathlib.Omega.{arith}
use mathlib.Core.Path.{◌≡◌, refl, sym, ap, ◌∙◌}
use mathlib.Core.Bool.{Bool, true, false, cond}
use mathlib.Core.List.{List}
use lib.Dec.{eqb}
use lib.ListN.{length, take, drop}
use borrow.Author.Tests.{eqb-true, le-leb}
use Rattle.wire.specs.Reading.{Reading, read, refused, field, give, ◌>>=◌}
use Rattle.wire.specs.Numbers.{number, little}
use Rattle.wire.specs.Parts.{part_at}
use Rattle.tlv_items.specs.declared.item.Item.{Item}
use Rattle.tlv_items.specs.declared.item.Step.{Step}
use Rattle.tlv_items.specs.Items.{item, step_of, step_at}
use Rattle.wire.proofs.Lawful.{steps}
use Rattle.wire.proofs.Places.{field-inside, made_inside}

-- an item at a place: it keeps the place, the next place is behind its value, and that one is within the tail
pub record Stands (tail : List ℕ) (at : ℕ) (it : Item) (next : ℕ) : Type 0 where
  pub place : it.at ≡ at
  pub behind : next ≡ at + 3 + it.length
  pub inside : next ≤ length tail

stands : (s : List ℕ) (at : ℕ) {it : Item} {next : ℕ} → item at s at ≡ read it next → Stands s at it next
stands s at {it} {next} e =
    let made : ℕ → ℕ → Item = λ type size. record { at = at; tlv_type = type; length = size } in
    let p = steps (number 1 s at) (λ type mid. (number 2 >>= λ size. field size >>= λ value. give (made type size)) s mid) e in
    let q = steps (number 2 s p.mid) (λ size mid. (field size >>= λ value. give (made p.first size)) s mid) p.goes in
    let r = steps (field q.first s q.mid) (λ value mid. read (made p.first q.first) mid) q.goes in
    let one = made_inside 1 s at little p.begins in
    let two = made_inside 2 s p.mid little q.begins in
    let three = field-inside q.first s q.mid {a = r.first} {next = r.mid} r.begins in
    let same : made p.first q.first ≡ it = let e' = r.goes in cc in
    let last : r.mid ≡ next = let e' = r.goes in cc in
    let size : q.first ≡ it.length = ap (λ (x : Item). x.length) same in
    record { place = sym (ap (λ (x : Item). x.at) same); behind = omega arith; inside = omega arith }

-- so its value is read where it stands, and is the part up to the next place
pub stands-value : {s : List ℕ} {at : ℕ} {it : Item} {next : ℕ} → Stands s at it next
    → field it.length s (it.at + 3) ≡ read (take (next - (at + 3)) (drop (at + 3) s)) next
stands-value {s} {at} {it} {next} w =
    let many : next - (at + 3) ≡ it.length = omega arith in
    let fits : at + 3 + it.length ≤ length s = omega arith in
    rw (w.place, le-leb (at + 3 + it.length) (length s) fits, many, w.behind)

pub step-stands : (s : List ℕ) (at : ℕ) {it : Item} {next : ℕ} → step_at s at ≡ Step.Item it next → Stands s at it next
unfolding step_at
step-stands s at {it} {next} e = go (eqb at (length s)) (item at s at) refl e
  where
    go : (b : Bool) (r : Reading Item) → item at s at ≡ r → cond b Step.Whole (step_of at r) ≡ Step.Item it next → Stands s at it next
    go true r q e = absurd (cc)
    go false (read it' next') q e =
        let same : it' ≡ it = cc in
        let last : next' ≡ next = cc in
        stands s at (q ∙ rw (same, last))
    go false (refused why) q e = absurd (cc)

-- whole is the end of the tail, and a cut is at the place that was asked
pub step-whole : (s : List ℕ) (at : ℕ) → step_at s at ≡ Step.Whole → at ≡ length s
unfolding step_at
step-whole s at e = go (eqb at (length s)) refl (item at s at) e
  where
    go : (b : Bool) → eqb at (length s) ≡ b → (r : Reading Item) → cond b Step.Whole (step_of at r) ≡ Step.Whole → at ≡ length s
    go true q r e = eqb-true at (length s) q
    go false q (read it next) e = absurd (cc)
    go false q (refused why) e = absurd (cc)

pub step_cut : (s : List ℕ) (at : ℕ) {place : ℕ} → step_at s at ≡ Step.Cut place → place ≡ at
unfolding step_at
step_cut s at {place} e = go (eqb at (length s)) (item at s at) e
  where
    go : (b : Bool) (r : Reading Item) → cond b Step.Whole (step_of at r) ≡ Step.Cut place → place ≡ at
    go true r e = absurd (cc)
    go false (read it next) e = absurd (cc)
    go false (refused why) e = cc

-- a part from the start on lies where the slice does
pub at-start : (p : ℕ × ℕ) → p ≡ part_at 0 p
at-start p = ap (λ (offset : ℕ). (p.0, offset)) (sym (zero-add p.1))
