-- What a search meets from a place is what it meets in the item there and then from the place behind it, since the walk goes so. So a caller who goes on behind each find is given all there is, and no more.
-- Assumes nothing.
use Prim.Native.Nat.{ℕ, zero, suc, ◌-◌, ◌≤◌, ◌<◌}
use native.Mathlib.Omega.{arith}
use mathlib.Core.Path.{◌≡◌, refl, sym, ap, ◌∙◌}
use mathlib.Core.Bool.{Bool, true, false, cond}
use mathlib.Core.List.{List, [], ◌∷◌, ◌++◌}
use lib.Dec.{eqb}
use lib.ListN.{length}
use borrow.Author.Tests.{eq-eqb, ne_eqb}
use Rattle.wire.specs.declared.refusal.Refusal.{Refusal}
use Rattle.wire.specs.Reading.{Reading, Reader, read, refused}
use Rattle.tlv_items.specs.declared.item.Item.{Item}
use Rattle.tlv_items.specs.declared.item.Step.{Step}
use Rattle.tlv_items.specs.Items.{step_at, value_of}
use Rattle.tlv_items.specs.Walk.{Ending, Walk, GivesItems, ends_whole, ends_cut, gives_item}
use Rattle.tlvs.specs.Search.{Match, kept, matched, accepted, all_from, all_of, Search, found, nothing, behind_item, first_of, next_from, GivesRecords, ends_search, gives_record}
use Rattle.tlv_items.proofs.Steps.{step-stands}
use Rattle.tlv_items.proofs.Walks.{gives-walk-at, walk-goes}

-- where a step finds an item, the next place is behind it, and fewer bytes are left from there
step-behind : (s : List ℕ) (at : ℕ) {it : Item} {next : ℕ} → Step.Item it next ≡ step_at s at → next ≡ behind_item it
step-behind s at e = let w = step-stands s at (sym e) in omega arith

pub step_less : (s : List ℕ) (at : ℕ) {it : Item} {next : ℕ} → Step.Item it next ≡ step_at s at → length s - next < length s - at
step_less s at e = let w = step-stands s at (sym e) in omega arith

-- a step that ends the walk: it is no item
abbrev pub Last : Step → Type 0
Last last = (it : Item) (next : ℕ) → last ≡ Step.Item it next → ⊥

-- one item gives no record, or its own
data One {A : Type 0} (it : Item) : List (Match A) → Type 0 where
  passed : One it []
  took : (a : A) → One it (record { content = a; item = it } ∷ [])

-- what is found from a place on lies ahead, and all there is from the place is it and then all from the place behind it
pub record Finds {A : Type 0} (n : ℕ) (r : Reader A) (s : List ℕ) (at : ℕ) (a : A) (it : Item) (next : ℕ) : Type 0 where
  pub ahead : at < next
  pub inside : next ≤ length s
  pub all : all_from n r s at ≡ record { content = a; item = it } ∷ all_from n r s next

module _ {A : Type 0} (n : ℕ) (r : Reader A) (s : List ℕ) where
  -- what an item gives, by its type and by what the reader finds in its value
  other-type : (it : Item) → (it.tlv_type ≡ n → ⊥) → matched n r s it ≡ []
  unfolding matched
  other-type it other = rw (ne_eqb it.tlv_type n other)

  value-refused : (it : Item) {value : List ℕ} {why : Refusal} → it.tlv_type ≡ n → value ≡ value_of s it → r value 0 ≡ refused why
      → matched n r s it ≡ []
  unfolding matched
  value-refused it type here e = rw (eq-eqb it.tlv_type n type, ← here, e)

  value_read : (it : Item) {value : List ℕ} {a : A} {size : ℕ} → it.tlv_type ≡ n → value ≡ value_of s it → r value 0 ≡ read a size
      → matched n r s it ≡ record { content = a; item = it } ∷ []
  unfolding matched
  value_read it type here e = rw (eq-eqb it.tlv_type n type, ← here, e)

  all-item : (at : ℕ) {it : Item} {next : ℕ} {here : List (Match A)} → step_at s at ≡ Step.Item it next → matched n r s it ≡ here
      → all_from n r s at ≡ here ++ all_from n r s next
  unfolding all_from
  all-item at e h = rw (← h) (ap (λ (w : Walk). accepted n r s w.items) (walk-goes s at e))

  all-last : (at : ℕ) (last : Step) → step_at s at ≡ last → Last last → all_from n r s at ≡ []
  unfolding all_from
  all-last at (Step.Item it next) e k = absurd (k it next refl)
  all-last at Step.Whole e k = ap (λ (w : Walk). accepted n r s w.items) (walk-goes s at e)
  all-last at (Step.Cut place) e k = ap (λ (w : Walk). accepted n r s w.items) (walk-goes s at e)

  -- Of a search that came from one place to another, with the same still to be found: it takes the record of the item there,
  -- or passes over the item, or ends where the walk does.
  search-takes : (from at : ℕ) {it : Item} {next : ℕ} {a : A} → next_from n r s from ≡ next_from n r s at → Step.Item it next ≡ step_at s at
      → matched n r s it ≡ record { content = a; item = it } ∷ [] → found a it next ≡ next_from n r s from
  search-takes from at {it = it} {a = a} same e h = ap (found a it) (step-behind s at e) ∙ sym (same ∙ ap first_of (all-item at (sym e) h))

  search-passes : (from at : ℕ) {it : Item} {next : ℕ} → next_from n r s from ≡ next_from n r s at → Step.Item it next ≡ step_at s at
      → matched n r s it ≡ [] → next_from n r s from ≡ next_from n r s next
  search-passes from at same e h = same ∙ ap first_of (all-item at (sym e) h)

  pub search-ends : (from at : ℕ) {last : Step} → next_from n r s from ≡ next_from n r s at → last ≡ step_at s at → Last last
      → nothing ≡ next_from n r s from
  search-ends from at {last} same p k = sym (same ∙ ap first_of (all-last at last (sym p) k))

  -- the same, by what a turn knows of the item and of its value
  pub passes-other : (from at : ℕ) {next : ℕ} {it : Item} → Step.Item it next ≡ step_at s at → next_from n r s from ≡ next_from n r s at
      → (it.tlv_type ≡ n → ⊥) → next_from n r s from ≡ next_from n r s next
  passes-other from at {it = it} e same other = search-passes from at same e (other-type it other)

  pub passes-refused : (from at : ℕ) {next : ℕ} {it : Item} {value : List ℕ} {why : Refusal} {m : ℕ} → Step.Item it next ≡ step_at s at
      → next_from n r s from ≡ next_from n r s at → it.tlv_type ≡ m → m ≡ n → value ≡ value_of s it → refused why ≡ r value 0 → next_from n r s from ≡ next_from n r s next
  passes-refused from at {it = it} e same type number v refuses = search-passes from at same e (value-refused it (type ∙ number) v (sym refuses))

  pub takes-read : (from at : ℕ) {next : ℕ} {it : Item} {value : List ℕ} {a : A} {size m : ℕ} → Step.Item it next ≡ step_at s at
      → next_from n r s from ≡ next_from n r s at → it.tlv_type ≡ m → m ≡ n → value ≡ value_of s it → read a size ≡ r value 0 → found a it next ≡ next_from n r s from
  takes-read from at {it = it} e same type number v reads = search-takes from at same e (value_read it (type ∙ number) v (sym reads))

  one : (it : Item) → One it (matched n r s it)
  unfolding matched
  one it = go (eqb it.tlv_type n) (r (value_of s it) 0)
    where
      go : (b : Bool) (m : Reading A) → One it (cond b (kept it m) [])
      go true (read a size) = took a
      go true (refused why) = passed
      go false m = passed

  -- nothing is found where there is nothing
  all_nothing : (at : ℕ) → next_from n r s at ≡ nothing → all_from n r s at ≡ []
  all_nothing at = go (all_from n r s at)
    where
      go : (xs : List (Match A)) → first_of xs ≡ nothing → xs ≡ []
      go [] e = refl
      go (x ∷ xs) e = absurd (cc)

  none_found : (at : ℕ) {a : A} {it : Item} {next : ℕ} → all_from n r s at ≡ [] → next_from n r s at ≡ found a it next → ⊥
  none_found at none e = let e' = sym (ap first_of none) ∙ e in cc

  -- what is found is the record of the item at the place, or is found behind that item
  here-or-behind : {at : ℕ} {a : A} {it : Item} {next : ℕ} {it' : Item} {next' : ℕ} {xs : List (Match A)} → next_from n r s at ≡ found a it next
      → step_at s at ≡ Step.Item it' next' → One it' xs → matched n r s it' ≡ xs
      → (next_from n r s next' ≡ found a it next → Finds n r s next' a it next) → Finds n r s at a it next
  here-or-behind {at} e q passed x more =
      let w = step-stands s at q in
      let rest = more (sym (search-passes at at refl (sym q) x) ∙ e) in
      record { ahead = omega arith; inside = rest.inside; all = all-item at q x ∙ rest.all }
  here-or-behind {at} {a} {it} {next} {it'} {next'} e q (took b) x more =
      let w = step-stands s at q in
      let e' : found b it' next' ≡ found a it next = search-takes at at refl (sym q) x ∙ e in
      let same : b ≡ a = cc in
      let item : it' ≡ it = cc in
      let place : next' ≡ next = cc in
      record { ahead = omega arith; inside = omega arith; all = all-item at q x ∙ rw (same, item, place) }

  finds-given : {at : ℕ} {items : List Item} {ending : Ending} → GivesItems s at items ending → {a : A} {it : Item} {next : ℕ}
      → next_from n r s at ≡ found a it next → Finds n r s at a it next
  finds-given {at} (ends_whole q) e = absurd (none_found at (all-last at Step.Whole q (λ it next p. cc)) e)
  finds-given {at} (ends_cut {place = place} q) e = absurd (none_found at (all-last at (Step.Cut place) q (λ it next p. cc)) e)
  finds-given (gives_item {it = it} q g) e = here-or-behind e q (one it) refl (finds-given g)

  pub finds : (at : ℕ) {a : A} {it : Item} {next : ℕ} → next_from n r s at ≡ found a it next → Finds n r s at a it next
  finds at e = finds-given (gives-walk-at s at) e

  gives-find : (at : ℕ) (f : Search A) → next_from n r s at ≡ f
      → ((next : ℕ) → length s - next < length s - at → GivesRecords (next_from n r s) next (all_from n r s next))
      → GivesRecords (next_from n r s) at (all_from n r s at)
  gives-find at nothing e behind = rw (all_nothing at e) (ends_search e)
  gives-find at (found a it next) e behind = let w = finds at e in rw w.all (gives_record e (behind next (omega arith)))

  gives-finds : (m at : ℕ) → length s - at < m → GivesRecords (next_from n r s) at (all_from n r s at)
  gives-finds zero at h = absurd (omega arith)
  gives-finds (suc m) at h = gives-find at (next_from n r s at) refl (λ next less. gives-finds m next (omega arith))

  -- going on behind each find gives all there is from a place, and so all of the tail
  pub gives-all-at : (at : ℕ) → GivesRecords (next_from n r s) at (all_from n r s at)
  gives-all-at at = gives-finds (suc (length s - at)) at (omega arith)

  pub gives_all : GivesRecords (next_from n r s) 0 (all_of n r s)
  gives_all = gives-all-at 0

  -- and no other records
  only-all : {at : ℕ} {xs : List (Match A)} → GivesRecords (next_from n r s) at xs → all_from n r s at ≡ xs
  only-all {at} (ends_search e) = all_nothing at e
  only-all {at} (gives_record e g) = (finds at e).all ∙ rw (only-all g)

  pub gives-all-once : {at : ℕ} {xs ys : List (Match A)} → GivesRecords (next_from n r s) at xs → GivesRecords (next_from n r s) at ys → xs ≡ ys
  gives-all-once g h = sym (only-all g) ∙ only-all h

-- what a turn of a search goes by
pub ruleset turns = (step_less, passes-other, search-ends)
