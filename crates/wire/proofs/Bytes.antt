-- What code that reads byte after byte has is what `field` and `number` say, at every width.
-- Assumes nothing.
use Prim.Native.Nat.{ℕ, zero, suc, ◌+◌, ◌*◌, ◌-◌, ◌≤◌, ◌<◌}
use native.Mathlib.Nat.{add-suc, add-zero}
use native.Mathlib.Omega.{arith}
use mathlib.Core.Path.{◌≡◌, refl, ap}
use mathlib.Core.Bool.{Bool, true, false}
use mathlib.Core.List.{List, [], ◌∷◌, ◌++◌}
use lib.Dec.{leb}
use lib.ListN.{length, get_or, take, drop, length-drop, take-append-drop}
use lib.Seq.{drop-cons, length-take-le}
use borrow.Author.Tests.{le-leb, lt-leb, leb-true}
use Rattle.wire.specs.declared.refusal.Refusal.{Refusal}
use Rattle.wire.specs.declared.refusal.Refusal.TheVariants.{Short}
use Rattle.wire.specs.Reading.{Reading, read, refused, field, give, ◌>>=◌}
use Rattle.wire.specs.Answer.{Answer, answer, refusal, place_of}
use Rattle.wire.specs.Writing.{within}
use Rattle.wire.specs.Numbers.{little, number}

-- n bytes, the first of them k behind a place
abbrev pub from : List ℕ → ℕ → ℕ → ℕ → List ℕ
from s at k zero = []
from s at k (suc n) = get_or s (at + k) 0 ∷ from s at (suc k) n

from-take : (s : List ℕ) (at k n : ℕ) → at + k + n ≤ length s → take n (drop (at + k) s) ≡ from s at k n
from-take s at k zero h = refl
from-take s at k (suc n) h =
    let inside : at + k < length s = omega arith in
    let behind : at + suc k + n ≤ length s = omega arith in
    rw (drop-cons s (at + k) 0 inside, ← add-suc at k, from-take s at (suc k) n behind)

-- a list of n bytes or more is these bytes, each by its place, and the rest
pub opened : (n : ℕ) (s : List ℕ) → n ≤ length s → from s 0 0 n ++ drop n s ≡ s
opened n s h = rw (← from-take s 0 0 n (omega arith)) (take-append-drop n s)

-- the bytes of a field that stands whole; the first byte is at the place itself, with no sum
pub field-whole : (n : ℕ) (s : List ℕ) (at : ℕ) → suc n ≤ length s - at
    → field (suc n) s at ≡ read (get_or s at 0 ∷ from s at 1 n) (at + suc n)
field-whole n s at h =
    let inside : at + suc n ≤ length s = omega arith in
    let here : at + 0 + suc n ≤ length s = omega arith in
    rw (le-leb (at + suc n) (length s) inside)
    (ap (λ (b : List ℕ). read b (at + suc n))
    (rw add-zero at (from-take s at 0 (suc n) here)))

pub field-short : (n : ℕ) (s : List ℕ) (at : ℕ) → length s - at < suc n → field (suc n) s at ≡ refused (Short at)
field-short n s at h =
    let past : length s < at + suc n = omega arith in
    rw (lt-leb (at + suc n) (length s) past)

-- what is made of a field
pub made-whole : {A : Type 0} (n : ℕ) (s : List ℕ) (at : ℕ) (g : List ℕ → A) → suc n ≤ length s - at
    → read (g (get_or s at 0 ∷ from s at 1 n)) (at + suc n) ≡ (field (suc n) >>= λ x. give (g x)) s at
made-whole n s at g h = rw (field-whole n s at h)

pub made-short : {A : Type 0} (n : ℕ) (s : List ℕ) (at : ℕ) (g : List ℕ → A) → length s - at < suc n
    → refused (Short at) ≡ (field (suc n) >>= λ x. give (g x)) s at
made-short n s at g h = rw (field-short n s at h)

pub number-whole : (n : ℕ) (s : List ℕ) (at v : ℕ) → suc n ≤ length s - at
    → v ≡ get_or s at 0 + 256 * little (from s at 1 n) → read v (at + suc n) ≡ number (suc n) s at
number-whole n s at v h e = rw e (made-whole n s at little h)

pub number_short : (n : ℕ) (s : List ℕ) (at : ℕ) → length s - at < suc n → refused (Short at) ≡ number (suc n) s at
number_short n s at h = made-short n s at little h

-- a field whose place was given: it stands within, and is the part up to that place
pub record PlacedField (n : ℕ) (s : List ℕ) (at next : ℕ) : Type 0 where
  pub place : next ≡ at + n
  pub inside : at + n ≤ length s
  pub size : length (take (next - at) (drop at s)) ≡ n
  pub whole : field n s at ≡ read (take (next - at) (drop at s)) next

pub placed : (n : ℕ) (s : List ℕ) (at : ℕ) {next : ℕ} → answer next ≡ place_of (field n s at) → PlacedField n s at next
placed n s at {next} e = go (leb (at + n) (length s)) refl
  where
    go : (b : Bool) → leb (at + n) (length s) ≡ b → PlacedField n s at next
    go true q =
        let place : next ≡ at + n = let e' = rw q at e in cc in
        let inside : at + n ≤ length s = leb-true (at + n) (length s) q in
        let many : next - at ≡ n = omega arith in
        record {
          place = place;
          inside = inside;
          size = rw many (length-take-le n (drop at s) (simp length-drop (omega arith)));
          whole = rw (q, many, place);
        }
    go false q = absurd (cc (rw q at e))

-- a reading whose place was refused is that refusal
pub unplaced : {A : Type 0} (r : Reading A) {why : Refusal} → refusal why ≡ place_of r → r ≡ refused why
unplaced (read a next) e = absurd cc
unplaced (refused why) e = cc

-- a size that fits a room is the size itself, and one that is refused is refused by the room too
pub within-room : (room : ℕ) (size : Answer ℕ) {n : ℕ} → answer n ≡ within room size → (size ≡ answer n) × (n ≤ room)
within-room room (answer m) {n} e = go (leb m room) refl
  where
    go : (b : Bool) → leb m room ≡ b → (answer m ≡ answer n) × (n ≤ room)
    go true q =
        let e' = rw q at e in
        let same : m ≡ n = cc in
        (ap answer same, rw same at (leb-true m room q))
    go false q = absurd (cc (rw q at e))
within-room room (refusal why) e = absurd cc

-- a size that is known beforehand
pub known-room : (room size : ℕ) {n : ℕ} → answer n ≡ within room (answer size) → (size ≡ n) × (n ≤ room)
known-room room size {n} e =
    let found : (answer size ≡ answer n) × (n ≤ room) = within-room room (answer size) e in ((cc), found.1)
