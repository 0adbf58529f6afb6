-- A test that goes over two lists from the front: what is left of them decides, and each number, each part of a list that fits, fits too.
-- Assumes nothing.
use Prim.Native.Nat.{ℕ, zero, suc, ◌+◌, ◌≤◌, ◌<◌}
use native.Mathlib.Nat.{zero-add}
use native.Mathlib.Numerals.{add-one}
use native.Mathlib.Omega.{arith}
use mathlib.Core.Path.{◌≡◌, refl, sym, ap, ◌∙◌}
use mathlib.Core.Bool.{Bool, true, false, ◌&&◌, false≢true, and_assoc, and-true}
use mathlib.Core.List.{List, [], ◌∷◌}
use lib.Dec.{leb}
use lib.ListN.{length, get_or, set, take, drop, length-drop}
use lib.Seq.{paste, paste-suc, get_or-drop}
use borrow.Author.Tests.{leb-true}
use Rattle.std.specs.List.{fold, zip}
use Rattle.exports.specs.Held.{fits, octets}

-- a fold over the pairs
abbrev pub fit_also : Bool → ℕ × ℕ → Bool
fit_also fit pair = fit && leb pair.0 pair.1

pub fold-fits : (fit : Bool) (ns ms : List ℕ) → length ns ≡ length ms → fold fit_also fit (zip ns ms) ≡ (fit && fits ns ms)
fold-fits fit [] ms e = sym (and-true fit)
fold-fits fit (n ∷ ns) [] e = absurd (omega arith)
fold-fits fit (n ∷ ns) (m ∷ ms) e = fold-fits (fit && leb n m) ns ms (omega arith) ∙ and_assoc fit (leb n m) (fits ns ms)

pub both : (a b : Bool) → a && b ≡ true → (a ≡ true) × (b ≡ true)
both true b e = (refl, e)
both false b e = absurd (false≢true e)

-- past the end of a list stands 0, which fits everywhere
pub fits-at : (ns ms : List ℕ) (i : ℕ) → fits ns ms ≡ true → get_or ns i 0 ≤ get_or ms i 0
fits-at [] ms i f = omega arith
fits-at (n ∷ ns) [] i f = absurd (false≢true f)
fits-at (n ∷ ns) (m ∷ ms) zero f = leb-true n m (both (leb n m) (fits ns ms) f).0
fits-at (n ∷ ns) (m ∷ ms) (suc i) f = fits-at ns ms i (both (leb n m) (fits ns ms) f).1

pub fits-drop : (k : ℕ) (ns ms : List ℕ) → fits ns ms ≡ true → fits (drop k ns) (drop k ms) ≡ true
fits-drop zero ns ms f = f
fits-drop (suc k) [] ms f = refl
fits-drop (suc k) (n ∷ ns) [] f = absurd (false≢true f)
fits-drop (suc k) (n ∷ ns) (m ∷ ms) f = fits-drop k ns ms (both (leb n m) (fits ns ms) f).1

fits-take : (k : ℕ) (ns ms : List ℕ) → fits ns ms ≡ true → fits (take k ns) (take k ms) ≡ true
fits-take zero ns ms f = refl
fits-take (suc k) [] ms f = refl
fits-take (suc k) (n ∷ ns) [] f = absurd (false≢true f)
fits-take (suc k) (n ∷ ns) (m ∷ ms) f =
    let parts = both (leb n m) (fits ns ms) f in
    rw parts.0 (fits-take k ns ms parts.1)

pub fits-part : (at k : ℕ) (ns ms : List ℕ) → fits ns ms ≡ true → fits (take k (drop at ns)) (take k (drop at ms)) ≡ true
fits-part at k ns ms f = fits-take k (drop at ns) (drop at ms) (fits-drop at ns ms f)

pub among : (n i : ℕ) → i < n → get_or (octets n) i 0 ≡ 255
among zero i h = absurd (omega (arith, h))
among (suc n) zero h = refl
among (suc n) (suc i) h = among n i (omega arith)

-- a number among some that are to be bytes
pub octet_in : (ns : List ℕ) (i : ℕ) → fits ns (octets (length ns)) ≡ true → i < length ns → get_or ns i 0 < 256
octet_in ns i f h = omega (arith, fits-at ns (octets (length ns)) i f, among (length ns) i h)

-- numbers that are taken over one by one, from a place on
pub taken_step : (z ns : List ℕ) (at i v : ℕ) → i < length z → at + length z ≤ length ns → v ≡ get_or ns (at + i) 0
    → set (paste z 0 (drop at ns) i) i v ≡ paste z 0 (drop at ns) (i + 1)
taken_step z ns at i v h room e =
    let place : set (paste z 0 (drop at ns) i) i v ≡ set (paste z 0 (drop at ns) i) (0 + i) v = ap (λ k. set (paste z 0 (drop at ns) i) k v) (sym (zero-add i)) in
    place ∙ rw (e, ← get_or-drop at ns i 0, add-one i) (paste-suc z 0 (drop at ns) i 0 (omega arith) (rw (length-drop at ns) (omega arith)))
