-- One reader beside another on the same list: what the second reads where the first accepts, for each way of putting readers together.
-- Assumes nothing.
use Prim.Native.Nat.{ℕ, ◌+◌}
use native.Mathlib.Omega.{arith}
use mathlib.Core.Path.{◌≡◌, refl, sym, ◌∙◌}
use mathlib.Core.Bool.{Bool, true, false}
use mathlib.Core.List.{List, ◌++◌}
use lib.ListN.{length, take, drop}
use lib.Seq.{take-add, drop-drop}
use borrow.Author.Tests.{le-leb}
use Rattle.wire.specs.Reading.{Reading, Reader, read, refused, give, field, onward, ◌>>=◌, when}
use Rattle.wire.specs.Numbers.{little, little_bytes, number, with_reserved, pair_bytes}
use Rattle.wire.specs.Addresses.{address, address_bytes}
use Rattle.wire.proofs.Lawful.{steps, grouped, field-read}
use Rattle.wire.proofs.Gives.{Gives}
use Rattle.wire.proofs.Octets.{Octets, OctetField, gives-field, number-field, pair-field, address-field}

-- where the first reads a value, the second reads its image and ends at the same place
pub record Again {A X : Type 0} (s : List ℕ) (r : Reader A) (c : Reader X) (f : A → X) : Type 0 where
  pub of : {at next : ℕ} {a : A} → r s at ≡ read a next → c s at ≡ read (f a) next

pub again-give : {A X : Type 0} {s : List ℕ} {f : A → X} {a : A} {x : X} → f a ≡ x → Again s (give a) (give x) f
again-give {f = f} {a = a} {x = x} same =
    record { of = λ {at} {next} {a = b} e. let p : a ≡ b = cc in let q : at ≡ next = cc in rw (← same, p, q) }

-- both begin with the same reader, and of what it gives something is known
pub again-bind : {A B X : Type 0} {s : List ℕ} {m : Reader A} {k : A → Reader B} {l : A → Reader X} {f : B → X} {Q : A → Type 0}
    → Gives s m Q → ((a : A) → Q a → Again s (k a) (l a) f) → Again s (m >>= k) (m >>= l) f
again-bind {s = s} {m = m} {k = k} q h =
    record {
      of = λ {at} e.
          let w = steps (m s at) (λ a next. k a s next) e in
          rw w.begins ((h w.first (q.of w.begins)).of w.goes);
    }

-- the second begins with what is beside the first
pub again-step : {A B X Y : Type 0} {s : List ℕ} {m : Reader A} {c : Reader X} {g : A → X} {k : A → Reader B} (l : X → Reader Y) {f : B → Y}
    → Again s m c g → ((a : A) → Again s (k a) (l (g a)) f) → Again s (m >>= k) (c >>= l) f
again-step {s = s} {m = m} {k = k} l b h =
    record {
      of = λ {at} e.
          let w = steps (m s at) (λ a next. k a s next) e in
          rw (b.of w.begins) ((h w.first).of w.goes);
    }

pub again-group : {A B C X : Type 0} {s : List ℕ} (m : Reader A) (k : A → Reader B) (l : B → Reader C) {c : Reader X} {f : C → X}
    → Again s (m >>= λ a. (k a >>= l)) c f → Again s ((m >>= k) >>= l) c f
again-group {s = s} m k l h =
    record { of = λ {at} e. h.of (sym (grouped (m s at) (λ a next. k a s next) (λ b next. l b s next)) ∙ e) }

pub again-when : {A X : Type 0} {s : List ℕ} {r : Reader A} {c : Reader X} {f : A → X} {absent : A} {x : X} (b : Bool)
    → Again s r c f → f absent ≡ x → Again s (when b absent r) (when b x c) f
again-when true h e = h
again-when false h e = again-give e

-- a field that may be missing, in front of others that are grouped to it
pub again-optional : {A B C X Y : Type 0} {s : List ℕ} {r : Reader A} {c : Reader X} {g : A → X} {x : X} (b : Bool) (absent : A)
    (k : A → Reader B) (k' : B → Reader C) (l : X → Reader Y) {f : C → Y}
    → Again s r c g → g absent ≡ x → ((a : A) → Again s (k a >>= k') (l (g a)) f) → Again s ((when b absent r >>= k) >>= k') (when b x c >>= l) f
again-optional {r = r} b absent k k' l h e goes = again-group (when b absent r) k k' (again-step l (again-when b h e) goes)

-- a reader at whose end nothing is done
onward-read : {X : Type 0} (r : Reading X) → onward r (λ x next. read x next) ≡ r
onward-read (read x next) = refl
onward-read (refused why) = refl

pub again-end : {A X : Type 0} {s : List ℕ} {r : Reader A} {c : Reader X} {f : A → X} → Again s r (c >>= give) f → Again s r c f
again-end {s = s} {c = c} h = record { of = λ {at} e. sym (onward-read (c s at)) ∙ h.of e }

-- a value that is made of one field
pub again-made : {A B X : Type 0} {s : List ℕ} {m : Reader A} {c : Reader X} {g : A → X} (h : A → B) {f : B → X}
    → Again s m c g → ((a : A) → f (h a) ≡ g a) → Again s (m >>= λ a. give (h a)) c f
again-made h b same = again-end (again-step give b λ a. again-give (same a))

-- a number, a byte with its reserved byte, and an address are written as the field that they were read of
pub number-again : {s : List ℕ} → Octets s → (n : ℕ) → Again s (number n) (field n) (little_bytes n)
number-again p n = again-end (again-bind (gives-field p n) λ bytes q. again-give (number-field q))

pub pair-again : {s : List ℕ} → Octets s → Again s with_reserved (field 2) (λ b. pair_bytes b.0 b.1)
pair-again p = again-end (again-bind (gives-field p 2) λ bytes q. again-give (pair-field q))

pub address-again : {s : List ℕ} → Octets s → Again s address (field 6) address_bytes
address-again p = again-end (again-bind (gives-field p 6) λ bytes q. again-give (address-field q))

-- a number in front of others, beside its field in front of others
pub again-number : {B X : Type 0} {s : List ℕ} → Octets s → (n : ℕ) (k : ℕ → Reader B) {l : List ℕ → Reader X} {f : B → X}
    → ((bytes : List ℕ) → OctetField n bytes → Again s (k (little bytes)) (l bytes) f) → Again s (number n >>= k) (field n >>= l) f
again-number p n k h = again-group (field n) (λ bytes. give (little bytes)) k (again-bind (gives-field p n) h)

-- two fields in a row are one
two_fields : (i j : ℕ) (s : List ℕ) (at : ℕ) {xs ys : List ℕ} {mid next : ℕ}
    → field i s at ≡ read xs mid → field j s mid ≡ read ys next → field (i + j) s at ≡ read (xs ++ ys) next
two_fields i j s at {xs} {ys} {mid} {next} p q =
    let first = field-read i s at p in
    let second = field-read j s mid q in
    let xs-is : take i (drop at s) ≡ xs = let p' = rw (le-leb (at + i) (length s) first.1) at p in cc in
    let ys-is : take j (drop mid s) ≡ ys = let q' = rw (le-leb (mid + j) (length s) second.1) at q in cc in
    let here : at + i ≡ mid = first.0 in
    let there : at + (i + j) ≡ next = omega arith in
    rw (le-leb (at + (i + j)) (length s) (omega arith), take-add i j (drop at s), drop-drop i at s, here, xs-is, ys-is, there)

pub again-joined : {A B X : Type 0} {s : List ℕ} {m : Reader A} {g : A → List ℕ} {k : A → Reader B} (l : List ℕ → Reader X) {f : B → X} (i j : ℕ)
    → Again s m (field i) g → ((a : A) → Again s (k a) (field j >>= λ ys. l (g a ++ ys)) f) → Again s (m >>= k) (field (i + j) >>= l) f
again-joined {s = s} {m = m} {g = g} {k = k} l i j b h =
    record {
      of = λ {at} e.
          let w = steps (m s at) (λ a next. k a s next) e in
          let v = steps (field j s w.mid) (λ ys next. l (g w.first ++ ys) s next) ((h w.first).of w.goes) in
          rw (two_fields i j s at (b.of w.begins) v.begins) v.goes;
    }
