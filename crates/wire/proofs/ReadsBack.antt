-- What was written is read back, from any place and with anything behind, proved once for each way of putting readers together.
-- Assumes nothing.
use Prim.Native.Nat.{ℕ, zero, suc, ◌+◌, ◌/◌, ◌%◌, ◌^◌, ◌≤◌, ◌<◌}
use native.Mathlib.Nat.{add-zero, zero-add, add_assoc, pow-suc, div-lt_iff_lt-mul}
use native.Mathlib.Omega.{arith}
use mathlib.Core.Path.{◌≡◌, refl, ap, ◌∙◌}
use mathlib.Core.Bool.{Bool, true, false, cond}
use mathlib.Core.List.{List, [], ◌∷◌, ◌++◌, append_assoc, append-nil}
use lib.Dec.{lit<}
use lib.ListN.{length, get_or, length-append}
use lib.Seq.{drop-append_seam, take-append_seam}
use borrow.Author.Tests.{le-leb}
use Rattle.wire.specs.declared.value.MACAddress.{MACAddress}
use Rattle.wire.specs.Reading.{Reader, read, give, field, ◌>>=◌, when}
use Rattle.wire.specs.FromBytes.{ReadFromBytes}
use Rattle.wire.specs.Answer.{Answer, answer, asked}
use Rattle.wire.specs.Numbers.{AllInWidth, one, little, little_bytes, number, pair_of, with_reserved, pair_bytes}
use Rattle.wire.specs.Addresses.{address, address_of, address_bytes}

-- a reader reads some bytes as a value
pub record Back {A : Type 0} (r : Reader A) (bytes : List ℕ) (a : A) : Type 0 where
  pub back : (before behind : List ℕ) → r (before ++ bytes ++ behind) (length before) ≡ read a (length before + length bytes)

pub give-back : {A : Type 0} (a : A) → Back (give a) [] a
give-back a = record { back = λ before behind. rw add-zero }

pub field_back : (n : ℕ) (bytes : List ℕ) → length bytes ≡ n → Back (field n) bytes bytes
field_back n bytes e =
    record {
      back = λ before behind.
          let s : List ℕ = before ++ bytes ++ behind in
          let fits : length before + n ≤ length s = simp length-append (omega arith) in
          rw (
            le-leb (length before + n) (length s) fits,
            append_assoc before bytes behind,
            drop-append_seam before (bytes ++ behind),
            ← e,
            take-append_seam bytes behind,
          );
    }

pub bind-back : {A B : Type 0} {m : Reader A} (f : A → Reader B) {xs ys : List ℕ} {a : A} {b : B}
    → Back m xs a → Back (f a) ys b → Back (m >>= f) (xs ++ ys) b
bind-back {m} f {xs} {ys} {a} {b} first second =
    record {
      back = λ before behind.
          let s : List ℕ = before ++ (xs ++ ys) ++ behind in
          let split : s ≡ before ++ xs ++ (ys ++ behind) = simp append_assoc in
          let mid : ℕ = length before + length xs in
          let begins : m s (length before) ≡ read a mid = rw split (first.back before (ys ++ behind)) in
          let regroup : s ≡ before ++ xs ++ ys ++ behind = simp append_assoc in
          let goes : f a s mid ≡ read b (mid + length ys) =
          rw (regroup, ← length-append before xs) (second.back (before ++ xs) behind) in
          rw (begins, goes, length-append xs ys, add_assoc (length before) (length xs) (length ys));
    }

-- the last step of a format: what was read, put together
pub made-back : {A B : Type 0} {m : Reader A} (g : A → B) {bytes : List ℕ} {a : A}
    → Back m bytes a → Back (m >>= λ x. give (g x)) bytes (g a)
made-back g {bytes} {a} h = record { back = λ before behind. rw (h.back before behind) }

-- bytes that are read back are some that are read
pub from_bytes : {A : Type 0} {r : Reader A} {bytes : List ℕ} {a : A} → Back r bytes a → ((i : ℕ) → get_or bytes i 0 < 256) → ReadFromBytes r a
from_bytes {bytes = bytes} {a = a} b small =
    record { bytes = bytes; small = small; size = length bytes; reads = (rw (append-nil bytes) at (b.back [] [])) ∙ ap (read a) (zero-add (length bytes)) }

-- an answer that takes no byte
pub asked-back : {A : Type 0} {found : Answer A} {a : A} → found ≡ answer a → Back (asked found) [] a
asked-back {a} e = rw e (give-back a)

-- a field that is there, or its absent value where it is not
pub when-back : {A : Type 0} {r : Reader A} {bytes : List ℕ} {a : A} (b : Bool) (absent : A)
    → (b ≡ true → Back r bytes a) → (b ≡ false → a ≡ absent) → Back (when b absent r) (cond b bytes []) a
when-back true absent there gone = there refl
when-back false absent there gone = rw (gone refl) (give-back absent)

little-back : (width v : ℕ) → v < 256 ^ width → little (little_bytes width v) ≡ v
little-back zero v h = omega arith
little-back (suc width) v h =
    let high : v / 256 < 256 ^ width = (div-lt_iff_lt-mul (lit< tt)).1 (rw (pow-suc 256 width) at h) in
    rw (little-back width (v / 256) high) (omega arith)

length-little : (width v : ℕ) → length (little_bytes width v) ≡ width
length-little zero v = refl
length-little (suc width) v = ap suc (length-little width (v / 256))

pub number-back : (width v : ℕ) → v < 256 ^ width → Back (number width) (little_bytes width v) v
number-back width v h =
    rw (little-back width v h) at
    (made-back little (field_back width (little_bytes width v) (length-little width v)))

pub pair-back : (byte reserved : ℕ) → byte < 256 → reserved < 256 → Back with_reserved (pair_bytes byte reserved) (byte, reserved)
pair-back byte reserved h k =
    let first : byte % 256 ≡ byte = omega arith in
    let second : reserved % 256 ≡ reserved = omega arith in
    rw (first, second) (made-back pair_of (field_back 2 (byte ∷ reserved ∷ []) refl))

pub address-back : (a : MACAddress) → Back address (address_bytes a) a
address-back a = made-back address_of (field_back 6 (address_bytes a) refl)

-- a number that fits, in front of what is read back where the others fit
pub number-on : {B : Type 0} (width : ℕ) (f : ℕ → Reader B) {v : ℕ} {others : List (ℕ × ℕ)} {bytes : List ℕ} {b : B}
    → (AllInWidth others → Back (f v) bytes b) → AllInWidth ((width, v) ∷ others) → Back (number width >>= f) (little_bytes width v ++ bytes) b
number-on width f goes (one h rest) = bind-back f (number-back width _ h) (goes rest)

pub pair-on : {B : Type 0} (f : ℕ × ℕ → Reader B) {byte reserved : ℕ} {others : List (ℕ × ℕ)} {bytes : List ℕ} {b : B}
    → (AllInWidth others → Back (f (byte, reserved)) bytes b) → AllInWidth ((1, byte) ∷ (1, reserved) ∷ others)
    → Back (with_reserved >>= f) (pair_bytes byte reserved ++ bytes) b
pair-on f goes (one h (one k rest)) = bind-back f (pair-back _ _ h k) (goes rest)

-- an address always fits
pub address_on : {B : Type 0} (f : MACAddress → Reader B) (a : MACAddress) {others : List (ℕ × ℕ)} {bytes : List ℕ} {b : B}
    → (AllInWidth others → Back (f a) bytes b) → AllInWidth others → Back (address >>= f) (address_bytes a ++ bytes) b
address_on f a goes fit = bind-back f (address-back a) (goes fit)
