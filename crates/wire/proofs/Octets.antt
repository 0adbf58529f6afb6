-- Lists of octets, numbers below 256: lists made of them are such, and a number gives back the octets that it was read of.
-- Assumes nothing.
use Prim.Native.Nat.{ℕ, zero, suc, ◌+◌, ◌*◌, ◌/◌, ◌%◌, ◌^◌, ◌<◌}
use native.Mathlib.Nat.{pow-suc}
use native.Mathlib.Omega.{arith}
use mathlib.Core.Path.{◌≡◌, refl, sym, ◌∙◌}
use mathlib.Core.Bool.{Bool, true, false, cond}
use mathlib.Core.List.{List, [], ◌∷◌, ◌++◌, append-nil}
use lib.ListN.{length, get_or, take, drop, replicate, length-take, length-drop}
use lib.Seq.{get_or-drop, drop-length}
use Rattle.wire.specs.Reading.{field}
use Rattle.wire.specs.Numbers.{little, little_bytes, number, pair_of, with_reserved, pair_bytes}
use Rattle.wire.specs.Addresses.{address, address_of, address_bytes}
use Rattle.wire.proofs.Bytes.{from, opened}
use Rattle.wire.proofs.Lawful.{field-read}
use Rattle.wire.proofs.Gives.{Gives, gives-give, gives-bind}

-- an octet is its own low byte, and two of them are the bytes of their number
pub byte : (b : ℕ) → b < 256 → b % 256 ≡ b
byte b h = omega arith

pub low : (b c : ℕ) → b < 256 → (b + 256 * c) % 256 ≡ b
low b c h = omega arith

pub high : (b c : ℕ) → b < 256 → c < 256 → (b + 256 * c) / 256 % 256 ≡ c
high b c h k = omega arith

pub record Octets (s : List ℕ) : Type 0 where
  pub small : (i : ℕ) → get_or s i 0 < 256

pub octets-none : Octets []
octets-none = record { small = λ i. omega arith }

first-or-rest : (b : ℕ) (bs : List ℕ) → b < 256 → Octets bs → (i : ℕ) → get_or (b ∷ bs) i 0 < 256
first-or-rest b bs h p zero = h
first-or-rest b bs h p (suc i) = p.small i

pub octets-cons : {b : ℕ} {bs : List ℕ} → b < 256 → Octets bs → Octets (b ∷ bs)
octets-cons {b} {bs} h p = record { small = first-or-rest b bs h p }

pub octets-rest : {b : ℕ} {bs : List ℕ} → Octets (b ∷ bs) → Octets bs
octets-rest p = record { small = λ i. p.small (suc i) }

pub octets-append : {xs ys : List ℕ} → Octets xs → Octets ys → Octets (xs ++ ys)
octets-append {xs = []} p q = q
octets-append {xs = x ∷ xs} p q = octets-cons (p.small 0) (octets-append (octets-rest p) q)

pub octets-cond : {xs : List ℕ} (b : Bool) → Octets xs → Octets (cond b xs [])
octets-cond true p = p
octets-cond false p = octets-none

pub octets-take : (n : ℕ) {s : List ℕ} → Octets s → Octets (take n s)
octets-take zero p = octets-none
octets-take (suc n) {s = []} p = octets-none
octets-take (suc n) {s = b ∷ bs} p = octets-cons (p.small 0) (octets-take n (octets-rest p))

octets-drop : (n : ℕ) {s : List ℕ} → Octets s → Octets (drop n s)
octets-drop n {s} p = record { small = λ i. rw (get_or-drop n s i 0) (p.small (n + i)) }

pub octets-zeros : (n : ℕ) → Octets (replicate n 0)
octets-zeros zero = octets-none
octets-zeros (suc n) = octets-cons (omega arith) (octets-zeros n)

pub octets-little : (width v : ℕ) → Octets (little_bytes width v)
octets-little zero v = octets-none
octets-little (suc width) v = octets-cons (omega arith) (octets-little width (v / 256))

little-again : (bytes : List ℕ) → Octets bytes → little_bytes (length bytes) (little bytes) ≡ bytes
little-again [] p = refl
little-again (b ∷ bs) p =
    let small : b < 256 = p.small 0 in
    let low : (b + 256 * little bs) % 256 ≡ b = omega arith in
    let high : (b + 256 * little bs) / 256 ≡ little bs = omega arith in
    rw (low, high, little-again bs (octets-rest p))

little-small : (bytes : List ℕ) → Octets bytes → little bytes < 256 ^ length bytes
little-small [] p = omega arith
little-small (b ∷ bs) p =
    let small : b < 256 = p.small 0 in
    let others = little-small bs (octets-rest p) in
    rw (pow-suc 256 (length bs)) (omega arith)

-- a list is its elements, each by its place
pub by_place : (n : ℕ) (s : List ℕ) → length s ≡ n → from s 0 0 n ≡ s
by_place n s e =
    rw (← e)
    (sym (append-nil (from s 0 0 (length s))) ∙ rw (drop-length s) at (opened (length s) s (omega arith)))

-- what a field of octets is
pub record OctetField (n : ℕ) (bytes : List ℕ) : Type 0 where
  pub size : length bytes ≡ n
  pub octets : Octets bytes

pub number-field : {n : ℕ} {bytes : List ℕ} → OctetField n bytes → little_bytes n (little bytes) ≡ bytes
number-field {n} {bytes} p = rw (← p.size) (little-again bytes p.octets)

pub pair-field : {bytes : List ℕ} → OctetField 2 bytes → pair_bytes (pair_of bytes).0 (pair_of bytes).1 ≡ bytes
pair-field {bytes} p =
    rw (byte (get_or bytes 0 0) (p.octets.small 0), byte (get_or bytes 1 0) (p.octets.small 1)) (by_place 2 bytes p.size)

pub address-field : {bytes : List ℕ} → OctetField 6 bytes → address_bytes (address_of bytes) ≡ bytes
address-field {bytes} p = by_place 6 bytes p.size

pub gives-field : {s : List ℕ} → Octets s → (n : ℕ) → Gives s (field n) (OctetField n)
gives-field {s} p n =
    record {
      of = λ {at} e.
          let f = field-read n s at e in
          record {
            size = rw (← f.2, length-drop at (take (at + n) s), length-take (at + n) s) (omega arith);
            octets = rw (← f.2) (octets-drop at (octets-take (at + n) p));
          };
    }

pub gives-number : {s : List ℕ} → Octets s → (n : ℕ) → Gives s (number n) (λ v. v < 256 ^ n)
gives-number p n = gives-bind (gives-field p n) λ bytes f. gives-give (little bytes) (rw (← f.size) (little-small bytes f.octets))

pub gives-pair : {s : List ℕ} → Octets s → Gives s with_reserved (λ b. (b.0 < 256) × (b.1 < 256))
gives-pair p = gives-bind (gives-field p 2) λ bytes f. gives-give (pair_of bytes) (f.octets.small 0, f.octets.small 1)

pub gives-address : {s : List ℕ} → Octets s → Gives s address (λ a. Octets (address_bytes a))
gives-address p = gives-bind (gives-field p 6) λ bytes f. gives-give (address_of bytes) (rw (address-field f) f.octets)
