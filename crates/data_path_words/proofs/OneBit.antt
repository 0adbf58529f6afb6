-- A mask of one bit finds that bit: it leaves the bit at its place, and nothing else.
-- Assumes nothing.
use Prim.Native.Nat.{ℕ, zero, suc, ◌*◌, ◌^◌, ◌<◌}
use native.Mathlib.Nat.{mod-lt}
use native.Mathlib.Omega.{arith}
use mathlib.Core.Bool.{Bool, not}
use mathlib.Core.Path.{◌≡◌, refl, sym, ap, ◌∙◌}
use borrow.Author.Tests.{eq-eqb, ne_eqb}
use lib.Bits.{bit_and, and_high}
use lib.Dec.{eqb}
use lib.Pow.{pow_pos, high_ones}
use Rattle.wire.specs.Numbers.{bits, bit}
use Rattle.data_path_words.specs.Words.{has_any}

one_left : (x n : ℕ) → x < 2 → 0 < n → not (eqb (x * n) 0) ≡ eqb x 1
one_left zero n h p = rw (eq-eqb (0 * n) 0 (omega arith))
one_left (suc zero) n h p = rw (ne_eqb (1 * n) 0 (omega arith))
one_left (suc (suc x)) n h p = absurd (omega arith)

mask-bit : (k w : ℕ) → bit_and w (2 ^ k) ≡ bits k 1 w * 2 ^ k
mask-bit k w =
    ap (λ (mask : ℕ). bit_and w mask) (omega (arith, high_ones 1 k)) ∙ and_high w 1 k

-- what a test by a mask of one bit tells of that bit
pub has-bit : (k w : ℕ) {b : Bool} → b ≡ has_any w (2 ^ k) → bit k w ≡ b
has-bit k w e = rw (e, mask-bit k w) (sym (one_left (bits k 1 w) (2 ^ k) (mod-lt _ (omega arith)) (pow_pos k)))

-- the tests of the bits that announce a field, each by its mask
bit-is : (k w : ℕ) → has_any w (2 ^ k) ≡ bit k w
bit-is k w = sym (has-bit k w refl)

pub bit-0 : (w : ℕ) → has_any w 1 ≡ bit 0 w
bit-0 = bit-is 0

pub bit-1 : (w : ℕ) → has_any w 2 ≡ bit 1 w
bit-1 = bit-is 1

pub bit-2 : (w : ℕ) → has_any w 4 ≡ bit 2 w
bit-2 = bit-is 2

pub bit-5 : (w : ℕ) → has_any w 32 ≡ bit 5 w
bit-5 = bit-is 5

pub bit-8 : (w : ℕ) → has_any w 256 ≡ bit 8 w
bit-8 = bit-is 8

pub bit-9 : (w : ℕ) → has_any w 512 ≡ bit 9 w
bit-9 = bit-is 9

pub bit-12 : (w : ℕ) → has_any w 4096 ≡ bit 12 w
bit-12 = bit-is 12

pub bit-15 : (w : ℕ) → has_any w 32768 ≡ bit 15 w
bit-15 = bit-is 15

pub ruleset announcing = (bit-0, bit-1, bit-2, bit-5, bit-8, bit-9, bit-12, bit-15)
