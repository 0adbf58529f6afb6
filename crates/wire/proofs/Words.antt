-- A word laid out by runs is a mask and a sum, and its bits are those of its runs: by induction on the runs, each a block of its own.
-- Assumes nothing.
use Prim.Native.Nat.{ℕ, ◌+◌, ◌-◌, ◌*◌, ◌/◌, ◌%◌, ◌^◌, ◌<◌}
use native.Mathlib.Nat.{add-zero, add-mul, mod-lt, mod-mod, div-one}
use native.Mathlib.Omega.{arith}
use mathlib.Core.Path.{◌≡◌, refl, sym, ap, ◌∙◌}
use mathlib.Core.Bool.{Bool, true, false, cond}
use mathlib.Core.List.{List, [], ◌∷◌, ◌++◌}
use lib.Bits.{bit_and, and_block, and_mask, and_zero_r}
use lib.Pow.{pow_pos, split, high, low, ones_lt, shl-shr, shr-shr}
use Rattle.wire.specs.Words.{Run, keep, clear, put, word_by}

-- the mask of the bits that stay
abbrev pub mask_of : List Run → ℕ
mask_of [] = 0
mask_of (keep n ∷ rest) = mask_of rest * 2 ^ n + (2 ^ n - 1)
mask_of (clear n ∷ rest) = mask_of rest * 2 ^ n
mask_of (put b ∷ rest) = mask_of rest * 2 ^ 1

-- what the bits that are given add to a word
abbrev pub added_by : List Run → ℕ
added_by [] = 0
added_by (keep n ∷ rest) = added_by rest * 2 ^ n
added_by (clear n ∷ rest) = added_by rest * 2 ^ n
added_by (put b ∷ rest) = added_by rest * 2 ^ 1 + cond b 1 0

-- the mask on one block and on the rest
block : (n m s w : ℕ) → s < 2 ^ n → bit_and w (m * 2 ^ n + s) ≡ bit_and (w / 2 ^ n) m * 2 ^ n + bit_and (w % 2 ^ n) s
block n m s w h =
    ap (λ (x : ℕ). bit_and x (m * 2 ^ n + s)) (sym (split w n)) ∙ and_block n (w / 2 ^ n) m (w % 2 ^ n) s (mod-lt w (pow_pos n)) h

pub word-mask : (runs : List Run) (w : ℕ) → word_by runs w ≡ bit_and w (mask_of runs) + added_by runs
word-mask [] w = sym (rw (and_zero_r w))
word-mask (keep n ∷ rest) w =
    rw (
      block n (mask_of rest) (2 ^ n - 1) w (ones_lt n),
      word-mask rest (w / 2 ^ n),
      and_mask (w % 2 ^ n) n,
      mod-mod w (2 ^ n),
      add-mul (bit_and (w / 2 ^ n) (mask_of rest)) (added_by rest) (2 ^ n),
    ) (omega arith)
word-mask (clear n ∷ rest) w =
    rw (
      ← add-zero (mask_of rest * 2 ^ n),
      block n (mask_of rest) 0 w (pow_pos n),
      word-mask rest (w / 2 ^ n),
      and_zero_r (w % 2 ^ n),
      add-mul (bit_and (w / 2 ^ n) (mask_of rest)) (added_by rest) (2 ^ n),
    ) (omega arith)
word-mask (put b ∷ rest) w =
    rw (
      ← add-zero (mask_of rest * 2),
      block 1 (mask_of rest) 0 w (pow_pos 1),
      word-mask rest (w / 2),
      and_zero_r (w % 2),
    ) (omega arith)

pub bit-small : (b : Bool) → cond b 1 0 < 2 ^ 1
bit-small true = omega arith
bit-small false = omega arith

-- what stands above the first run, and the first run itself
above-keep : (n x y : ℕ) → (x * 2 ^ n + y % 2 ^ n) / 2 ^ n ≡ x
above-keep n x y = high x n (mod-lt y (pow_pos n))

above-put : (x : ℕ) (b : Bool) → (x * 2 ^ 1 + cond b 1 0) / 2 ^ 1 ≡ x
above-put x b = high x 1 (bit-small b)

-- laying out a word twice changes nothing
pub word-twice : (runs : List Run) (w : ℕ) → word_by runs (word_by runs w) ≡ word_by runs w
word-twice [] w = refl
word-twice (keep n ∷ rest) w =
    let x : ℕ = word_by rest (w / 2 ^ n) in
    rw (above-keep n x w, low x n (mod-lt w (pow_pos n)), word-twice rest (w / 2 ^ n))
word-twice (clear n ∷ rest) w =
    let x : ℕ = word_by rest (w / 2 ^ n) in
    rw (shl-shr x n, word-twice rest (w / 2 ^ n))
word-twice (put b ∷ rest) w =
    let x : ℕ = word_by rest (w / 2 ^ 1) in
    rw (above-put x b, word-twice rest (w / 2 ^ 1))

-- how many bits some runs take
abbrev pub width_of : List Run → ℕ
width_of [] = 0
width_of (keep n ∷ rest) = n + width_of rest
width_of (clear n ∷ rest) = n + width_of rest
width_of (put b ∷ rest) = 1 + width_of rest

-- a given bit is found at its place
pub bit-in-word : (before : List Run) (b : Bool) (after : List Run) (w : ℕ)
    → word_by (before ++ put b ∷ after) w / 2 ^ width_of before % 2 ^ 1 ≡ cond b 1 0
bit-in-word [] b after w = rw (div-one (word_by (put b ∷ after) w)) (low (word_by after (w / 2 ^ 1)) 1 (bit-small b))
bit-in-word (keep n ∷ before) b after w =
    let x : ℕ = word_by (before ++ put b ∷ after) (w / 2 ^ n) in
    rw (← shr-shr (x * 2 ^ n + w % 2 ^ n) n (width_of before), above-keep n x w) (bit-in-word before b after (w / 2 ^ n))
bit-in-word (clear n ∷ before) b after w =
    let x : ℕ = word_by (before ++ put b ∷ after) (w / 2 ^ n) in
    rw (← shr-shr (x * 2 ^ n) n (width_of before), shl-shr x n) (bit-in-word before b after (w / 2 ^ n))
bit-in-word (put a ∷ before) b after w =
    let x : ℕ = word_by (before ++ put b ∷ after) (w / 2 ^ 1) in
    rw (← shr-shr (x * 2 ^ 1 + cond a 1 0) 1 (width_of before), above-put x a) (bit-in-word before b after (w / 2 ^ 1))

-- a word agrees with runs where the cleared bits are 0 and the given ones are there
abbrev pub Agrees : List Run → ℕ → Type 0
Agrees [] w = w ≡ 0
Agrees (keep n ∷ rest) w = Agrees rest (w / 2 ^ n)
Agrees (clear n ∷ rest) w = (w % 2 ^ n ≡ 0) × Agrees rest (w / 2 ^ n)
Agrees (put b ∷ rest) w = (w % 2 ^ 1 ≡ cond b 1 0) × Agrees rest (w / 2 ^ 1)

pub word_same : (runs : List Run) (w : ℕ) → Agrees runs w → word_by runs w ≡ w
word_same [] w e = sym e
word_same (keep n ∷ rest) w e = rw (word_same rest (w / 2 ^ n) e) (split w n)
word_same (clear n ∷ rest) w e =
    rw (word_same rest (w / 2 ^ n) e.1, ← add-zero (w / 2 ^ n * 2 ^ n), ← e.0) (split w n)
word_same (put b ∷ rest) w e = rw (word_same rest (w / 2 ^ 1) e.1, ← e.0) (split w 1)
