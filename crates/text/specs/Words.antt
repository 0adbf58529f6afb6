-- What a word says: a number in decimal digits, or bytes in hex digits.
use Rattle.std.specs.Prelude.{ℕ, ◌+◌, ◌-◌, ◌*◌, ◌^◌, Bool, true, false, cond, ◌&&◌, List, [], ◌∷◌, leb, ltb, length, Option, Some, None}
use Prim.Native.Char.{code}

-- what was said is handed on, and nothing ends it
infixl 20 ◌>>=◌
abbrev pub ◌>>=◌ : {A B : Type 0} → Option A → (A → Option B) → Option B
Some a >>= f = f a
None >>= f = None

-- whether something was said
abbrev pub meant : {A : Type 0} → Option A → Bool
meant (Some a) = true
meant None = false

-- a value that is said only where a test holds
abbrev pub provided : {A : Type 0} → Bool → A → Option A
provided true a = Some a
provided false a = None

-- whether a number stands from one to another
abbrev pub among : ℕ → ℕ → ℕ → Bool
among first last n = leb first n && leb n last

-- the digit that a letter is
abbrev pub digit_of : ℕ → Option ℕ
digit_of letter = provided (among (code "0") (code "9") letter) (letter - code "0")

-- the number that digits write behind those that were read before them
unfoldable pub digits_of : ℕ → List ℕ → Option ℕ
digits_of before [] = Some before
digits_of before (letter ∷ rest) = do
  d ← digit_of letter
  digits_of (before * 10 + d) rest

-- a number that fits 64 bits
abbrev pub in64_bits : Option ℕ → Option ℕ
in64_bits said = do
  n ← said
  provided (ltb n (2 ^ 64)) n

-- a number of 1 to 20 digits that fits 64 bits
abbrev pub decimal_of : List ℕ → Option ℕ
decimal_of word = do
  digits ← provided (among 1 20 (length word)) word
  in64_bits (digits_of 0 digits)

-- the number that one hex digit is, in either case
abbrev pub hex_digit_of : ℕ → Option ℕ
hex_digit_of letter =
    cond (among (code "0") (code "9") letter) (Some (letter - code "0"))
    (cond (among (code "A") (code "F") letter) (Some (letter - code "A" + 10))
    (cond (among (code "a") (code "f") letter) (Some (letter - code "a" + 10)) None))

-- a byte is two digits, the higher first
abbrev pub hex_byte_of : ℕ → ℕ → Option ℕ
hex_byte_of high low = do
  h ← hex_digit_of high
  l ← hex_digit_of low
  Some (h * 16 + l)

-- the bytes that a word writes, two digits each
unfoldable pub hex_of : List ℕ → Option (List ℕ)
hex_of [] = Some []
hex_of (letter ∷ []) = None
hex_of (high ∷ low ∷ rest) = do
  b ← hex_byte_of high low
  bytes ← hex_of rest
  Some (b ∷ bytes)
