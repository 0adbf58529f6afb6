-- A word of hex digits goes by pairs: each pair is the byte at half its place, and the word is twice as long as its bytes.
-- Assumes nothing.
use Prim.Native.Nat.{ℕ, zero, suc, ◌+◌, ◌*◌, ◌/◌, ◌%◌, ◌<◌}
use native.Mathlib.Omega.{arith}
use mathlib.Core.Path.{◌≡◌, refl, sym, ap, ◌∙◌}
use mathlib.Core.Bool.{Bool, true, false, not}
use mathlib.Core.List.{List, [], ◌∷◌, ◌++◌}
use lib.ListN.{length, get_or}
use borrow.Author.Tests.{not-false}
use Rattle.std.specs.Prelude.{Option, Some, None, nat_eq}
use Rattle.std.specs.Option.{is_some}
use Rattle.text.specs.Text.{hex, hex_digit}
use Rattle.text.specs.Words.{◌>>=◌, meant, hex_byte_of, hex_of}

-- what digits are shown
pub length-hex : (bytes : List ℕ) → length (hex bytes) ≡ 2 * length bytes
unfolding hex
length-hex [] = refl
length-hex (b ∷ bs) = let more = length-hex bs in omega arith

pub high_digit : (bytes : List ℕ) (i : ℕ) → i < length bytes → get_or (hex bytes) (2 * i) 0 ≡ hex_digit (get_or bytes i 0 / 16)
unfolding hex
high_digit [] i h = absurd (omega arith)
high_digit (b ∷ bs) zero h = refl
high_digit (b ∷ bs) (suc i) h =
    let place : 2 * suc i ≡ suc (suc (2 * i)) = omega arith in
    rw place (high_digit bs i (omega arith))

pub low_digit : (bytes : List ℕ) (i : ℕ) → i < length bytes → get_or (hex bytes) (2 * i + 1) 0 ≡ hex_digit (get_or bytes i 0 % 16)
unfolding hex
low_digit [] i h = absurd (omega arith)
low_digit (b ∷ bs) zero h = refl
low_digit (b ∷ bs) (suc i) h =
    let place : 2 * suc i + 1 ≡ suc (suc (2 * i + 1)) = omega arith in
    rw place (low_digit bs i (omega arith))

-- what is read of digits: the first two of a word, and the others
pub record Halved (high low : ℕ) (rest bytes : List ℕ) : Type 0 where
  pub b : ℕ
  pub others : List ℕ
  pub first : hex_byte_of high low ≡ Some b
  pub behind : hex_of rest ≡ Some others
  pub all : bytes ≡ b ∷ others

pub halved : (high low : ℕ) (rest : List ℕ) {bytes : List ℕ} → hex_of (high ∷ low ∷ rest) ≡ Some bytes → Halved high low rest bytes
unfolding hex_of
halved high low rest {bytes} e = go (hex_byte_of high low) refl (hex_of rest) refl e
  where
    go : (m : Option ℕ) → hex_byte_of high low ≡ m → (n : Option (List ℕ)) → hex_of rest ≡ n
        → (m >>= λ b. n >>= λ others. Some (b ∷ others)) ≡ Some bytes → Halved high low rest bytes
    go (Some b) p (Some others) q e = record { b = b; others = others; first = p; behind = q; all = cc }
    go (Some b) p None q e = cc
    go None p n q e = cc

pub half : (word : List ℕ) {bytes : List ℕ} → hex_of word ≡ Some bytes → length word ≡ 2 * length bytes
unfolding hex_of
half [] {bytes} e = let same : [] ≡ bytes = cc in rw (← same)
half (letter ∷ []) e = cc
half (high ∷ low ∷ rest) {bytes} e =
    let h = halved high low rest e in
    let more = half rest h.behind in
    rw h.all (omega arith)

pub pair-at : (word : List ℕ) {bytes : List ℕ} → hex_of word ≡ Some bytes → (i : ℕ) → i < length bytes
    → hex_byte_of (get_or word (2 * i) 0) (get_or word (2 * i + 1) 0) ≡ Some (get_or bytes i 0)
unfolding hex_of
pair-at [] {bytes} e i h = let same : [] ≡ bytes = cc in absurd (omega (arith, ap length same))
pair-at (letter ∷ []) e i h = cc
pair-at (high ∷ low ∷ rest) {bytes} e zero h = let p = halved high low rest e in rw p.all p.first
pair-at (high ∷ low ∷ rest) {bytes} e (suc i) h =
    let p = halved high low rest e in
    let even : 2 * suc i ≡ suc (suc (2 * i)) = omega arith in
    let odd : 2 * suc i + 1 ≡ suc (suc (2 * i + 1)) = omega arith in
    let size = ap length p.all in
    rw (p.all, odd, even) (pair-at rest p.behind i (omega arith))

-- a word that begins with two letters
pub two-letters : (pair rest : List ℕ) → length pair ≡ 2 → pair ++ rest ≡ get_or pair 0 0 ∷ get_or pair 1 0 ∷ rest
two-letters [] rest e = absurd (omega arith)
two-letters (high ∷ []) rest e = absurd (omega arith)
two-letters (high ∷ low ∷ []) rest e = refl
two-letters (high ∷ low ∷ other ∷ others) rest e = absurd (omega arith)

-- whether a word is hex at all: two letters are passed at once, and one that is left over is none
meant-more : (b : ℕ) (m : Option (List ℕ)) → meant (m >>= λ others. Some (b ∷ others)) ≡ meant m
meant-more b (Some others) = refl
meant-more b None = refl

pub pair-in-front : (pair rest : List ℕ) → length pair ≡ 2 → {r : Option ℕ} → r ≡ hex_byte_of (get_or pair 0 0) (get_or pair 1 0) → is_some r ≡ true
    → meant (hex_of (pair ++ rest)) ≡ meant (hex_of rest)
unfolding hex_of
pair-in-front pair rest two {r} e f = rw (two-letters pair rest two, ← e) (go r f)
  where
    go : (r : Option ℕ) → is_some r ≡ true → meant (r >>= λ b. hex_of rest >>= λ others. Some (b ∷ others)) ≡ meant (hex_of rest)
    go (Some b) f = meant-more b (hex_of rest)
    go None f = cc

pub none-in-front : (pair rest : List ℕ) → length pair ≡ 2 → {r : Option ℕ} → r ≡ hex_byte_of (get_or pair 0 0) (get_or pair 1 0) → is_some r ≡ false
    → hex_of (pair ++ rest) ≡ None
unfolding hex_of
none-in-front pair rest two {r} e f = rw (two-letters pair rest two, ← e) (go r f)
  where
    go : (r : Option ℕ) → is_some r ≡ false → (r >>= λ b. hex_of rest >>= λ others. Some (b ∷ others)) ≡ None
    go (Some b) f = cc
    go None f = refl

pub left-over : (rest : List ℕ) → length rest < 2 → nat_eq (length rest % 2) 0 ≡ meant (hex_of rest)
unfolding hex_of
left-over [] h = refl
left-over (letter ∷ []) h = refl
left-over (high ∷ low ∷ rest) h = absurd (omega arith)

pub odd-none : (word : List ℕ) → length word % 2 ≡ 1 → hex_of word ≡ None
odd-none word h = go (hex_of word) refl
  where
    go : (m : Option (List ℕ)) → hex_of word ≡ m → m ≡ None
    go (Some bytes) e = absurd (let size = half word e in omega arith)
    go None e = refl

-- the bytes of a word that is hex
abbrev pub bytes_in : Option (List ℕ) → List ℕ
bytes_in (Some bytes) = bytes
bytes_in None = []

pub said-bytes : (m : Option (List ℕ)) → meant m ≡ true → m ≡ Some (bytes_in m)
said-bytes (Some bytes) e = refl
said-bytes None e = cc

pub record HexWord (word : List ℕ) : Type 0 where
  pub said : hex_of word ≡ Some (bytes_in (hex_of word))
  pub size : length word ≡ 2 * length (bytes_in (hex_of word))

pub is_said : (word : List ℕ) {r : Bool} → r ≡ meant (hex_of word) → not r ≡ false → HexWord word
is_said word {r} e f =
    let said = said-bytes (hex_of word) (sym e ∙ not-false r f) in
    record { said = said; size = half word said }
