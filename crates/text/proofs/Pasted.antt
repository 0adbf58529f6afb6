-- What is shown can be pasted: the digits of a number say that number, and those of bytes say those bytes.
-- Assumes nothing.
use Prim.Native.Nat.{ℕ, zero, suc, ◌+◌, ◌-◌, ◌*◌, ◌/◌, ◌%◌, ◌^◌, ◌≤◌, ◌<◌}
use native.Mathlib.Omega.{arith}
use mathlib.Core.Path.{◌≡◌, refl, ap, ◌∙◌}
use mathlib.Core.Bool.{Bool, true, false}
use mathlib.Core.List.{List, [], ◌∷◌, ◌++◌}
use lib.Dec.{ltb}
use lib.ListN.{get_or}
use borrow.Author.Tests.{ltb-true, ltb-false, lt-ltb}
use Rattle.text.specs.Text.{decimal, hex}
use Rattle.std.specs.Prelude.{Option, Some, None}
use Rattle.text.specs.Words.{◌>>=◌, digit_of, digits_of, decimal_of, hex_of}
use Rattle.text.proofs.Digits.{one-digit, last-digit, some-digit, twenty-digits}
use Rattle.text.proofs.Letters.{among_in, digit-again}
use Rattle.text.proofs.Numerals.{few-digits}

-- digits behind digits
digits-then : (n : ℕ) (xs ys : List ℕ) → digits_of n (xs ++ ys) ≡ (digits_of n xs >>= λ m. digits_of m ys)
unfolding digits_of
digits-then n [] ys = refl
digits-then n (x ∷ xs) ys = go (digit_of x) (λ m. digits-then m xs ys)
  where
    go : (digit : Option ℕ) → ((m : ℕ) → digits_of m (xs ++ ys) ≡ (digits_of m xs >>= λ m. digits_of m ys))
        → (digit >>= λ d. digits_of (n * 10 + d) (xs ++ ys)) ≡ (digit >>= (λ d. digits_of (n * 10 + d) xs) >>= λ m. digits_of m ys)
    go (Some d) others = others (n * 10 + d)
    go None others = refl

digit-behind : (n d : ℕ) → d < 10 → digits_of n ((48 + d) ∷ []) ≡ Some (n * 10 + d)
unfolding digits_of
digit-behind n d h =
    let same : 48 + d - 48 ≡ d = omega arith in
    rw (among_in {first = 48} {last = 57} {n = 48 + d} (omega arith) (omega arith), same)

digits-again : (most n : ℕ) → n < most → digits_of 0 (decimal n) ≡ Some n
digits-again zero n h = absurd (omega arith)
digits-again (suc most) n h = go (ltb n 10) refl (λ big. digits-again most (n / 10) (omega arith))
  where
    go : (b : Bool) → ltb n 10 ≡ b → (10 ≤ n → digits_of 0 (decimal (n / 10)) ≡ Some (n / 10)) → digits_of 0 (decimal n) ≡ Some n
    go true e tenth =
        let few = ltb-true n 10 e in
        rw (one-digit n few) (digit-behind 0 n few ∙ ap Some (omega arith))
    go false e tenth =
        let more = ltb-false n 10 e in
        rw (last-digit n more, digits-then 0 (decimal (n / 10)) ((48 + n % 10) ∷ []), tenth more)
        (digit-behind (n / 10) (n % 10) (omega arith) ∙ ap Some (omega arith))

pub decimal-again : (n : ℕ) → n < 2 ^ 64 → decimal_of (decimal n) ≡ Some n
decimal-again n h =
    rw (few-digits (decimal n) (some-digit n) (twenty-digits n h), digits-again (suc n) n (omega arith), lt-ltb n (2 ^ 64) h)

pub hex-again : (bytes : List ℕ) → ((i : ℕ) → get_or bytes i 0 < 256) → hex_of (hex bytes) ≡ Some bytes
unfolding hex hex_of
hex-again [] small = refl
hex-again (b ∷ bs) small =
    let first : b < 256 = small 0 in
    let same : b / 16 * 16 + b % 16 ≡ b = omega arith in
    rw (digit-again (b / 16) (omega arith), digit-again (b % 16) (omega arith), hex-again bs (λ i. small (suc i)), same)
