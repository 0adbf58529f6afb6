-- A number below ten is its one digit, and any other has the digits of its tenth part in front of the last, so that they can be gathered from the last on.
-- Assumes nothing.
use Prim.Native.Nat.{ℕ, zero, suc, ◌+◌, ◌-◌, ◌/◌, ◌%◌, ◌^◌, ◌≤◌, ◌<◌}
use native.Mathlib.Omega.{arith}
use mathlib.Core.Path.{◌≡◌, refl, ◌∙◌}
use mathlib.Core.Bool.{Bool, true, false}
use mathlib.Core.List.{List, [], ◌∷◌, ◌++◌, append_assoc, append-nil}
use lib.Dec.{ltb}
use lib.ListN.{length, take, drop, set, length-append, length-drop, length-set, drop_of_length-le}
use lib.Seq.{take_all, set_split, drop_at, length-take-le}
use borrow.Author.Tests.{ltb-true, ltb-false, lt-ltb, le-ltb}
use Rattle.text.specs.Text.{spelled, decimal}

-- as many places as the number needs, or more
same : (places more n : ℕ) → n < places → n < more → spelled places n ≡ spelled more n
unfolding spelled
same zero more n h k = absurd (omega arith)
same (suc places) zero n h k = absurd (omega arith)
same (suc places) (suc more) n h k = go (ltb n 10) refl (λ big. same places more (n / 10) (omega arith) (omega arith))
  where
    go : (b : Bool) → ltb n 10 ≡ b → (10 ≤ n → spelled places (n / 10) ≡ spelled more (n / 10)) → spelled (suc places) n ≡ spelled (suc more) n
    go true e tenth = rw e
    go false e tenth = rw (e, tenth (ltb-false n 10 e))

pub one-digit : (n : ℕ) → n < 10 → decimal n ≡ (48 + n) ∷ []
unfolding spelled
one-digit n h = rw (lt-ltb n 10 h)

pub last-digit : (n : ℕ) → 10 ≤ n → decimal n ≡ decimal (n / 10) ++ ((48 + n % 10) ∷ [])
unfolding spelled
last-digit n h = rw (le-ltb n 10 h, same n (suc (n / 10)) (n / 10) (omega arith) (omega arith))

one_digit_more : (n : ℕ) → 10 ≤ n → length (decimal n) ≡ suc (length (decimal (n / 10)))
one_digit_more n h = rw (last-digit n h, length-append (decimal (n / 10)) ((48 + n % 10) ∷ [])) (omega arith)

pub some-digit : (n : ℕ) → 0 < length (decimal n)
some-digit n = go (ltb n 10) refl
  where
    go : (b : Bool) → ltb n 10 ≡ b → 0 < length (decimal n)
    go true e = rw (one-digit n (ltb-true n 10 e)) (omega arith)
    go false e = rw (one_digit_more n (ltb-false n 10 e)) (omega arith)

-- a number below a power of ten has no more places than the power
fewer : (k n : ℕ) → n < 10 ^ suc k → length (decimal n) ≤ suc k
fewer zero n h = rw (one-digit n h) (omega arith)
fewer (suc k) n h = go (ltb n 10) refl (fewer k (n / 10) (omega arith))
  where
    go : (b : Bool) → ltb n 10 ≡ b → length (decimal (n / 10)) ≤ suc k → length (decimal n) ≤ suc (suc k)
    go true e tenth = rw (one-digit n (ltb-true n 10 e)) (omega arith)
    go false e tenth = rw (one_digit_more n (ltb-false n 10 e)) (omega arith)

pub twenty-digits : (n : ℕ) → n < 2 ^ 64 → length (decimal n) ≤ 20
twenty-digits n h = fewer 19 n (omega arith)

-- the digits of a number, gathered in the last of twenty places: those of the rest belong before them, where they have room
pub record Gathered (n : ℕ) (digits : List ℕ) (first rest : ℕ) : Type 0 where
  pub size : length digits ≡ 20
  pub inside : first ≤ 20
  pub room : length (decimal rest) ≤ first
  pub all : decimal n ≡ decimal rest ++ drop first digits

pub gather_none : (n : ℕ) (digits : List ℕ) → n < 2 ^ 64 → length digits ≡ 20 → Gathered n digits 20 n
gather_none n digits h e =
    record {
      size = e;
      inside = omega arith;
      room = twenty-digits n h;
      all = rw (drop_of_length-le digits {i = 20} (omega arith), append-nil (decimal n));
    }

module _ {n : ℕ} {digits : List ℕ} {first rest d : ℕ} (g : Gathered n digits first rest) (e : d ≡ 48 + rest % 10) where
  stored : drop (first - 1) (set digits (first - 1) d) ≡ (48 + rest % 10) ∷ drop first digits
  stored =
      let some = some-digit rest in
      let place : suc (first - 1) ≡ first = omega arith in
      rw (set_split digits (first - 1) d (omega arith), place, e)
      (drop_at (take (first - 1) digits) ((48 + rest % 10) ∷ drop first digits) (first - 1) (length-take-le (first - 1) digits (omega arith)))

  -- one digit more, and the rest has one less
  pub gather-more : 10 ≤ rest → Gathered n (set digits (first - 1) d) (first - 1) (rest / 10)
  gather-more big =
      record {
        size = simp length-set g.size;
        inside = omega arith;
        room = omega (arith, one_digit_more rest big);
        all = g.all ∙ rw (last-digit rest big, stored, append_assoc (decimal (rest / 10)) ((48 + rest % 10) ∷ []) (drop first digits));
      }

  -- the last one that is left, and with it they are all there
  pub gather-all : rest < 10 → take (20 - (first - 1)) (drop (first - 1) (set digits (first - 1) d)) ≡ decimal n
  gather-all small =
      let alone : rest % 10 ≡ rest = omega arith in
      rw (take_all (20 - (first - 1)) (drop (first - 1) (set digits (first - 1) d)) (simp (length-drop, length-set) (omega arith)), g.all, one-digit rest small, stored, alone)
