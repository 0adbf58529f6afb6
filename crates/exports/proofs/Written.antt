-- What a writer goes by whose size was told: only numbers that fit have a size, those of its bytes fit, and where there is no room nothing is written.
-- Assumes nothing.
use Prim.Native.Nat.{ℕ, zero, suc, ◌+◌, ◌≤◌, ◌<◌}
use native.Mathlib.Omega.{arith}
use mathlib.Core.Path.{◌≡◌, refl, sym, ap, ◌∙◌}
use mathlib.Core.Bool.{Bool, true, false}
use mathlib.Core.List.{List, ◌∷◌}
use lib.ListN.{length, take, drop, length-take, length-drop}
use borrow.Author.Tests.{lt-leb}
use Rattle.wire.specs.declared.refusal.Refusal.{Refusal}
use Rattle.wire.specs.Refusals.{number_of}
use Rattle.wire.specs.Answer.{Answer, answer, refusal, ◌>>=◌}
use Rattle.wire.specs.Outcomes.{reply}
use Rattle.wire.specs.Writing.{Put, length_of}
use Rattle.exports.specs.Held.{octets, fits, held}
use Rattle.exports.specs.Told.{ToldNumber, ToldWriting}
use Rattle.exports.proofs.Fits.{fits-part}

-- no refusal has the number 0
pub some_number : (why : Refusal) → ¬ (number_of why ≡ 0)
some_number why e = grind arith

-- only numbers that fit have a size
pub held-sized : {A : Type 0} (fit : Bool) (a : A) (f : A → Answer (List ℕ)) {n : ℕ} → length_of (held fit a >>= f) ≡ answer n
    → (fit ≡ true) × (length_of (f a) ≡ answer n)
held-sized true a f e = (refl, e)
held-sized false a f e = absurd (let z : ◌≡◌ {A = ℕ} 0 1 = cc in omega arith)

octets-part : (n m : ℕ) → n ≤ m → take n (octets m) ≡ octets n
octets-part zero m h = refl
octets-part (suc n) zero h = absurd (omega arith)
octets-part (suc n) (suc m) h = ap (λ (l : List ℕ). 255 ∷ l) (octets-part n m (omega arith))

pub part-fits : (from n : ℕ) (ns largest : List ℕ) → fits ns largest ≡ true → drop from largest ≡ octets 32 → n ≤ 32 → from + n ≤ length ns
    → fits (take n (drop from ns)) (octets (length (take n (drop from ns)))) ≡ true
part-fits from n ns largest f e few room =
    let many : length (take n (drop from ns)) ≡ n = simp (length-take, length-drop) (omega arith) in
    rw (many, ← octets-part n 32 few, ← e) (fits-part from n ns largest f)

-- nothing is written where there is no room
pub no_room : (s : List ℕ) (bytes : Answer (List ℕ)) {n size r : ℕ} → n ≡ 0 → ToldNumber (reply 0 (length_of bytes)) n size → length s < size → r ≡ 6
    → ToldWriting s bytes r 0 s
no_room s (answer b) given t h e =
    let size = t.value in
    let room = lt-leb (length b) (length s) (omega arith) in
    record { number = rw room e; size = rw room; buffer = rw room }
no_room s (refusal why) given t h e = absurd (some_number why (sym t.number ∙ given))

-- bytes by another name
pub put_same : {s : List ℕ} {at : ℕ} {xs ys : List ℕ} {next : ℕ} {t : List ℕ} → xs ≡ ys → Put s at xs next t → Put s at ys next t
put_same e p = rw (← e) p
