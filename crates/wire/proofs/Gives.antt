-- What holds of every value that a reader gives of a list, for each way of putting readers together.
-- Assumes nothing.
use Prim.Native.Nat.{ℕ}
use mathlib.Core.Path.{◌≡◌, refl, sym, subst, ◌∙◌}
use mathlib.Core.Bool.{Bool, true, false, cond}
use mathlib.Core.List.{List}
use Rattle.wire.specs.declared.refusal.Refusal.{Refusal}
use Rattle.wire.specs.Reading.{Reader, read, give, refuse, ◌>>=◌, when}
use Rattle.wire.specs.Answer.{Answer, answer, refusal, asked}
use Rattle.wire.proofs.Lawful.{never, steps, grouped}

pub record Gives {A : Type 0} (s : List ℕ) (r : Reader A) (P : A → Type 0) : Type 0 where
  pub of : {at next : ℕ} {a : A} → r s at ≡ read a next → P a

-- of a reader of which nothing is said
pub gives-any : {A : Type 0} {s : List ℕ} (r : Reader A) → Gives s r (λ a. Unit {0})
gives-any r = record { of = λ e. tt }

pub gives-give : {A : Type 0} {s : List ℕ} {P : A → Type 0} (a : A) → P a → Gives s (give a) P
gives-give {P = P} a p = record { of = λ {at} {next} {a = b} e. let same : a ≡ b = cc in subst P same p }

pub gives-refuse : {A : Type 0} {s : List ℕ} {P : A → Type 0} (why : Refusal) → Gives s (refuse why) P
gives-refuse why = record { of = λ e. absurd (never e) }

pub gives-asked : {A : Type 0} {s : List ℕ} (found : Answer A) → Gives s (asked found) (λ a. found ≡ answer a)
gives-asked (answer a) = record { of = λ e. cc }
gives-asked (refusal why) = record { of = λ e. absurd (never e) }

pub gives-bind : {A B : Type 0} {s : List ℕ} {m : Reader A} {f : A → Reader B} {Q : A → Type 0} {P : B → Type 0}
    → Gives s m Q → ((a : A) → Q a → Gives s (f a) P) → Gives s (m >>= f) P
gives-bind {s = s} {m = m} {f = f} q k =
    record {
      of = λ {at} e.
          let w = steps (m s at) (λ a next. f a s next) e in
          (k w.first (q.of w.begins)).of w.goes;
    }

pub gives-group : {A B C : Type 0} {s : List ℕ} (m : Reader A) (k : A → Reader B) (l : B → Reader C) {P : C → Type 0}
    → Gives s (m >>= λ a. (k a >>= l)) P → Gives s ((m >>= k) >>= l) P
gives-group {s = s} m k l h =
    record { of = λ {at} e. h.of (sym (grouped (m s at) (λ a next. k a s next) (λ b next. l b s next)) ∙ e) }

pub gives-when : {A : Type 0} {s : List ℕ} {r : Reader A} {P : A → Type 0} (b : Bool) (absent : A)
    → (b ≡ true → Gives s r P) → (b ≡ false → P absent) → Gives s (when b absent r) P
gives-when true absent there gone = there refl
gives-when false absent there gone = gives-give absent (gone refl)

pub gives-cond : {A : Type 0} {s : List ℕ} {r t : Reader A} {P : A → Type 0} (b : Bool) → Gives s r P → Gives s t P → Gives s (cond b r t) P
gives-cond true g h = g
gives-cond false g h = h

-- a field that may be missing, in front of others that are grouped to it
pub gives-optional : {A B C : Type 0} {s : List ℕ} {r : Reader A} {Q : A → Type 0} {P : C → Type 0} (b : Bool) (absent : A)
    (k : A → Reader B) (l : B → Reader C)
    → Gives s r Q → Q absent → ((a : A) → Q a → Gives s (k a >>= l) P) → Gives s ((when b absent r >>= k) >>= l) P
gives-optional {r = r} b absent k l there gone goes =
    gives-group (when b absent r) k l (gives-bind (gives-when b absent (λ e. there) (λ e. gone)) goes)
