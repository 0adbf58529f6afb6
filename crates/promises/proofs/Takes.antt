-- A header looks at 12 bytes and at no others: each of its fields always takes as many, and two lists that agree on them are answered alike, with a refusal too.
-- Assumes nothing.
use Prim.Native.Nat.{ℕ, ◌+◌, ◌≤◌}
use native.Mathlib.Omega.{arith}
use mathlib.Core.Path.{◌≡◌, refl, sym}
use mathlib.Core.List.{List}
use lib.Dec.{eqb}
use lib.ListN.{length}
use Rattle.wire.specs.declared.refusal.Refusal.{Refusal}
use Rattle.wire.specs.declared.refusal.Refusal.TheVariants.{NotAction, NotVersion}
use Rattle.wire.specs.Reading.{Reading, Reader, read, refused, field, give, onward, ◌>>=◌}
use Rattle.wire.specs.Answer.{Answer, answer, refusal, asked, require}
use Rattle.wire.specs.Numbers.{little, pair_of}
use Rattle.wire.proofs.Lawful.{SameUpTo, same-below, field-within, never, steps}
use Rattle.wire.proofs.Places.{made_inside}
use Rattle.action_frame.specs.Frames.{fixed_byte, header}

-- a reader that takes so many bytes where it gives a value, and whose answer, also a refusal, depends on these bytes alone
record Takes {A : Type 0} (r : Reader A) (n : ℕ) : Type 0 where
  of : {s : List ℕ} {at next : ℕ} {a : A} → r s at ≡ read a next → next ≡ at + n
  same : (s t : List ℕ) (at : ℕ) → at + n ≤ length s → at + n ≤ length t → SameUpTo (at + n) s t → r s at ≡ r t at

made-takes : {A : Type 0} (n : ℕ) (g : List ℕ → A) → Takes (field n >>= λ x. give (g x)) n
made-takes n g =
    record {
      of = λ {s} {at} e. (made_inside n s at g e).0;
      same = λ s t at h k e. rw (field-within n s at h, field-within n t at k, e);
    }

give-takes : {A : Type 0} (a : A) → Takes (give a) 0
give-takes a = record { of = λ {s} {at} {next} e. let same : at ≡ next = cc in omega arith; same = λ s t at h k e. refl }

asked-takes : {A : Type 0} (a : Answer A) → Takes (asked a) 0
asked-takes (answer a) = give-takes a
asked-takes (refusal why) = record { of = λ e. absurd (never e); same = λ s t at h k e. refl }

bind-takes : {A B : Type 0} {m : Reader A} {f : A → Reader B} (i j : ℕ) → Takes m i → ((a : A) → Takes (f a) j) → Takes (m >>= f) (i + j)
bind-takes {A} {B} {m = m} {f = f} i j first second =
    record {
      of = λ {s} {at} e.
          let w = steps (m s at) (λ a next. f a s next) e in
          let one = first.of w.begins in
          let two = (second w.first).of w.goes in
          omega arith;
      same = λ s t at h k e. goes s t at h k e (m s at) refl (sym (first.same s t at (omega arith) (omega arith) (same-below (at + i) (at + (i + j)) s t (omega arith) e)));
    }
  where
    goes : (s t : List ℕ) (at : ℕ) → at + (i + j) ≤ length s → at + (i + j) ≤ length t → SameUpTo (at + (i + j)) s t
        → (r : Reading A) → m s at ≡ r → m t at ≡ m s at → onward (m s at) (λ a next. f a s next) ≡ onward (m t at) (λ a next. f a t next)
    goes s t at h k e (read a next) q p =
        let place : next ≡ at + i = first.of q in
        let behind : next + j ≡ at + (i + j) = omega arith in
        rw (p, q) ((second a).same s t next (omega arith) (omega arith) (rw behind e))
    goes s t at h k e (refused why) q p = rw (p, q)

fixed-takes : (value : ℕ) (why : Refusal) → Takes (fixed_byte value why) 1
fixed-takes value why = bind-takes 1 0 (made-takes 1 little) (λ byte. asked-takes (require (eqb byte value) why))

header-takes : Takes header 12
header-takes =
    bind-takes 1 11 (fixed-takes 0x08 NotAction)
    (λ _. bind-takes 1 10 (fixed-takes 0x10 NotVersion)
    (λ _. bind-takes 2 8 (made-takes 2 pair_of)
    (λ subtype. bind-takes 4 4 (made-takes 4 little)
    (λ phy. bind-takes 4 0 (made-takes 4 little) (λ target. give-takes _)))))

pub header-same : (s t : List ℕ) → 12 ≤ length s → 12 ≤ length t → SameUpTo 12 s t → header s 0 ≡ header t 0
header-same s t h k e = header-takes.same s t 0 (omega arith) (omega arith) e
