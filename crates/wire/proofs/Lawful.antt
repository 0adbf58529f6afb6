-- What every reader keeps, proved once for each way of putting readers together: a format's own reader keeps it because its parts do.
-- Assumes nothing.
use Prim.Native.Nat.{ℕ, ◌+◌, ◌≤◌, ◌<◌, zero-le, min}
use native.Mathlib.Nat.{add_assoc}
use native.Mathlib.Omega.{arith}
use mathlib.Core.Path.{◌≡◌, refl, sym, ap, ◌∙◌}
use mathlib.Core.Bool.{Bool, true, false, cond}
use mathlib.Core.List.{List, ◌++◌}
use lib.Dec.{leb}
use lib.ListN.{length, take, drop, length-take, length-drop}
use lib.Seq.{length-take-le, take-take, take-add, take-append-le, drop_at, drop-drop}
use borrow.Author.Tests.{le-leb, lt-leb, leb-true, leb-false}
use Rattle.wire.specs.declared.refusal.Refusal.{Refusal}
use Rattle.wire.specs.declared.refusal.Refusal.TheVariants.{Short}
use Rattle.wire.specs.Reading.{Reading, Reader, read, refused, give, refuse, field, onward, ◌>>=◌}
use Rattle.wire.specs.ShortFields.{Made, gives, refuses, takes, row, ComesTo, itself, in-first, in-next, DoesNotFit, ShortExactly}
use Rattle.wire.specs.Refusals.{number_of}
use Rattle.wire.specs.Answer.{Answer, asked, require}
use Rattle.wire.specs.Numbers.{little, number}
use Rattle.wire.specs.Addresses.{address_of, address}

-- two lists agree up to a place
abbrev pub SameUpTo : ℕ → List ℕ → List ℕ → Type 0
SameUpTo n s t = take n s ≡ take n t

pub same-below : (m n : ℕ) (s t : List ℕ) → m ≤ n → SameUpTo n s t → SameUpTo m s t
same-below m n s t h same = sym (take-take m n s h) ∙ ap (take m) same ∙ take-take m n t h

-- a reader is made of the words for formats; it goes ahead and stays within; only the bytes that it passed matter; where it is short, it has come to a
-- field that does not fit; and it is the same wherever its bytes stand
pub record Lawful {A : Type 0} (r : Reader A) : Type 1 where
  pub made : Made A r
  pub ahead : {s : List ℕ} {at next : ℕ} {a : A} → at ≤ length s → r s at ≡ read a next → (at ≤ next) × (next ≤ length s)
  pub local : {s t : List ℕ} {at next : ℕ} {a : A} → at ≤ length s → r s at ≡ read a next → SameUpTo next s t → r t at ≡ read a next
  pub at-a-field : {s : List ℕ} {at p : ℕ} → r s at ≡ refused (Short p) → DoesNotFit r s at p
  pub bounded : {s : List ℕ} {at p : ℕ} → at ≤ length s → r s at ≡ refused (Short p) → (at ≤ p) × (p ≤ length s)
  pub moved : {k : ℕ} {s : List ℕ} {at next : ℕ} {a : A} → k ≤ length s → r (drop k s) at ≡ read a next → r s (k + at) ≡ read a (k + next)
  pub moved-short : {k : ℕ} {s : List ℕ} {at p : ℕ} → k ≤ length s → r (drop k s) at ≡ refused (Short p) → r s (k + at) ≡ refused (Short (k + p))

-- a refusal is no value
pub never : {A : Type 0} {why : Refusal} {a : A} {next : ℕ} → refused why ≡ read a next → ⊥
never e = let z : ◌≡◌ {A = ℕ} 0 1 = cc in omega arith

pub give-lawful : {A : Type 0} (a : A) → Lawful (give a)
give-lawful a =
    record {
      made = gives a;
      ahead = λ {s} {at} {next} h e. let q : at ≡ next = cc in omega arith;
      local = λ h e same. e;
      at-a-field = λ e. absurd (never (sym e));
      bounded = λ h e. absurd (never (sym e));
      moved = λ {k} {s} {at} h e. let q = e in cc;
      moved-short = λ h e. absurd (never (sym e));
    }

-- a refusal for something else than missing bytes
pub refuse-lawful : {A : Type 0} (why : Refusal) → ¬ (number_of why ≡ 1) → Lawful (refuse {A = A} why)
refuse-lawful {A} why other =
    record {
      made = refuses why other;
      ahead = λ h e. absurd (never e);
      local = λ h e same. absurd (never e);
      at-a-field = λ {s} {at} {p} e. absurd (not_short p e);
      bounded = λ {s} {at} {p} h e. absurd (not_short p e);
      moved = λ h e. absurd (never e);
      moved-short = λ {k} {s} {at} {p} h e. absurd (not_short p e);
    }
  where
    not_short : (p : ℕ) → ◌≡◌ {A = Reading A} (refused why) (refused (Short p)) → ⊥
    not_short p e = let same : why ≡ Short p = cc in other (ap number_of same)

-- what stands between two places
pub part-between : (k n : ℕ) (s : List ℕ) → k ≤ length s → drop k (take (k + n) s) ≡ take n (drop k s)
part-between k n s h = rw (take-add k n s) (drop_at (take k s) (take n (drop k s)) k (length-take-le k s h))

-- a field that was read stood within, and is what stands before its end, less what stands before it
pub field-read : (n : ℕ) (s : List ℕ) (at : ℕ) {a : List ℕ} {next : ℕ} → field n s at ≡ read a next
    → (at + n ≡ next) × (at + n ≤ length s) × (drop at (take (at + n) s) ≡ a)
field-read n s at {a} {next} e = go (leb (at + n) (length s)) refl e
  where
    go : (b : Bool) → leb (at + n) (length s) ≡ b → cond b (read (take n (drop at s)) (at + n)) (refused (Short at)) ≡ read a next
        → (at + n ≡ next) × (at + n ≤ length s) × (drop at (take (at + n) s) ≡ a)
    go true q e =
        let inside : at + n ≤ length s = leb-true (at + n) (length s) q in
        ((cc), inside, part-between at n s (omega arith) ∙ cc)
    go false q e = absurd (never e)

-- where a field stands within, it is read
pub field-within : (n : ℕ) (s : List ℕ) (at : ℕ) → at + n ≤ length s → field n s at ≡ read (drop at (take (at + n) s)) (at + n)
field-within n s at h = rw (le-leb (at + n) (length s) h, part-between at n s (omega arith))

-- a field that was refused does not fit, and is refused at its own place
pub field-refused : (n : ℕ) (s : List ℕ) (at : ℕ) {why : Refusal} → field n s at ≡ refused why → (length s < at + n) × (Short at ≡ why)
field-refused n s at {why} e = go (leb (at + n) (length s)) refl e
  where
    go : (b : Bool) → leb (at + n) (length s) ≡ b → cond b (read (take n (drop at s)) (at + n)) (refused (Short at)) ≡ refused why
        → (length s < at + n) × (Short at ≡ why)
    go true q e = absurd (never (sym e))
    go false q e = (leb-false (at + n) (length s) q, cc)

-- lists that agree up to a place within the one have that place within the other
same_length : (n : ℕ) (s t : List ℕ) → n ≤ length s → SameUpTo n s t → n ≤ length t
same_length n s t h same =
    let e : min n (length t) ≡ n = sym (length-take n t) ∙ sym (ap length same) ∙ length-take-le n s h in
    omega arith

-- a field of the bytes from a place on is one of all of them, so much further behind
field-moved : (n k : ℕ) (s : List ℕ) (at : ℕ) {a : List ℕ} {next : ℕ} → k ≤ length s → field n (drop k s) at ≡ read a next → field n s (k + at) ≡ read a (k + next)
field-moved n k s at h e =
    let f = field-read n (drop k s) at e in
    let many = length-drop k s in
    rw (
      le-leb (k + at + n) (length s) (omega arith),
      ← drop-drop at k s,
      ← part-between at n (drop k s) (omega arith),
      f.2,
      ← f.0,
      add_assoc k at n,
    )

field-moved-short : (n k : ℕ) (s : List ℕ) (at : ℕ) {p : ℕ} → k ≤ length s → field n (drop k s) at ≡ refused (Short p) → field n s (k + at) ≡ refused (Short (k + p))
field-moved-short n k s at {p} h e =
    let f = field-refused n (drop k s) at e in
    let many = length-drop k s in
    let same : at ≡ p = let g = f.1 in cc in
    rw (lt-leb (k + at + n) (length s) (omega arith), same)

pub field-lawful : (n : ℕ) → Lawful (field n)
field-lawful n =
    record {
      made = takes n;
      ahead = λ {s} {at} h e. let f = field-read n s at e in omega arith;
      local = λ {s} {t} {at} {next} {a} h e same.
          let f = field-read n s at e in
          let same' : SameUpTo (at + n) s t = rw f.0 same in
          field-within n t at (same_length (at + n) s t f.1 same') ∙ rw (← same', f.2, f.0);
      at-a-field = λ {s} {at} {p} e.
          let f = field-refused n s at e in
          let same : at ≡ p = let g = f.1 in cc in
          record { width = n; comes = rw (← same) itself; ends = omega arith };
      bounded = λ {s} {at} {p} h e.
          let f = field-refused n s at e in
          let same : at ≡ p = let g = f.1 in cc in
          omega arith;
      moved = λ {k} {s} {at} h e. field-moved n k s at h e;
      moved-short = λ {k} {s} {at} h e. field-moved-short n k s at h e;
    }

-- what was read by one reader behind another: what the first gave, and where
pub record Steps {A B : Type 0} (r : Reading A) (f : A → ℕ → Reading B) (b : B) (next : ℕ) : Type 0 where
  pub first : A
  pub mid : ℕ
  pub begins : r ≡ read first mid
  pub goes : f first mid ≡ read b next

pub steps : {A B : Type 0} (r : Reading A) (f : A → ℕ → Reading B) {b : B} {next : ℕ} → onward r f ≡ read b next → Steps r f b next
steps (read a mid) f e = record { first = a; mid = mid; begins = refl; goes = e }
steps (refused why) f e = absurd (never e)

-- readers in a row, grouped to the left or to the right
pub grouped : {A B C : Type 0} (r : Reading A) (k : A → ℕ → Reading B) (l : B → ℕ → Reading C)
    → onward (onward r k) l ≡ onward r (λ a next. onward (k a next) l)
grouped (read a next) k l = refl
grouped (refused why) k l = refl

pub bind-lawful : {A B : Type 0} {m : Reader A} {f : A → Reader B} → Lawful m → ((a : A) → Lawful (f a)) → Lawful (m >>= f)
bind-lawful {A} {B} {m} {f} lm lf =
    record {
      made = row m f lm.made (λ a. (lf a).made);
      ahead = λ {s} {at} h e.
          let w = steps (m s at) (λ a next. f a s next) e in
          let p = lm.ahead h w.begins in
          let q = (lf w.first).ahead p.1 w.goes in
          omega arith;
      local = λ {s} {t} {at} {next} h e same.
          let w = steps (m s at) (λ a next. f a s next) e in
          let p = lm.ahead h w.begins in
          let q = (lf w.first).ahead p.1 w.goes in
          let same' : SameUpTo w.mid s t = same-below w.mid next s t q.0 same in
          rw (lm.local h w.begins same') ((lf w.first).local p.1 w.goes same);
      at-a-field = λ {s} {at} e. bind-short s at (m s at) refl e;
      bounded = λ {s} {at} h e. bind-bounded s at h (m s at) refl e;
      moved = λ {k} {s} {at} h e.
          let w = steps (m (drop k s) at) (λ a next. f a (drop k s) next) e in
          rw (lm.moved h w.begins) ((lf w.first).moved h w.goes);
      moved-short = λ {k} {s} {at} h e. bind-moved-short k s at h (m (drop k s) at) refl e;
    }
  where
    bind-short : (s : List ℕ) (at : ℕ) {p : ℕ} (r : Reading A) → m s at ≡ r → onward r (λ a next. f a s next) ≡ refused (Short p)
        → DoesNotFit (m >>= f) s at p
    bind-short s at (read a mid) q e =
        let d = (lf a).at-a-field e in
        record { width = d.width; comes = in-next m f lm.made (λ a. (lf a).made) q d.comes; ends = d.ends }
    bind-short s at {p} (refused why) q e =
        let same : why ≡ Short p = cc in
        let d = lm.at-a-field (q ∙ ap refused same) in
        record { width = d.width; comes = in-first f lm.made (λ a. (lf a).made) d.comes; ends = d.ends }

    bind-bounded : (s : List ℕ) (at : ℕ) {p : ℕ} → at ≤ length s → (r : Reading A) → m s at ≡ r
        → onward r (λ a next. f a s next) ≡ refused (Short p) → (at ≤ p) × (p ≤ length s)
    bind-bounded s at h (read a mid) q e =
        let passed = lm.ahead h q in
        let found = (lf a).bounded passed.1 e in
        omega arith
    bind-bounded s at {p} h (refused why) q e = let same : why ≡ Short p = cc in lm.bounded h (q ∙ ap refused same)

    bind-moved-short : (k : ℕ) (s : List ℕ) (at : ℕ) {p : ℕ} → k ≤ length s → (r : Reading A) → m (drop k s) at ≡ r
        → onward r (λ a next. f a (drop k s) next) ≡ refused (Short p) → (m >>= f) s (k + at) ≡ refused (Short (k + p))
    bind-moved-short k s at h (read a mid) q e = rw (lm.moved h q) ((lf a).moved-short h e)
    bind-moved-short k s at {p} h (refused why) q e =
        let same : why ≡ Short p = cc in
        rw (lm.moved-short h (q ∙ ap refused same))

pub require-lawful : (b : Bool) (why : Refusal) → ¬ (number_of why ≡ 1) → Lawful (asked (require b why))
require-lawful true why other = give-lawful tt
require-lawful false why other = refuse-lawful why other

-- an answer that is one of two
pub asked-lawful : {A : Type 0} (b : Bool) (a c : Answer A) → Lawful (asked a) → Lawful (asked c) → Lawful (asked (cond b a c))
asked-lawful true a c l m = l
asked-lawful false a c l m = m

-- a format that is one field, put together
pub made-lawful : {A B : Type 0} {m : Reader A} (g : A → B) → Lawful m → Lawful (m >>= λ x. give (g x))
made-lawful g l = bind-lawful l (λ a. give-lawful (g a))

pub number-lawful : (width : ℕ) → Lawful (number width)
number-lawful width = made-lawful little (field-lawful width)

pub address-lawful : Lawful address
address-lawful = made-lawful address_of (field-lawful 6)

-- what was read from the start is read with more bytes behind it
pub grown : {A : Type 0} {r : Reader A} → Lawful r → (s more : List ℕ) {a : A} {n : ℕ} → r s 0 ≡ read a n → r (s ++ more) 0 ≡ read a n
grown l s more e =
    let within = l.ahead zero-le e in
    l.local zero-le e (sym (take-append-le _ s more within.1))

-- a reader that comes to a field which does not fit is short there, however it was put together
pub comes-short : {A : Type 0} {r : Reader A} {s : List ℕ} {at p n : ℕ} → ComesTo A r s at p n → length s < p + n → r s at ≡ refused (Short p)
comes-short {s = s} (itself {at} {n}) h = rw (lt-leb (at + n) (length s) h)
comes-short (in-first f made all c) h = rw (comes-short c h)
comes-short (in-next m f made all e c) h = rw e (comes-short c h)

pub short-exactly : {A : Type 0} {r : Reader A} → Lawful r → ShortExactly r
short-exactly l = record { made = l.made; at-a-field = l.at-a-field; only-there = λ d. comes-short d.comes d.ends; bounded = l.bounded }
