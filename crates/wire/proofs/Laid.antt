-- Fields that stand one behind the other: bytes that are cut inside one are short at that one. Proved once for each way of putting readers together.
-- Assumes nothing.
use Prim.Native.Nat.{ℕ, ◌+◌, ◌≤◌, ◌<◌, zero-le}
use native.Mathlib.Nat.{add-zero, zero-add, add_assoc}
use native.Mathlib.Omega.{arith}
use native.Mathlib.Decide.{dec_le}
use mathlib.Core.Logic.{dite}
use mathlib.Core.Path.{◌≡◌, refl, sym, ap, ◌∙◌}
use mathlib.Core.Bool.{Bool, true, false, cond}
use mathlib.Core.List.{List, [], ◌∷◌, ◌++◌, append-nil}
use lib.ListN.{length, take, length-take}
use lib.Seq.{length-take-le, take-take}
use borrow.Author.Tests.{le-leb, lt-leb}
use Rattle.wire.specs.declared.refusal.Refusal.{Refusal}
use Rattle.wire.specs.declared.refusal.Refusal.TheVariants.{Short}
use Rattle.wire.specs.Refusals.{number_of}
use Rattle.wire.specs.Reading.{Reader, read, refused, give, refuse, field, ◌>>=◌, when}
use Rattle.wire.specs.Answer.{Answer, answer, refusal, asked}
use Rattle.wire.specs.Numbers.{little, number}
use Rattle.wire.specs.ShortFields.{total, first_short, CutAt}
use Rattle.wire.proofs.Lawful.{Lawful, never, steps, field-read, field-lawful, give-lawful, refuse-lawful, bind-lawful}
use Rattle.wire.proofs.Gives.{Gives, gives-any, gives-give, gives-bind}

pub total-append : (xs ys : List ℕ) → total (xs ++ ys) ≡ total xs + total ys
total-append [] ys = sym (zero-add (total ys))
total-append (n ∷ xs) ys = rw (total-append xs ys) (sym (add_assoc n (total xs) (total ys)))

-- among fields that stand in front of others: where they all fit, the others decide, and where they do not, they do
short-behind : (xs ys : List ℕ) (s : List ℕ) (at : ℕ) → at + total xs ≤ length s → first_short (xs ++ ys) s at ≡ first_short ys s (at + total xs)
short-behind [] ys s at h = rw (add-zero at)
short-behind (n ∷ xs) ys s at h =
    rw (le-leb (at + n) (length s) (omega arith), ← add_assoc at n (total xs)) (short-behind xs ys s (at + n) (omega arith))

pub short-in-front : (xs ys : List ℕ) (s : List ℕ) (at : ℕ) → length s < at + total xs → at ≤ length s → first_short (xs ++ ys) s at ≡ first_short xs s at
short-in-front [] ys s at h here = absurd (omega arith)
short-in-front (n ∷ xs) ys s at h here =
    dite (dec_le (at + n) (length s))
    (λ fits. rw (le-leb (at + n) (length s) fits) (short-in-front xs ys s (at + n) (omega arith) fits))
    (λ past. rw (lt-leb (at + n) (length s) (omega arith)))

pub record Laid {A : Type 0} (r : Reader A) (widths : A → List ℕ) : Type 1 where
  pub lawful : Lawful r
  pub ends : {s : List ℕ} {at next : ℕ} {a : A} → r s at ≡ read a next → next ≡ at + total (widths a)
  pub cut : {s : List ℕ} {at next k : ℕ} {a : A} → at ≤ length s → r s at ≡ read a next → at ≤ k → k < next
      → r (take k s) at ≡ refused (Short (first_short (widths a) (take k s) at))

pub laid-give : {A : Type 0} {widths : A → List ℕ} (a : A) → widths a ≡ [] → Laid (give a) widths
laid-give {widths = widths} a none =
    record {
      lawful = give-lawful a;
      ends = λ {s} {at} {next} {a = b} e.
          let same : a ≡ b = cc in
          let here : at ≡ next = cc in
          rw (← same, none) (omega arith);
      cut = λ {s} {at} {next} h e low high. let here : at ≡ next = cc in absurd (omega arith);
    }

pub laid-refuse : {A : Type 0} {widths : A → List ℕ} (why : Refusal) → ¬ (number_of why ≡ 1) → Laid (refuse why) widths
laid-refuse why other = record { lawful = refuse-lawful why other; ends = λ e. absurd (never e); cut = λ h e low high. absurd (never e) }

pub laid-field : (n : ℕ) → Laid (field n) (λ bytes. n ∷ [])
laid-field n =
    record {
      lawful = field-lawful n;
      ends = λ {s} {at} e. let f = field-read n s at e in omega arith;
      cut = λ {s} {at} {next} {k} h e low high.
          let f = field-read n s at e in
          let cut = length-take k s in
          rw (lt-leb (at + n) (length (take k s)) (omega arith));
    }

-- the widths by another name for the same
pub laid_as : {A : Type 0} {r : Reader A} {v : A → List ℕ} (w : A → List ℕ) → Laid r v → ((s : List ℕ) → Gives s r (λ a. w a ≡ v a)) → Laid r w
laid_as w l same =
    record {
      lawful = l.lawful;
      ends = λ {s} e. rw ((same s).of e) (l.ends e);
      cut = λ {s} h e low high. rw ((same s).of e) (l.cut h e low high);
    }

-- one format behind another, whose widths are those of both, by what is known of the first
pub laid-bind : {A B : Type 0} {m : Reader A} {f : A → Reader B} {v : A → List ℕ} {u : A → B → List ℕ} {Q : A → Type 0} (w : B → List ℕ)
    → Laid m v → ((s : List ℕ) → Gives s m Q) → ((a : A) → Laid (f a) (u a)) → ((s : List ℕ) (a : A) → Q a → Gives s (f a) (λ b. w b ≡ v a ++ u a b))
    → Laid (m >>= f) w
laid-bind {A} {B} {m} {f} {v} {u} w lm known lf both =
    record {
      lawful = bind-lawful lm.lawful (λ a. (lf a).lawful);
      ends = λ {s} {at} e.
          let t = steps (m s at) (λ a next. f a s next) e in
          let one = lm.ends t.begins in
          let two = (lf t.first).ends t.goes in
          rw ((both s t.first ((known s).of t.begins)).of t.goes, total-append (v t.first) (u t.first _)) (omega arith);
      cut = λ {s} {at} {next} {k} {a = b} h e low high.
          let t = steps (m s at) (λ a next. f a s next) e in
          let a : A = t.first in
          let one = lm.ends t.begins in
          let passed = lm.lawful.ahead h t.begins in
          let last = (lf a).lawful.ahead passed.1 t.goes in
          let many : length (take k s) ≡ k = length-take-le k s (omega arith) in
          let same = (both s a ((known s).of t.begins)).of t.goes in
          dite (dec_le t.mid k)
          (λ past.
          let begins = lm.lawful.local h t.begins (sym (take-take t.mid k s past)) in
          rw (begins, same, short-behind (v a) (u a b) (take k s) at (omega arith), ← one)
          ((lf a).cut passed.1 t.goes past high))
          (λ before.
          rw (lm.cut h t.begins low (omega arith), same, short-in-front (v a) (u a b) (take k s) at (omega arith) (omega arith)));
    }

-- a value that is made of one field
pub laid-made : {A : Type 0} (n : ℕ) (g : List ℕ → A) → Laid (field n >>= λ bytes. give (g bytes)) (λ a. n ∷ [])
laid-made n g = laid-bind {u = λ bytes a. []} _ (laid-field n) (λ s. gives-any (field n)) (λ bytes. laid-give (g bytes) refl) (λ s a q. record { of = λ e. refl })

-- a field of a known width, in front of others that do not tell of it
pub laid-field-on : {A B : Type 0} (n : ℕ) (g : List ℕ → A) {f : A → Reader B} {w : B → List ℕ} → ((a : A) → Laid (f a) w)
    → Laid ((field n >>= λ bytes. give (g bytes)) >>= f) (λ b. n ∷ w b)
laid-field-on n g lf = laid-bind _ (laid-made n g) (λ s. gives-any (field n >>= λ bytes. give (g bytes))) lf (λ s a q. record { of = λ e. refl })

pub laid-number : {B : Type 0} (n : ℕ) {f : ℕ → Reader B} {w : B → List ℕ} → ((v : ℕ) → Laid (f v) w) → Laid (number n >>= f) (λ b. n ∷ w b)
laid-number n = laid-field-on n little

-- a part that what is read behind it keeps, so that its widths are told by the whole
pub laid_kept : {A B : Type 0} {m : Reader A} {f : A → Reader B} {v : A → List ℕ} {w : B → List ℕ} (part : B → A)
    → Laid m v → ((a : A) → Laid (f a) w) → ((s : List ℕ) (a : A) → Gives s (f a) (λ b. part b ≡ a)) → Laid (m >>= f) (λ b. v (part b) ++ w b)
laid_kept {m = m} {v = v} {w = w} part lm lf keeps =
    laid-bind _ lm (λ s. gives-any m) lf (λ s a q. record { of = λ {a = b} e. ap (λ x. v x ++ w b) ((keeps s a).of e) })

-- the last part of a format
pub laid-last : {A B : Type 0} {m : Reader A} (g : A → B) {v : A → List ℕ} (part : B → A) → Laid m v → ((a : A) → part (g a) ≡ a)
    → Laid (m >>= λ a. give (g a)) (λ b. v (part b))
laid-last {m = m} g {v = v} part lm keeps =
    laid-bind {u = λ a b. []} _ lm (λ s. gives-any m) (λ a. laid-give (g a) refl)
    (λ s a q. gives-give (g a) (ap v (keeps a) ∙ sym (append-nil (v a))))

-- a value that is made of one field, or of what has always the same fields, and tells that it is there
pub laid-there : {A B : Type 0} {m : Reader A} (g : A → B) {widths : List ℕ} {w : B → List ℕ} → Laid m (λ a. widths) → ((a : A) → w (g a) ≡ widths)
    → Laid (m >>= λ a. give (g a)) w
laid-there {m = m} g {widths = widths} lm same =
    laid-bind {u = λ a b. []} _ lm (λ s. gives-any m) (λ a. laid-give (g a) refl)
    (λ s a q. gives-give (g a) (same a ∙ sym (append-nil widths)))

-- three parts that are put together
pub laid-three : {A B C D : Type 0} {m : Reader A} {n : Reader B} {o : Reader C} (g : A → B → C → D) {u : A → List ℕ} {v : B → List ℕ} {w : C → List ℕ}
    (one : D → A) (two : D → B) (three : D → C) → Laid m u → Laid n v → Laid o w
    → ((a : A) (b : B) (c : C) → (one (g a b c) ≡ a) × (two (g a b c) ≡ b) × (three (g a b c) ≡ c))
    → Laid (m >>= λ a. n >>= λ b. o >>= λ c. give (g a b c)) (λ d. u (one d) ++ (v (two d) ++ w (three d)))
laid-three {n = n} {o = o} g one two three lm ln lo kept =
    laid_kept one lm
    (λ a. laid_kept two ln (λ b. laid-last (g a b) three lo (λ c. (kept a b c).2))
    (λ s b. gives-bind (gives-any o) λ c _. gives-give (g a b c) (kept a b c).1))
    (λ s a. gives-bind (gives-any n) λ b _. gives-bind (gives-any o) λ c _. gives-give (g a b c) (kept a b c).0)

-- an answer that takes no byte
pub laid-asked : {A : Type 0} (found : Answer A) → Lawful (asked found) → Laid (asked found) (λ a. [])
laid-asked (answer a) l = laid-give a refl
laid-asked (refusal why) l = record { lawful = l; ends = λ e. absurd (never e); cut = λ h e low high. absurd (never e) }

pub laid-when : {A : Type 0} {r : Reader A} {w : A → List ℕ} (b : Bool) (absent : A) → w absent ≡ [] → Laid r w → Laid (when b absent r) w
laid-when true absent none l = l
laid-when false absent none l = laid-give absent none

pub laid-cond : {A : Type 0} {r t : Reader A} {w : A → List ℕ} (b : Bool) → Laid r w → Laid t w → Laid (cond b r t) w
laid-cond true l m = l
laid-cond false l m = m

-- a cut inside the fields of some widths: the field that holds it
record Held (widths : List ℕ) (s : List ℕ) (at : ℕ) : Type 0 where
  front : List ℕ
  width : ℕ
  back : List ℕ
  fields : widths ≡ front ++ width ∷ back
  place : first_short widths s at ≡ at + total front
  starts : at + total front ≤ length s
  reaches : length s < at + total front + width

held : (widths : List ℕ) (s : List ℕ) (at : ℕ) → at ≤ length s → length s < at + total widths → Held widths s at
held [] s at here h = absurd (omega arith)
held (n ∷ ns) s at here h =
    dite (dec_le (at + n) (length s))
    (λ fits.
    let w = held ns s (at + n) fits (omega arith) in
    record {
      front = n ∷ w.front;
      width = w.width;
      back = w.back;
      fields = ap (λ (l : List ℕ). n ∷ l) w.fields;
      place = rw (le-leb (at + n) (length s) fits) (w.place ∙ add_assoc at n (total w.front));
      starts = let e = w.starts in omega arith;
      reaches = let e = w.reaches in omega arith;
    })
    (λ past.
    record {
      front = [];
      width = n;
      back = ns;
      fields = refl;
      place = rw (lt-leb (at + n) (length s) (omega arith)) (sym (add-zero at));
      starts = omega arith;
      reaches = omega arith;
    })

-- an accepted value that is cut below its size
pub cut_at : {A : Type 0} {r : Reader A} {w : A → List ℕ} → Laid r w → (s : List ℕ) {a : A} {n k : ℕ} → r s 0 ≡ read a n → k < n → CutAt r s (w a) k
cut_at {r = r} {w = w} l s {a} {n} {k} e h =
    let size = l.ends e in
    let inside = l.lawful.ahead zero-le e in
    let many : length (take k s) ≡ k = length-take-le k s (omega arith) in
    let f = held (w a) (take k s) 0 zero-le (omega arith) in
    let none = zero-add (total f.front) in
    record {
      front = f.front;
      width = f.width;
      back = f.back;
      fields = f.fields;
      starts = let e = f.starts in omega arith;
      reaches = let e = f.reaches in omega arith;
      short = l.cut zero-le e zero-le h ∙ rw (f.place, none);
    }

-- and its fields fill its size
pub laid-size : {A : Type 0} {r : Reader A} {w : A → List ℕ} → Laid r w → (s : List ℕ) {a : A} {n : ℕ} → r s 0 ≡ read a n → total (w a) ≡ n
laid-size {w = w} l s {a} e = let size = l.ends e in omega arith
