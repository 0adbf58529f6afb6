-- A reader that lays the numbers of a record down is the record's own reader and then its numbers, for each way of putting readers together.
-- Assumes nothing.
use Prim.Native.Nat.{ℕ}
use mathlib.Core.Path.{◌≡◌, refl, sym, ap, ◌∙◌}
use mathlib.Core.Bool.{Bool, true, false, cond}
use mathlib.Core.List.{List}
use Rattle.wire.specs.declared.refusal.Refusal.{Refusal}
use Rattle.wire.specs.Reading.{Reading, Reader, read, refused, give, refuse, onward, when, ◌>>=◌}
use Rattle.wire.proofs.Lawful.{grouped}
use Rattle.exports.specs.DataPathReading.{laid}

pub record Lays {A : Type 0} (s : List ℕ) (l : Reader (List ℕ)) (r : Reader A) (numbers_of : A → List ℕ) : Type 0 where
  pub of : (at : ℕ) → l s at ≡ onward (r s at) (λ a next. read (numbers_of a) next)

-- a value that is made of what is read
made : {A B : Type 0} (m : Reading A) (f : A → List ℕ) (make : A → B) (g : B → List ℕ) → ((a : A) → f a ≡ g (make a))
    → onward m (λ a next. read (f a) next) ≡ onward (onward m (λ a next. read (make a) next)) (λ b next. read (g b) next)
made (read a next) f make g e = ap (λ x. read x next) (e a)
made (refused why) f make g e = refl

pub lays-made : {A B : Type 0} {s : List ℕ} (g : B → List ℕ) (into : A → List ℕ → List ℕ) (ns : List ℕ) (r : Reader A) (make : A → B)
    → ((a : A) → into a ns ≡ g (make a)) → Lays s (laid into r ns) (r >>= λ a. give (make a)) g
lays-made {s = s} g into ns r make e = record { of = λ at. made (r s at) (λ a. into a ns) make g e }

-- the last of several parts
pub lays-last : {A B : Type 0} {s : List ℕ} {l : Reader (List ℕ)} {r : Reader A} (g : B → List ℕ) (make : A → B)
    → Lays s l r (λ a. g (make a)) → Lays s l (r >>= λ a. give (make a)) g
lays-last {s = s} {r = r} g make h = record { of = λ at. h.of at ∙ made (r s at) (λ a. g (make a)) make g (λ a. refl) }

pub lays-laid : {A : Type 0} {s : List ℕ} (into : A → List ℕ → List ℕ) (r : Reader A) (ns : List ℕ) → Lays s (laid into r ns) r (λ a. into a ns)
lays-laid into r ns = record { of = λ at. refl }

behind : {A B : Type 0} (s : List ℕ) (m : Reading A) (f : A → List ℕ) (next : List ℕ → Reader (List ℕ)) (k : A → Reader B) (g : B → List ℕ)
    → ((a : A) → Lays s (next (f a)) (k a) g)
    → onward (onward m (λ a p. read (f a) p)) (λ ns p. next ns s p) ≡ onward (onward m (λ a p. k a s p)) (λ b p. read (g b) p)
behind s (read a p) f next k g h = (h a).of p
behind s (refused why) f next k g h = refl

-- one part behind another
pub lays-bind : {A B : Type 0} {s : List ℕ} {l : Reader (List ℕ)} {r : Reader A} {f : A → List ℕ} (next : List ℕ → Reader (List ℕ)) (k : A → Reader B)
    (g : B → List ℕ) → Lays s l r f → ((a : A) → Lays s (next (f a)) (k a) g) → Lays s (l >>= next) (r >>= k) g
lays-bind {s = s} {r = r} {f} next k g h behinds =
    record { of = λ at. ap (λ m. onward m (λ ns p. next ns s p)) (h.of at) ∙ behind s (r s at) f next k g behinds }

same : {A B : Type 0} (s : List ℕ) (m : Reading A) (l : A → Reader (List ℕ)) (k : A → Reader B) (g : B → List ℕ) → ((a : A) → Lays s (l a) (k a) g)
    → onward m (λ a p. l a s p) ≡ onward (onward m (λ a p. k a s p)) (λ b p. read (g b) p)
same s (read a p) l k g h = (h a).of p
same s (refused why) l k g h = refl

-- both go by what was read before
pub lays-same : {A B : Type 0} {s : List ℕ} (m : Reader A) (l : A → Reader (List ℕ)) (k : A → Reader B) (g : B → List ℕ)
    → ((a : A) → Lays s (l a) (k a) g) → Lays s (m >>= l) (m >>= k) g
lays-same {s = s} m l k g h = record { of = λ at. same s (m s at) l k g h }

-- a field that may be missing
pub lays-when : {A : Type 0} {s : List ℕ} {l : Reader (List ℕ)} {r : Reader A} {g : A → List ℕ} (b : Bool) (none : A)
    → Lays s l r g → Lays s (when b (g none) l) (when b none r) g
lays-when true none h = h
lays-when false none h = record { of = λ at. refl }

pub lays-cond : {A : Type 0} {s : List ℕ} {l m : Reader (List ℕ)} {r t : Reader A} {g : A → List ℕ} (b : Bool)
    → Lays s l r g → Lays s m t g → Lays s (cond b l m) (cond b r t) g
lays-cond true h k = h
lays-cond false h k = k

pub lays-refuse : {A : Type 0} {s : List ℕ} {g : A → List ℕ} (why : Refusal) → Lays s (refuse why) (refuse why) g
lays-refuse why = record { of = λ at. refl }

-- parts that are grouped to the left or to the right
pub lays-grouped : {A B C : Type 0} {s : List ℕ} {l : Reader (List ℕ)} (m : Reader A) (k : A → Reader B) (n : B → Reader C) (g : C → List ℕ)
    → Lays s l (m >>= λ a. (k a >>= n)) g → Lays s l ((m >>= k) >>= n) g
lays-grouped {s = s} m k n g h =
    record { of = λ at. h.of at ∙ ap (λ x. onward x (λ c p. read (g c) p)) (sym (grouped (m s at) (λ a p. k a s p) (λ b p. n b s p))) }

pub grouped-lays : {A : Type 0} {s : List ℕ} (m : Reader (List ℕ)) (k n : List ℕ → Reader (List ℕ)) {r : Reader A} {g : A → List ℕ}
    → Lays s (m >>= λ a. (k a >>= n)) r g → Lays s ((m >>= k) >>= n) r g
grouped-lays {s = s} m k n h = record { of = λ at. grouped (m s at) (λ a p. k a s p) (λ b p. n b s p) ∙ h.of at }
