-- How numbers stand behind others, and what a reader tells that laid its record's numbers down.
-- Assumes nothing.
use Prim.Native.Nat.{ℕ, ◌+◌, ◌≤◌}
use mathlib.Core.Path.{◌≡◌, refl, sym, ap, ◌∙◌}
use mathlib.Core.List.{List, ◌++◌, append-nil}
use lib.ListN.{length, take, drop, drop_of_length-le}
use lib.Seq.{take_at, drop_at, drop-length}
use borrow.Rule.Slice.PartMut.{put_mid}
use Rattle.std.specs.Prelude.{Result, Ok, Err}
use Rattle.wire.specs.declared.refusal.Refusal.{Refusal}
use Rattle.wire.specs.Reading.{Reading, read, refused, onward}
use Rattle.wire.specs.Outcomes.{outcome}
use Rattle.wire.proofs.Lawful.{never}
use Rattle.exports.specs.Laid.{beside}
use Rattle.exports.specs.Told.{ToldReading}

-- numbers that are laid down behind those of a front, up to the last
pub put-behind : (front rest ys : List ℕ) {xs : List ℕ} (k n : ℕ) → length front ≡ k → xs ≡ front ++ rest → length rest ≤ n → put_mid k n xs ys ≡ front ++ ys
put-behind front rest ys k n long e few =
    rw (e, take_at front rest k long, drop_at front rest k long, drop_of_length-le rest {i = n} few) (ap (λ behind. front ++ behind) (append-nil ys))

-- numbers up to the last one
pub put_last : (ns : List ℕ) (at : ℕ) (bytes : List ℕ) → at + length bytes ≡ length ns → take at ns ++ bytes ++ drop (at + length bytes) ns ≡ take at ns ++ bytes
put_last ns at bytes e = rw (e, drop-length ns) (append-nil (take at ns ++ bytes))

-- what is read behind those of a front
pub onto : (front ns : List ℕ) (r : Result ℕ Refusal) {m : Reading (List ℕ)} → beside r ns ≡ m → beside r (front ++ ns) ≡ onward m (λ l p. read (front ++ l) p)
onto front ns (Ok next) e = rw (← e)
onto front ns (Err why) e = rw (← e)

made : {A B : Type 0} (front : List ℕ) (f : A → List ℕ) (h : A → B) (g : B → List ℕ) → ((a : A) → front ++ f a ≡ g (h a)) → (m : Reading A)
    → onward (onward m (λ a p. read (f a) p)) (λ l p. read (front ++ l) p) ≡ onward (onward m (λ a p. read (h a) p)) (λ b p. read (g b) p)
made front f h g e (read a p) = ap (λ l. read l p) (e a)
made front f h g e (refused why) = refl

pub laid-behind : {A B : Type 0} (front : List ℕ) (f : A → List ℕ) (h : A → B) (g : B → List ℕ) → ((a : A) → front ++ f a ≡ g (h a))
    → (m : Reading A) (r : Result ℕ Refusal) (ns : List ℕ) → beside r ns ≡ onward m (λ a p. read (f a) p)
    → beside r (front ++ ns) ≡ onward (onward m (λ a p. read (h a) p)) (λ b p. read (g b) p)
laid-behind front f h g e m r ns laid = onto front ns r laid ∙ made front f h g e m

-- a reader whose numbers were laid down, or zeros where it refused
pub read-told : {A : Type 0} (none : A) (numbers_of : A → List ℕ) (at : ℕ) (m : Reading A) {b : Reading (List ℕ)} {zeros : List ℕ} {n o size : ℕ} {after : List ℕ}
    → zeros ≡ numbers_of none → b ≡ onward m (λ a p. read (numbers_of a) p) → ToldReading (λ ns. ns) (outcome zeros at b) n o size after
    → ToldReading numbers_of (outcome none at m) n o size after
read-told none numbers_of at (read a p) z e t = let u = rw e at t in record { outcome = record { number = u.outcome.number; offset = u.outcome.offset; size = u.outcome.size }; numbers = u.numbers }
read-told none numbers_of at (refused why) z e t = let u = rw e at t in record { outcome = record { number = u.outcome.number; offset = u.outcome.offset; size = u.outcome.size }; numbers = u.numbers ∙ z }

-- what the answer of such a reader tells of the record's own
pub laid-refused : {A : Type 0} (numbers_of : A → List ℕ) (m : Reading A) {why : Refusal} → refused why ≡ onward m (λ a p. read (numbers_of a) p) → refused why ≡ m
laid-refused numbers_of (read a p) e = absurd (never e)
laid-refused numbers_of (refused other) e = let same = e in cc

pub record LaidRead {A : Type 0} (numbers_of : A → List ℕ) (m : Reading A) (ns : List ℕ) (next : ℕ) : Type 0 where
  pub value : A
  pub reads : read value next ≡ m
  pub numbers : ns ≡ numbers_of value

pub laid-read : {A : Type 0} (numbers_of : A → List ℕ) (m : Reading A) {ns : List ℕ} {next : ℕ} → read ns next ≡ onward m (λ a p. read (numbers_of a) p)
    → LaidRead numbers_of m ns next
laid-read numbers_of (read a p) {next = next} e =
    let place : p ≡ next = cc in
    record { value = a; reads = ap (read a) (sym place); numbers = cc }
laid-read numbers_of (refused why) e = absurd (never (sym e))
