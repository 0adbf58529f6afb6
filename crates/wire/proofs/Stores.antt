-- Bytes stored one after the other, in a loop or written out, leave what `putting` says; putting one run behind another is putting both at once.
-- Assumes nothing.
use Prim.Native.Nat.{ℕ, zero, suc, ◌+◌, ◌-◌, ◌≤◌, ◌<◌}
use native.Mathlib.Nat.{add-zero, zero-add, add_assoc, add-suc, suc-add}
use native.Mathlib.Omega.{arith}
use mathlib.Core.Path.{◌≡◌, refl, sym, ap, ◌∙◌}
use mathlib.Core.Bool.{Bool, true, false}
use mathlib.Core.List.{List, [], ◌++◌, append_assoc, append-nil}
use lib.Dec.{leb}
use lib.ListN.{length, get_or, set, take, drop, length-append, length-take, length-drop, take-append-drop}
use lib.Seq.{paste, paste-zero, paste-suc, take-length, take_at, drop-append-add, drop-drop}
use borrow.Author.Tests.{le-leb, leb-true, leb-false}
use Rattle.std.specs.Prelude.{Result, Ok, Err}
use Rattle.wire.specs.declared.refusal.Refusal.{Refusal}
use Rattle.wire.specs.Answer.{Answer, answer, refusal, ◌>>=◌}
use Rattle.wire.specs.Said.{told}
use Rattle.wire.specs.Writing.{fits, Put, PutIfRoom, within, length_of, Wrote}
use Rattle.wire.proofs.Bytes.{within-room}

-- the whole of a slice, copied byte after byte
pub put-pasted : (s : List ℕ) (at : ℕ) (bytes : List ℕ) → length bytes ≤ length s - at
    → Put s at bytes (at + length bytes) (paste s at bytes (length bytes))
put-pasted s at bytes h = go (fits s at bytes) refl
  where
    go : (b : Bool) → fits s at bytes ≡ b → Put s at bytes (at + length bytes) (paste s at bytes (length bytes))
    go true e = record { place = rw e; buffer = rw (e, take-length bytes) }
    go false e =
        let past : length s < at + length bytes = leb-false (at + length bytes) (length s) e in
        let none : length bytes ≡ 0 = omega arith in
        record { place = rw e (omega arith); buffer = rw (e, none) (sym (paste-zero s at bytes)) }

-- what stores that are written out leave: n of the bytes, from the k-th on, each at its place
abbrev pub stored : List ℕ → ℕ → List ℕ → ℕ → ℕ → List ℕ
stored s at bytes k zero = s
stored s at bytes k (suc n) = stored (set s (at + k) (get_or bytes k 0)) at bytes (suc k) n

-- each store is a turn of the loop that copies
stored-pasted : (s : List ℕ) (at : ℕ) (bytes : List ℕ) (k n : ℕ) → at + (k + n) ≤ length s → k + n ≤ length bytes
    → stored (paste s at bytes k) at bytes k n ≡ paste s at bytes (k + n)
stored-pasted s at bytes k zero h m = rw (add-zero k)
stored-pasted s at bytes k (suc n) h m =
    rw (paste-suc s at bytes k 0 (omega arith) (omega arith), add-suc k n, ← suc-add k n)
    (stored-pasted s at bytes (suc k) n (omega arith) (omega arith))

-- the whole of some bytes, at every width; the first is stored at the place itself, with no sum
pub put-stored : (n : ℕ) (s : List ℕ) (at : ℕ) (bytes : List ℕ) → length bytes ≡ suc n → suc n ≤ length s - at
    → Put s at bytes (at + suc n) (stored (set s at (get_or bytes 0 0)) at bytes 1 n)
put-stored n s at bytes e h =
    let copied = stored-pasted s at bytes 0 (suc n) (omega arith) (omega arith) in
    rw (rw (← paste-zero s at bytes, zero-add, add-zero) at copied) (rw e at (put-pasted s at bytes (omega arith)))

-- bytes that fit stand in the buffer, with all before and behind them kept
pub put-fits : {s : List ℕ} {at : ℕ} {bytes : List ℕ} {next : ℕ} {t : List ℕ} → Put s at bytes next t → at + length bytes ≤ length s
    → (next ≡ at + length bytes) × (t ≡ take at s ++ bytes ++ drop (at + length bytes) s) × (length t ≡ length s)
put-fits {s} {at} {bytes} p h =
    let room : fits s at bytes ≡ true = le-leb (at + length bytes) (length s) h in
    let laid = rw room at p.buffer in (
      rw room at p.place,
      laid,
      rw laid (simp (length-append, length-take, length-drop) (omega arith)),
    )

-- a step of a writer keeps the buffer's length, whether its bytes fit or not
pub put-length : {s : List ℕ} {at : ℕ} {bytes : List ℕ} {next : ℕ} {t : List ℕ} → Put s at bytes next t → length t ≡ length s
put-length {s} {at} {bytes} {next} {t} p = go (fits s at bytes) refl
  where
    go : (b : Bool) → fits s at bytes ≡ b → length t ≡ length s
    go true e = (put-fits p (leb-true (at + length bytes) (length s) e)).2
    go false e = ap length (rw e at p.buffer)

-- no byte leaves the buffer and the place as they are
pub put-empty : (s : List ℕ) (at : ℕ) → Put s at [] at s
put-empty s at = go (fits s at []) refl
  where
    go : (b : Bool) → fits s at [] ≡ b → Put s at [] at s
    go true e = record { place = rw (e, add-zero at); buffer = rw (e, add-zero at, append-nil (take at s)) (sym (take-append-drop at s)) }
    go false e = record { place = rw e; buffer = rw e }

-- one run behind another is both at once
pub put_then : {s : List ℕ} {at : ℕ} {xs : List ℕ} {mid : ℕ} {t : List ℕ} {ys : List ℕ} {next : ℕ} {u : List ℕ}
    → Put s at xs mid t → Put t mid ys next u → at + (length xs + length ys) ≤ length s → Put s at (xs ++ ys) next u
put_then {s} {at} {xs} {mid} {t} {ys} {next} {u} p q h =
    let first = put-fits p (omega arith) in
    let second = put-fits q (omega arith) in
    let front : List ℕ = take at s ++ xs in
    let rest : List ℕ = drop (at + length xs) s in
    let head : length front ≡ mid = simp (length-append, length-take) (omega arith) in
    let kept : take mid t ≡ front = rw first.1 (take_at front rest mid head) in
    let place_behind : drop (mid + length ys) t ≡ drop (at + (length xs + length ys)) s =
    rw (first.1, ← head, ← add_assoc at (length xs) (length ys))
    (drop-append-add front rest (length ys) ∙ drop-drop (length ys) (at + length xs) s) in
    let room : fits s at (xs ++ ys) ≡ true = le-leb (at + length (xs ++ ys)) (length s) (simp length-append (omega arith)) in
    record {
      place = rw (room, length-append xs ys) (omega arith);
      buffer = rw (room, length-append xs ys, second.1, kept, place_behind, append_assoc (take at s) xs ys);
    }

-- a record's bytes at the start of a buffer that has room for them
pub put_all : {s bytes : List ℕ} {next : ℕ} {t : List ℕ} → Put s 0 bytes next t → length bytes ≤ length s
    → (next ≡ length bytes) × (t ≡ bytes ++ drop (length bytes) s)
put_all {s} {bytes} p h =
    let laid = put-fits p (omega arith) in
    (laid.0 ∙ zero-add (length bytes), rw (zero-add (length bytes)) at laid.1)

-- a writer that put all of its bytes into a buffer with room for them
pub wrote-all : {s bytes : List ℕ} {next : ℕ} {t : List ℕ} {n : ℕ} → Put s 0 bytes next t → length bytes ≡ n → n ≤ length s
    → Wrote s (answer bytes) (answer n) t
wrote-all {s} {bytes} {n = n} p e h =
    let room : leb n (length s) ≡ true = le-leb n (length s) h in
    record { size = rw (e, room); buffer = rw (e, room, ← e) (put_all p (omega arith)).1 }

-- the same for one whose size was asked before
pub wrote-sized : {s bytes : List ℕ} {next : ℕ} {t : List ℕ} {n : ℕ} (written : Answer (List ℕ)) → written ≡ answer bytes → length_of written ≡ answer n
    → PutIfRoom s 0 bytes next t → n ≤ length s → Wrote s written (answer n) t
wrote-sized {bytes = bytes} {n = n} written w l p h =
    let many : length bytes ≡ n = let l' = rw w at l in cc in
    rw w (wrote-all (p (omega arith)) many h)

-- a writer that refused, and wrote nothing
pub wrote_none : (s : List ℕ) (bytes : Answer (List ℕ)) {why : Refusal} → refusal why ≡ within (length s) (length_of bytes)
    → Wrote s bytes (refusal why) s
wrote_none s (answer b) e = record { size = e; buffer = rw (← e) }
wrote_none s (refusal why) e = record { size = e; buffer = refl }

-- the same for one that asked a size which is that of what is written
pub nothing-written : (s : List ℕ) (bytes : Answer (List ℕ)) {asked : Answer ℕ} {why : Refusal} → refusal why ≡ within (length s) asked
    → asked ≡ length_of bytes → Wrote s bytes (refusal why) s
nothing-written s bytes e same = wrote_none s bytes (e ∙ ap (within (length s)) same)

-- a size that was given, and room for it
abbrev pub RoomFor : Answer ℕ → ℕ → ℕ → Type 0
RoomFor size n room = (size ≡ answer n) × (n ≤ room)

-- a writer asks the size and then the room for it: where a size was given, it is the record's and there is room for it,
pub room_for : {room n : ℕ} {asked size : Answer ℕ} {r : Result ℕ Refusal} → asked ≡ size → told r ≡ within room asked → r ≡ Ok n → RoomFor size n room
room_for {room} {size = size} same said given = within-room room size (ap told (sym given) ∙ said ∙ ap (within room) same)

-- and where it was refused, nothing is written
pub wrote-refused : (s : List ℕ) (bytes : Answer (List ℕ)) {asked size : Answer ℕ} {r : Result ℕ Refusal} {why : Refusal} → length_of bytes ≡ size → asked ≡ size
    → told r ≡ within (length s) asked → r ≡ Err why → Wrote s bytes (refusal why) s
wrote-refused s bytes long same said given =
    nothing-written s bytes (ap told (sym given) ∙ said) (same ∙ sym long)

-- runs are put one behind the other, from any place
infixl 20 ◌and-then◌
pub ◌and-then◌ : {s : List ℕ} {at : ℕ} {xs : List ℕ} {mid : ℕ} {t ys : List ℕ} {next : ℕ} {u : List ℕ}
    → PutIfRoom s at xs mid t → PutIfRoom t mid ys next u → PutIfRoom s at (xs ++ ys) next u
◌and-then◌ {s} {at} {xs} {mid} {t} {ys} p q room =
    let both = length-append xs ys in
    let first = p (omega arith) in
    let laid = put-fits first (omega arith) in
    put_then first (q (omega arith)) (omega arith)

-- from the start on, with each run at its own place
infixl 20 ◌also◌
pub ◌also◌ : {s xs : List ℕ} {mid : ℕ} {t ys : List ℕ} {next : ℕ} {u : List ℕ}
    → PutIfRoom s 0 xs mid t → Put t (length xs) ys next u → PutIfRoom s 0 (xs ++ ys) next u
◌also◌ {s} {xs} {mid} {t} {ys} p q room =
    let both = length-append xs ys in
    let first = p (omega arith) in
    put_then first (rw (← (put_all first (omega arith)).0) at q) (omega arith)

-- a size of something behind a front of so many bytes
pub size-behind : (front : ℕ) (size : Answer ℕ) {n : ℕ} → (size >>= λ m. answer (front + m)) ≡ answer n → (m : ℕ) × (size ≡ answer m) × (front + m ≡ n)
size-behind front (answer m) e = (m, refl, cc)
size-behind front (refusal why) e = absurd cc

pub length-behind : (front : List ℕ) (bytes : Answer (List ℕ)) {size : Answer ℕ} → length_of bytes ≡ size
    → length_of (bytes >>= λ b. answer (front ++ b)) ≡ (size >>= λ m. answer (length front + m))
length-behind front (answer b) e = rw (← e) (ap answer (length-append front b))
length-behind front (refusal why) e = rw (← e)

pub written_behind : (front : List ℕ) (bytes : Answer (List ℕ)) {n : ℕ} → length_of (bytes >>= λ b. answer (front ++ b)) ≡ answer n
    → (m : ℕ) × (length_of bytes ≡ answer m) × (length front + m ≡ n)
written_behind front bytes e = size-behind (length front) (length_of bytes) (sym (length-behind front bytes refl) ∙ e)
