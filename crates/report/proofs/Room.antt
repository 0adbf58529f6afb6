-- Bytes that had room stand where they were put; one run behind another is both; a line from the buffer's start is what a writer wrote.
-- Assumes nothing.
use Prim.Native.Nat.{ℕ, ◌+◌, ◌≤◌}
use native.Mathlib.Omega.{arith}
use mathlib.Core.Path.{◌≡◌, ap}
use mathlib.Core.List.{List, ◌++◌}
use lib.ListN.{length, length-append}
use Rattle.std.specs.Prelude.{Some}
use Rattle.wire.specs.Writing.{Put}
use Rattle.wire.proofs.Stores.{put-fits, put_then, put_all}
use Rattle.report.specs.declared.marks.Mark.{Mark}
use Rattle.report.specs.Marks.{Stand, line}
use Rattle.report.specs.Shown.{PutWithRoom, Shows}

pub room-then : {s : List ℕ} {at : ℕ} {xs : List ℕ} {mid : ℕ} {t : List ℕ} {ys : List ℕ} {next : ℕ} {u : List ℕ}
    → PutWithRoom s at xs mid t → PutWithRoom t mid ys next u → PutWithRoom s at (xs ++ ys) next u
room-then {s} {at} {xs} {mid} {t} {ys} p q =
    let first = put-fits p.put p.room in
    let behind = q.room in
    let room : at + (length xs + length ys) ≤ length s = omega arith in
    record { put = put_then p.put q.put room; room = rw (length-append xs ys) room }

-- the place behind is as far on as there are bytes
pub room_next : {s : List ℕ} {at : ℕ} {bytes : List ℕ} {next : ℕ} {t : List ℕ} → PutWithRoom s at bytes next t → next ≡ at + length bytes
room_next p = (put-fits p.put p.room).0

pub room-kept : {s : List ℕ} {at : ℕ} {bytes : List ℕ} {next : ℕ} {t : List ℕ} → PutWithRoom s at bytes next t → length t ≡ length s
room-kept p = (put-fits p.put p.room).2

pub room-put : {s : List ℕ} {at : ℕ} {bytes : List ℕ} {next : ℕ} {t : List ℕ} → Put s at bytes next t → at + length bytes ≤ length s
    → PutWithRoom s at bytes next t
room-put p h = record { put = p; room = h }

-- a line from the buffer's start is what is shown of what stands at a mark
pub shows-line : {s : List ℕ} {stand : Stand} {l : List ℕ} {n : ℕ} {next : Mark} {t : List ℕ} → stand ≡ line l next → PutWithRoom s 0 l n t
    → Shows s stand (Some (n, next)) t
shows-line {s} {stand} {l} {n} {next} {t} e p =
    let room = p.room in
    let all = put_all p.put (omega arith) in
    record { answer = rw e (ap (λ (k : ℕ). Some (k, next)) all.0); buffer = rw e all.1 }
