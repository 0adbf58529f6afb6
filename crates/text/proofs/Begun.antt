-- Bytes that are stored one after the other from a place on: the first of them stand there, until all do.
-- Assumes nothing.
use Prim.Native.Nat.{ℕ, ◌+◌, ◌≤◌, ◌<◌}
use native.Mathlib.Numerals.{add-one}
use native.Mathlib.Omega.{arith}
use mathlib.Core.Path.{◌≡◌, refl}
use mathlib.Core.Bool.{true}
use mathlib.Core.List.{List}
use lib.ListN.{length, get_or, set, length-set}
use lib.Seq.{paste, paste-zero, paste-suc}
use borrow.Author.Tests.{le-leb, lt-leb}
use Rattle.std.specs.Prelude.{Some, Ok, Err}
use Rattle.wire.specs.Writing.{fits, Put}
use Rattle.wire.proofs.Stores.{put-pasted}
use Rattle.text.specs.declared.hex.HexError.TheVariants.{NoRoom}
use Rattle.text.specs.Into.{PutSaid}

-- i of the n bytes stand in the buffer, which has room for all
pub record Begun (s : List ℕ) (at : ℕ) (bytes : List ℕ) (n i : ℕ) (buf : List ℕ) : Type 0 where
  pub many : length bytes ≡ n
  pub room : at + n ≤ length s
  pub inside : i ≤ n
  pub size : length buf ≡ length s
  pub laid : buf ≡ paste s at bytes i

pub begin : (s : List ℕ) (at : ℕ) (bytes : List ℕ) {n : ℕ} → length bytes ≡ n → at + n ≤ length s → Begun s at bytes n 0 s
begin s at bytes many h = record { many = many; room = h; inside = omega arith; size = refl; laid = paste-zero s at bytes }

-- no room for them
pub said-past : (s : List ℕ) (at : ℕ) (bytes : List ℕ) {n : ℕ} → length bytes ≡ n → length s < at + n → PutSaid s at (Some bytes) (Err NoRoom) s
said-past s at bytes many h =
    let past = lt-leb (at + length bytes) (length s) (omega arith) in
    record { place = rw past; buffer = rw past }

module _ {s : List ℕ} {at : ℕ} {bytes : List ℕ} {n i : ℕ} {buf : List ℕ} (b : Begun s at bytes n i buf) where
  -- one byte more, at its place
  pub go_on : {v place next : ℕ} → i < n → v ≡ get_or bytes i 0 → place ≡ at + i → next ≡ i + 1 → Begun s at bytes n next (set buf place v)
  go_on h e f g =
      record {
        many = b.many;
        room = b.room;
        inside = omega arith;
        size = simp length-set b.size;
        laid = rw (g, add-one i, f, e, b.laid) (paste-suc s at bytes i 0 (omega arith) (omega arith));
      }

  -- all of them
  pub put_whole : i ≡ n → Put s at bytes (at + n) buf
  put_whole e = let all : i ≡ length bytes = omega arith in rw (b.laid, all, ← b.many) (put-pasted s at bytes (omega arith))

  pub said-whole : i ≡ n → PutSaid s at (Some bytes) (Ok (at + n)) buf
  said-whole e =
      let room : fits s at bytes ≡ true = le-leb (at + length bytes) (length s) (omega arith) in
      record { place = rw (room, b.many); buffer = (put_whole e).buffer }
