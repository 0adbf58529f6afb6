-- Bytes that a word says, put into a buffer; and when two lists are the same.
use Rattle.std.specs.Prelude.{ℕ, ◌+◌, ◌≡◌, Bool, true, cond, List, length, Option, Some, None, Result, Ok, Err}
use Rattle.wire.specs.Writing.{fits, putting}
use Rattle.text.specs.declared.hex.HexError.{HexError}
use Rattle.text.specs.declared.hex.HexError.TheVariants.{NoRoom, NotHex}

-- the place behind the bytes, or why there is none
abbrev pub behind_said : List ℕ → ℕ → Option (List ℕ) → Result ℕ HexError
behind_said s at (Some bytes) = cond (fits s at bytes) (Ok (at + length bytes)) (Err NoRoom)
behind_said s at None = Err NotHex

-- the buffer with the bytes at the place; without bytes, or without room for them, as it stands
abbrev pub putting_said : List ℕ → ℕ → Option (List ℕ) → List ℕ
putting_said s at (Some bytes) = putting s at bytes
putting_said s at None = s

pub record PutSaid (s : List ℕ) (at : ℕ) (said : Option (List ℕ)) (r : Result ℕ HexError) (after : List ℕ) : Type 0 where
  pub place : r ≡ behind_said s at said
  pub buffer : after ≡ putting_said s at said

-- a test that is true of a list and itself, and of no two others; the equality of slices is one
pub record TellsSame (xs ys : List ℕ) (r : Bool) : Type 0 where
  pub only : r ≡ true → xs ≡ ys
  pub always : xs ≡ ys → r ≡ true
