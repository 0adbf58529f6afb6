-- What a lent buffer holds after a call.
use Rattle.std.specs.Prelude.{◌≡◌, ℕ, ◌+◌, ◌≤◌, Bool, cond, List, ◌++◌, leb, length, take, drop}
use Rattle.wire.specs.declared.refusal.Refusal.TheVariants.{NoRoom}
use Rattle.wire.specs.Answer.{Answer, answer, refusal, require, ◌>>=◌, ◌>>◌}

-- whether the bytes fit from the place on
abbrev pub fits : List ℕ → ℕ → List ℕ → Bool
fits s at bytes = leb (at + length bytes) (length s)

-- a step of a writer: the bytes at the place, all others kept; a buffer that is too short stays as it stands
abbrev pub putting : List ℕ → ℕ → List ℕ → List ℕ
putting s at bytes = cond (fits s at bytes) (take at s ++ bytes ++ drop (at + length bytes) s) s

-- the place behind the bytes, or, where they do not fit, the place itself
abbrev pub place_behind : List ℕ → ℕ → List ℕ → ℕ
place_behind s at bytes = cond (fits s at bytes) (at + length bytes) at

pub record Put (s : List ℕ) (at : ℕ) (bytes : List ℕ) (next : ℕ) (after : List ℕ) : Type 0 where
  pub place : next ≡ place_behind s at bytes
  pub buffer : after ≡ putting s at bytes

-- bytes that are put part after part: that there is room is asked once, of all of them
abbrev pub PutIfRoom : List ℕ → ℕ → List ℕ → ℕ → List ℕ → Type 0
PutIfRoom s at bytes next after = at + length bytes ≤ length s → Put s at bytes next after

-- a size that has to fit a room
abbrev pub within : ℕ → Answer ℕ → Answer ℕ
within room size = do
  n ← size
  require (leb n room) NoRoom
  answer n

abbrev pub length_of : Answer (List ℕ) → Answer ℕ
length_of bytes = do
  b ← bytes
  answer (length b)

-- a buffer after a writer: its bytes and then what stood behind them, or, after a refusal, what stood there
abbrev pub afterwards : List ℕ → Answer (List ℕ) → Answer ℕ → List ℕ
afterwards s (answer bytes) (answer size) = bytes ++ drop size s
afterwards s (answer bytes) (refusal why) = s
afterwards s (refusal why) size = s

-- a whole writer, given the bytes that are to be written or why there are none: the size or the refusal that it
-- answers, and the buffer as it leaves it
pub record Wrote (s : List ℕ) (bytes : Answer (List ℕ)) (said : Answer ℕ) (after : List ℕ) : Type 0 where
  pub size : said ≡ within (length s) (length_of bytes)
  pub buffer : after ≡ afterwards s bytes (within (length s) (length_of bytes))
