-- What a lent buffer holds after a line was put into it.
use Rattle.std.specs.Prelude.{ℕ, ◌+◌, ◌≤◌, ◌≡◌, List, ◌++◌, length, drop, Option, Some, None}
use Rattle.wire.specs.Writing.{Put}
use Rattle.report.specs.declared.marks.Mark.{Mark}
use Rattle.report.specs.Marks.{Stand, line, nothing}

-- some bytes that were put at a place and had room there
pub record PutWithRoom (s : List ℕ) (at : ℕ) (bytes : List ℕ) (next : ℕ) (after : List ℕ) : Type 0 where
  pub put : Put s at bytes next after
  pub room : at + length bytes ≤ length s

-- the answer: how many bytes the line has, and the mark behind it
abbrev pub answer_of : Stand → Option (ℕ × Mark)
answer_of (line l next) = Some (length l, next)
answer_of nothing = None

-- the line and then what stood behind it, or what stood there
abbrev pub buffer_of : List ℕ → Stand → List ℕ
buffer_of s (line l next) = l ++ drop (length l) s
buffer_of s nothing = s

pub record Shows (s : List ℕ) (stand : Stand) (r : Option (ℕ × Mark)) (after : List ℕ) : Type 0 where
  pub answer : r ≡ answer_of stand
  pub buffer : after ≡ buffer_of s stand
