-- Words made of runs of bits, from the lowest bit on.
use Rattle.std.specs.Prelude.{ℕ, ◌+◌, ◌*◌, ◌/◌, ◌%◌, ◌^◌, Bool, cond, List, [], ◌∷◌}

-- some bits that stay as they are, some that are 0, and one bit that is given
pub data Run : Type 0 where
  keep : ℕ → Run
  clear : ℕ → Run
  put : Bool → Run

-- a word with its bits laid out by runs; behind the last run all bits are 0
abbrev pub word_by : List Run → ℕ → ℕ
word_by [] w = 0
word_by (keep n ∷ rest) w = word_by rest (w / 2 ^ n) * 2 ^ n + w % 2 ^ n
word_by (clear n ∷ rest) w = word_by rest (w / 2 ^ n) * 2 ^ n
word_by (put b ∷ rest) w = word_by rest (w / 2 ^ 1) * 2 ^ 1 + cond b 1 0
