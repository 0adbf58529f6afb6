-- A judgement and a load of a channel that is told as a number.
use Rattle.std.specs.Prelude.{ℕ, List}
use Rattle.wire.specs.Answer.{Answer, ◌>>=◌}
use Rattle.channel_judge.specs.Judging.{judged, load_in}
use Rattle.exports.specs.Held.{held_byte}

abbrev pub judged_in : List ℕ → List ℕ → ℕ → Answer (Unit {0})
judged_in sequences permitted proposal = held_byte proposal >>= judged sequences permitted

abbrev pub load_of : List ℕ → ℕ → Answer ℕ
load_of sequences channel = held_byte channel >>= load_in sequences
