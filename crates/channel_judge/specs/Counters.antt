-- What the counters hold, one for each channel.
use Rattle.std.specs.Prelude.{◌≡◌, ℕ, ◌+◌, ◌/◌, ◌≤◌, List, length, get_or, Result, Ok, Err}
use Rattle.wire.specs.declared.refusal.Refusal.{Refusal}
use Rattle.wire.specs.declared.refusal.Refusal.TheVariants.{Encoding}
use Rattle.wire.specs.Answer.{Answer, answer, refusal, require, ◌>>=◌, ◌>>◌}
use Rattle.channel_sequence.specs.declared.channel_sequence.ChannelSequence.{ChannelSequence}
use Rattle.channel_judge.specs.declared.loads.Loads.{Loads}
use Rattle.channel_judge.specs.Loads.{sequences_from, lent_sequences, load, all_listed}
use Rattle.channel_judge.specs.Judging.{loads}

-- the load of a channel, by its counter
abbrev pub load_by : Loads → ℕ → ℕ
load_by counters channel = get_or counters.counts channel 0

-- no counter is above a number
abbrev pub AtMost : ℕ → Loads → Type 0
AtMost n counters = (channel : ℕ) → load_by counters channel ≤ n

-- each counter has grown by what a channel counts
pub record Grown (before : Loads) (by : ℕ → ℕ) (after : Loads) : Type 0 where
  pub each : (channel : ℕ) → load_by after channel ≡ load_by before channel + by channel

-- what an answer beside counters says: the load of every channel, or why there is none
abbrev pub said_loads : Result (Unit {0}) Refusal → Loads → Answer (ℕ → ℕ)
said_loads (Ok done) counters = answer (load_by counters)
said_loads (Err why) counters = refusal why

-- the whole sequences among what is lent
abbrev pub whole_sequences : List ℕ → List ChannelSequence
whole_sequences s = sequences_from (length s / 33) s

-- all sequences are counted, or an encoding is not listed
abbrev pub counted : List ChannelSequence → Answer (ℕ → ℕ)
counted sequences = do
  require (all_listed sequences) Encoding
  answer (load sequences)

-- the loads of sequences as they are lent
abbrev pub lent_loads : List ℕ → ℕ → Answer (ℕ → ℕ)
lent_loads s channels = do
  sequences ← lent_sequences s
  loads sequences channels
