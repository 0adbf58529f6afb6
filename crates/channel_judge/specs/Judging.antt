-- Which channel to move to: when a proposal is accepted, and our own.
use Rattle.std.specs.Prelude.{ℕ, Bool, true, false, cond, ◌&&◌, ◌||◌, List, [], ◌∷◌, eqb, leb, length}
use Rattle.wire.specs.declared.refusal.Refusal.TheVariants.{Encoding, TooMany, NonePermitted, NotPermitted, SmallerLoad}
use Rattle.wire.specs.Answer.{Answer, answer, require, ◌>>=◌, ◌>>◌}
use Rattle.channel_sequence.specs.declared.channel_sequence.ChannelSequence.{ChannelSequence}
use Rattle.channel_judge.specs.Loads.{lent_sequences, load, all_listed}

-- the load of every channel, behind 27 and 5
abbrev pub loads : List ChannelSequence → ℕ → Answer (ℕ → ℕ)
loads sequences channels = do
  require (leb (length sequences) 64 && leb channels 16) TooMany
  require (all_listed sequences) Encoding
  answer (load sequences)

abbrev pub is_permitted : ℕ → List ℕ → Bool
is_permitted channel [] = false
is_permitted channel (c ∷ rest) = eqb c channel || is_permitted channel rest

-- nothing on the list is less loaded than the channel
abbrev pub none_below : (ℕ → ℕ) → List ℕ → ℕ → Bool
none_below load_of [] channel = true
none_below load_of (c ∷ rest) channel = leb (load_of channel) (load_of c) && none_below load_of rest channel

-- the first channel of a list that passes a test; 0 where none does
abbrev pub first : (ℕ → Bool) → List ℕ → ℕ
first test [] = 0
first test (c ∷ rest) = cond (test c) c (first test rest)

-- of the channels on the list that could be accepted, the one that is listed first
abbrev pub own : (ℕ → ℕ) → List ℕ → ℕ
own load_of permitted = first (none_below load_of permitted) permitted

-- our own proposal, by the loads
abbrev pub proposed_by : (ℕ → ℕ) → List ℕ → Answer ℕ
proposed_by load_of permitted = do
  require (leb 1 (length permitted)) NonePermitted
  answer (own load_of permitted)

-- whether a proposal is accepted, by the loads; nothing else is answered
abbrev pub judged_by : (ℕ → ℕ) → List ℕ → ℕ → Answer (Unit {0})
judged_by load_of permitted proposal = do
  require (leb 1 (length permitted)) NonePermitted
  require (is_permitted proposal permitted) NotPermitted
  require (none_below load_of permitted proposal) (SmallerLoad (own load_of permitted))

-- the same of sequences
abbrev pub proposed_of : List ChannelSequence → List ℕ → Answer ℕ
proposed_of sequences permitted = do
  load_of ← loads sequences (length permitted)
  proposed_by load_of permitted

abbrev pub judged_of : List ChannelSequence → List ℕ → ℕ → Answer (Unit {0})
judged_of sequences permitted proposal = do
  load_of ← loads sequences (length permitted)
  judged_by load_of permitted proposal

-- the calls, of sequences as they are lent
abbrev pub judged : List ℕ → List ℕ → ℕ → Answer (Unit {0})
judged s permitted proposal = do
  sequences ← lent_sequences s
  judged_of sequences permitted proposal

abbrev pub proposed : List ℕ → List ℕ → Answer ℕ
proposed s permitted = do
  sequences ← lent_sequences s
  proposed_of sequences permitted

abbrev pub load_in : List ℕ → ℕ → Answer ℕ
load_in s channel = do
  sequences ← lent_sequences s
  load_of ← loads sequences 0
  answer (load_of channel)
