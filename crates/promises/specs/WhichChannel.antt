-- Which channel to move to: what is promised of the judge besides the contracts of its calls.
use Rattle.std.specs.Prelude.{◌≡◌, ℕ, ◌≤◌, ◌<◌, true, List, [], ◌∷◌, ◌++◌, ◌↔◌, length, get_or}
use Rattle.wire.specs.declared.refusal.Refusal.TheVariants.{SmallerLoad}
use Rattle.wire.specs.Answer.{answer, refusal}
use Rattle.channel.specs.declared.channel.Channel.{Channel}
use Rattle.channel.specs.Channels.{corrected}
use Rattle.channel_sequence.specs.declared.channel_sequence.ChannelSequence.{ChannelSequence}
use Rattle.channel_sequence.specs.Hops.{hop, hop_at}
use Rattle.channel_judge.specs.Loads.{lent_sequences, load, all_listed}
use Rattle.channel_judge.specs.Judging.{judged_of, proposed_of, judged, proposed, load_in}

-- sequences and permitted channels that can be judged by: at most 64, with listed encodings, and at most 16
pub record CanJudge (sequences : List ChannelSequence) (permitted : List ℕ) : Type 0 where
  pub sixty-four : length sequences ≤ 64
  pub sixteen : length permitted ≤ 16
  pub listed : all_listed sequences ≡ true

-- a channel has a place among the permitted ones
pub record Permitted (permitted : List ℕ) (channel : ℕ) : Type 0 where
  pub place : ℕ
  pub inside : place < length permitted
  pub stands : get_or permitted place 0 ≡ channel

-- nothing that is permitted is less loaded
abbrev pub NoneSmaller : List ChannelSequence → List ℕ → ℕ → Type 0
NoneSmaller sequences permitted channel = (other : ℕ) → Permitted permitted other → load sequences channel ≤ load sequences other

-- the first such channel of the list: all in front of it are more loaded
pub record FirstLeast (sequences : List ChannelSequence) (permitted : List ℕ) (channel : ℕ) : Type 0 where
  pub permitted-channel : Permitted permitted channel
  pub least : NoneSmaller sequences permitted channel
  pub first : (i : ℕ) → i < permitted-channel.place → load sequences channel < load sequences (get_or permitted i 0)

-- an entry of the sequence stands for the channel
pub record Touches (q : ChannelSequence) (channel : ℕ) : Type 0 where
  pub number : ℕ
  pub entry : Channel
  pub stands : hop_at q number ≡ answer (hop entry)
  pub corrects : corrected entry ≡ answer channel

-- the same sequences in another order: neighbours change places, as often as it takes
pub data Rearranged : List ChannelSequence → List ChannelSequence → Type 0 where
  as-they-stand : (sequences : List ChannelSequence) → Rearranged sequences sequences
  change-places : (front : List ChannelSequence) (q r : ChannelSequence) (back others : List ChannelSequence)
      → Rearranged (front ++ r ∷ q ∷ back) others → Rearranged (front ++ q ∷ r ∷ back) others

-- sequences laid one behind the other, as they are lent
abbrev pub laid : List ChannelSequence → List ℕ
laid [] = []
laid (q ∷ rest) = q.encoding ∷ (q.bytes ++ laid rest)

-- each has its 32 bytes
pub data AllWhole : List ChannelSequence → Type 0 where
  none : AllWhole []
  one : {q : ChannelSequence} {rest : List ChannelSequence} → length q.bytes ≡ 32 → AllWhole rest → AllWhole (q ∷ rest)

pub record WhichChannel : Type 0 where
  -- what a caller lays down is what the three calls go by; what follows is said of the sequences
  pub as_lent : (sequences : List ChannelSequence) → AllWhole sequences → lent_sequences (laid sequences) ≡ answer sequences
  pub judged-as-lent : (sequences : List ChannelSequence) (permitted : List ℕ) (proposal : ℕ) → AllWhole sequences
      → judged (laid sequences) permitted proposal ≡ judged_of sequences permitted proposal
  pub proposed-as-lent : (sequences : List ChannelSequence) (permitted : List ℕ) → AllWhole sequences → proposed (laid sequences) permitted ≡ proposed_of sequences permitted
  pub load-as-lent : (sequences : List ChannelSequence) (channel : ℕ) → AllWhole sequences → CanJudge sequences []
      → load_in (laid sequences) channel ≡ answer (load sequences channel)
  -- which proposals pass
  pub accepted : (sequences : List ChannelSequence) (permitted : List ℕ) (proposal : ℕ)
      → (judged_of sequences permitted proposal ≡ answer tt)
      ↔ (CanJudge sequences permitted × Permitted permitted proposal × NoneSmaller sequences permitted proposal)
  -- we have a proposal of our own wherever something is permitted; it is the first that passes, and the judge lets it pass
  pub own-given : (sequences : List ChannelSequence) (permitted : List ℕ) → CanJudge sequences permitted → 0 < length permitted
      → (channel : ℕ) × (proposed_of sequences permitted ≡ answer channel)
  pub own_first : (sequences : List ChannelSequence) (permitted : List ℕ) (channel : ℕ) → proposed_of sequences permitted ≡ answer channel → FirstLeast sequences permitted channel
  pub own-accepted : (sequences : List ChannelSequence) (permitted : List ℕ) (channel : ℕ) → proposed_of sequences permitted ≡ answer channel
      → judged_of sequences permitted channel ≡ answer tt
  -- it is what goes with the refusal of another
  pub own-shown : (sequences : List ChannelSequence) (permitted : List ℕ) (proposal channel : ℕ)
      → judged_of sequences permitted proposal ≡ refusal (SmallerLoad channel) → proposed_of sequences permitted ≡ answer channel
  -- where something on the list is free, whatever on it is not free is refused, and what is shown beside that is free
  pub idle : (sequences : List ChannelSequence) (permitted : List ℕ) (free proposal : ℕ) → CanJudge sequences permitted
      → Permitted permitted free → load sequences free ≡ 0 → Permitted permitted proposal → 0 < load sequences proposal
      → (own : ℕ) × ((judged_of sequences permitted proposal ≡ refusal (SmallerLoad own)) × (load sequences own ≡ 0))
  -- the order of the sequences decides nothing
  pub judged-rearranged : (sequences others : List ChannelSequence) (permitted : List ℕ) (proposal : ℕ) → Rearranged sequences others
      → judged_of sequences permitted proposal ≡ judged_of others permitted proposal
  pub proposed-rearranged : (sequences others : List ChannelSequence) (permitted : List ℕ) → Rearranged sequences others
      → proposed_of sequences permitted ≡ proposed_of others permitted
  -- one more sequence, wherever it is put, counts only for the channels that it touches
  pub untouched : (front back : List ChannelSequence) (q : ChannelSequence) (channel : ℕ) → ¬ Touches q channel
      → load (front ++ q ∷ back) channel ≡ load (front ++ back) channel
  -- without a sequence all channels are free: whatever is permitted passes, and our own is the first of the list
  pub empty-load : (channel : ℕ) → load [] channel ≡ 0
  pub empty-accepted : (permitted : List ℕ) (proposal : ℕ) → length permitted ≤ 16 → Permitted permitted proposal → judged_of [] permitted proposal ≡ answer tt
  pub empty-own : (channel : ℕ) (rest : List ℕ) → length rest < 16 → proposed_of [] (channel ∷ rest) ≡ answer channel
