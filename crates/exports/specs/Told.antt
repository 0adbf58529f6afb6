-- What a call lays down of its answer: the number that it answers, and what stands afterwards in the places that were lent to it.
use Rattle.std.specs.Prelude.{ℕ, ◌+◌, ◌≡◌, List, [], ◌∷◌, length, replicate}
use Rattle.wire.specs.Answer.{Answer}
use Rattle.wire.specs.Outcomes.{Outcome, Reply, reply}
use Rattle.wire.specs.Writing.{within, length_of, afterwards}
use Rattle.channel_sequence.specs.Hops.{Hop, hop, nothing, zero_channel}
use Rattle.tlv_items.specs.declared.item.Step.{Step}
use Rattle.tlvs.specs.Search as S
use Rattle.exports.specs.Sequences.{channel_numbers}

-- a reader: its number, offset and size
pub record ToldOutcome {A : Type 0} (o : Outcome A) (answered at bytes : ℕ) : Type 0 where
  pub number : answered ≡ o.number
  pub offset : at ≡ o.offset
  pub size : bytes ≡ o.size

-- and the numbers of its record
pub record ToldReading {A : Type 0} (numbers_of : A → List ℕ) (o : Outcome A) (answered at bytes : ℕ) (after : List ℕ) : Type 0 where
  pub outcome : ToldOutcome o answered at bytes
  pub numbers : after ≡ numbers_of o.value

-- a call that answers one number
pub record ToldNumber (r : Reply ℕ) (answered laid : ℕ) : Type 0 where
  pub number : answered ≡ r.number
  pub value : laid ≡ r.value

-- one that can be short, too
pub record ToldPlaced (r : Reply ℕ) (answered at laid : ℕ) : Type 0 where
  pub number : answered ≡ r.number
  pub offset : at ≡ r.offset
  pub value : laid ≡ r.value

-- a call that answers a record
pub record ToldRecord {A : Type 0} (numbers_of : A → List ℕ) (r : Reply A) (answered : ℕ) (after : List ℕ) : Type 0 where
  pub number : answered ≡ r.number
  pub numbers : after ≡ numbers_of r.value

-- a writer: its number and size, and the buffer
pub record ToldWriting (s : List ℕ) (bytes : Answer (List ℕ)) (answered laid : ℕ) (after : List ℕ) : Type 0 where
  pub number : answered ≡ (reply 0 (within (length s) (length_of bytes))).number
  pub size : laid ≡ (reply 0 (within (length s) (length_of bytes))).value
  pub buffer : after ≡ afterwards s bytes (within (length s) (length_of bytes))

-- a step of the walk: 1 and the item, with the place of its value and the place behind it; 0 for whole; 2 and the place of the cut
abbrev pub step_number : Step → ℕ
step_number (Step.Item it next) = 1
step_number Step.Whole = 0
step_number (Step.Cut at) = 2

abbrev pub step_numbers : Step → List ℕ
step_numbers (Step.Item it next) = it.at ∷ it.tlv_type ∷ it.length ∷ (it.at + 3) ∷ next ∷ []
step_numbers Step.Whole = replicate 5 0
step_numbers (Step.Cut at) = at ∷ replicate 4 0

pub record ToldStep (step : Step) (answered : ℕ) (after : List ℕ) : Type 0 where
  pub number : answered ≡ step_number step
  pub numbers : after ≡ step_numbers step

-- a search: 1, the item with the place behind it, and the record; or 0 and zeros
abbrev pub found_number : {A : Type 0} → S.Search A → ℕ
found_number (S.found a it next) = 1
found_number S.nothing = 0

abbrev pub found_item : {A : Type 0} → S.Search A → List ℕ
found_item (S.found a it next) = it.at ∷ it.tlv_type ∷ it.length ∷ next ∷ []
found_item S.nothing = replicate 4 0

abbrev pub found_record : {A : Type 0} → A → S.Search A → A
found_record none (S.found a it next) = a
found_record none S.nothing = none

pub record ToldSearch {A : Type 0} (numbers_of : A → List ℕ) (none : A) (s : S.Search A) (answered : ℕ) (lies after : List ℕ) : Type 0 where
  pub number : answered ≡ found_number s
  pub item : lies ≡ found_item s
  pub numbers : after ≡ numbers_of (found_record none s)

-- a hop: 1 and its channel, or 0 and zeros
abbrev pub hop_there : Hop → ℕ
hop_there (hop c) = 1
hop_there nothing = 0

abbrev pub hop_numbers : Hop → List ℕ
hop_numbers (hop c) = channel_numbers c
hop_numbers nothing = channel_numbers zero_channel

pub record ToldHop (r : Reply Hop) (answered there : ℕ) (after : List ℕ) : Type 0 where
  pub number : answered ≡ r.number
  pub found : there ≡ hop_there r.value
  pub numbers : after ≡ hop_numbers r.value
