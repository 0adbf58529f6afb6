-- What is promised of an answer that can be a refusal.
use Rattle.std.specs.Prelude.{ℕ, ◌+◌, ◌≡◌, List, take, drop, Some}
use Rattle.wire.specs.declared.refusal.Refusal.{Refusal}
use Rattle.wire.specs.declared.refusal.Refusal.TheVariants.{Short}
use Rattle.wire.specs.Refusals.{number_of, offset_of, carried_channel}
use Rattle.wire.specs.Reading.{Reader, refused}
use Rattle.wire.specs.Outcomes.{Outcome, Reply}
use Rattle.tlv_items.specs.declared.item.Item.{Item}
use Rattle.tlv_items.specs.declared.item.Step.{Step}
use Rattle.tlv_items.specs.Items.{step_at, value_of}
use Rattle.action_frame.specs.Frames.{tail_of}
use Rattle.action_frame.specs.Offsets.{value_in_frame, offset_in_frame}

-- a refusal's number and offset, the zero value and, of a reader, size 0
abbrev pub refused_outcome : {A : Type 0} → A → Refusal → Outcome A
refused_outcome nothing why = record { number = number_of why; offset = offset_of why; value = nothing; size = 0 }

abbrev pub refused_reply : {A : Type 0} → A → Refusal → Reply A
refused_reply nothing why = record { number = number_of why; offset = offset_of why; value = nothing }

-- of the judge, with the channel that one refusal carries
abbrev pub refused_judgement : Refusal → Reply ℕ
refused_judgement why = record { number = number_of why; offset = offset_of why; value = carried_channel why }

-- no two answers say the same
abbrev pub Once : {T S : Type 0} → (T → S) → Type 0
Once {T} said = (a b : T) → said a ≡ said b → a ≡ b

-- an answer, by what it says and by the number, the offset and the values that it stands for: where it says a refusal, it stands for that one
pub record Answering {T S O : Type 0} (said : T → S) (refuse : Refusal → S) (stands : T → O) (refusal : Refusal → O) : Type 0 where
  pub once : Once said
  pub refuses : (a : T) (why : Refusal) → said a ≡ refuse why → stands a ≡ refusal why

-- What a caller has who is told that the value of an item is short at p, and turns that into an offset of the frame: an offset there always is; the
-- value stands in the frame where the sum says; and read there, up to its own end, it is short at just that offset, where the field would start.
pub record TurnsIntoFrame {A : Type 0} (reader : Reader A) (frame : List ℕ) (it : Item) (next p : ℕ) : Type 0 where
  pub offset : ℕ
  pub given : offset_in_frame frame it p ≡ Some offset
  pub lies : drop (value_in_frame it) (take (12 + next) frame) ≡ value_of (tail_of frame) it
  pub short : reader (take (12 + next) frame) (value_in_frame it) ≡ refused (Short offset)

abbrev pub ShortInFrame : {A : Type 0} → Reader A → Type 0
ShortInFrame reader =
    (frame : List ℕ) (at : ℕ) (it : Item) (next p : ℕ) → step_at (tail_of frame) at ≡ Step.Item it next
    → reader (value_of (tail_of frame) it) 0 ≡ refused (Short p) → TurnsIntoFrame reader frame it next p
