-- Demand 1: an answer for every input. That every public call ends with an answer, whatever it is given, is `EveryCall` in
-- `proofs/`, since it names the code; this is what is said of refusals.
use Rattle.std.specs.Prelude.{ℕ, ◌+◌, ◌≤◌, ◌<◌, ◌≡◌, Bool, false, List, ◌++◌, ◌↔◌, ◌⊎◌, length, Option, Result}
use Rattle.wire.specs.declared.refusal.Refusal.{Refusal}
use Rattle.wire.specs.declared.refusal.Refusal.TheVariants.{Short}
use Rattle.wire.specs.Refusals.{number_of, offset_of, carried_channel}
use Rattle.wire.specs.Reading.{Reading, refused, field}
use Rattle.wire.specs.ShortFields.{ShortExactly, first_short}
use Rattle.wire.specs.Numbers.{number}
use Rattle.wire.specs.Answer.{Answer, refusal}
use Rattle.wire.specs.Addresses.{address, zero_address}
use Rattle.wire.specs.Writing.{fits, Put, Wrote}
use Rattle.wire.specs.Said.{said, told}
use Rattle.wire.specs.Outcomes.{outcome, reply, outcome_of, reply_of}
use Rattle.channel.specs.Outcomes.{reply_encoding, reply_corrected}
use Rattle.channel_sequence.specs.Outcomes.{reply_consistent, reply_entry, outcome_sequence, reply_made}
use Rattle.channel_sequence_tlv.specs.Outcomes.{outcome_channel_sequence}
use Rattle.channel_judge.specs.Outcomes.{reply_judgement, reply_proposal, reply_load}
use Rattle.data_path_fields.specs.Outcomes.{zero_head, zero_body, outcome_head, outcome_body}
use Rattle.data_path_state.specs.Outcomes.{zero_data_path, outcome_data_path}
use Rattle.synchronization_parameters.specs.Outcomes.{outcome_synchronization}
use Rattle.action_frame.specs.Outcomes.{outcome_frame}
use Rattle.text.specs.declared.hex.HexError.{HexError}
use Rattle.text.specs.Words.{decimal_of}
use Rattle.text.specs.Into.{PutSaid, TellsSame}
use Rattle.channel.specs.declared.channel.ChannelEncoding.TheVariants.{Simple}
use Rattle.channel_sequence.specs.Sequences.{zero_sequence}
use Rattle.channel_sequence.specs.SequenceReader.{sequence}
use Rattle.channel_sequence.specs.Hops.{hop, zero_channel, said_entry}
use Rattle.channel_sequence_tlv.specs.SequenceTLVs.{zero_channel_sequence}
use Rattle.channel_sequence_tlv.specs.SequenceTLVReader.{channel_sequence_record}
use Rattle.channel_sequence_tlv.specs.FieldWidths.{head_widths}
use Rattle.data_path_fields.specs.Fields.{head, body}
use Rattle.data_path_state.specs.DataPath.{data_path}
use Rattle.synchronization_parameters.specs.SynchronizationReader.{synchronization, zero_synchronization}
use Rattle.synchronization_parameters.specs.FieldWidths.{fixed_widths}
use Rattle.tlv_items.specs.Said.{said_end}
use Rattle.tlvs.specs.Said.{said_found}
use Rattle.action_frame.specs.Frames.{header, zero_frame}
use Rattle.promises.specs.Answers.{refused_outcome, refused_reply, refused_judgement, Once, Answering, ShortInFrame}

pub record Demand1 : Type 1 where
  -- the numbers of refusals are 1 to 8, 10, 18, 19 and 27 to 30: no refusal has another, and each of these is the number of one; number, offset and channel tell
  -- which refusal it is, and none but 30 carries a channel
  pub numbers : (n : ℕ) → ((why : Refusal) × (number_of why ≡ n)) ↔ (((1 ≤ n) × (n ≤ 8)) ⊎ ((n ≡ 10) ⊎ ((n ≡ 18) ⊎ ((n ≡ 19) ⊎ ((27 ≤ n) × (n ≤ 30))))))
  pub apart : (why other : Refusal) → number_of why ≡ number_of other → offset_of why ≡ offset_of other → carried_channel why ≡ carried_channel other → why ≡ other
  pub carried : (why : Refusal) → ¬ (number_of why ≡ 30) → carried_channel why ≡ 0
  -- whatever does not stand for the number 1, a success too, stands for the offset 0
  pub reader-offsets : {A : Type 0} (nothing : A) (at : ℕ) (r : Reading A) → ¬ ((outcome nothing at r).number ≡ 1) → (outcome nothing at r).offset ≡ 0
  pub call-offsets : {A : Type 0} (nothing : A) (a : Answer A) → ¬ ((reply nothing a).number ≡ 1) → (reply nothing a).offset ≡ 0
  -- with the number 1 the offset is that of the first byte of the field that does not fit, and there is no other; it counts from the start of what the
  -- reader was given: of the single fields, of the parts of a record, of the records and of the header
  pub field-offset : (n : ℕ) → ShortExactly (field n)
  pub number-offset : (width : ℕ) → ShortExactly (number width)
  pub address-offset : ShortExactly address
  pub sequence-offset : (encoding : ℕ) → ShortExactly (sequence encoding)
  pub head-offset : ShortExactly head
  pub body-offset : (flags : ℕ) → ShortExactly (body flags)
  pub data-path-offset : ShortExactly data_path
  pub synchronization-offset : ShortExactly synchronization
  pub channel-sequence-offset : ShortExactly channel_sequence_record
  pub header-offset : ShortExactly header
  -- which field it is goes by the widths alone where the bytes end in front of the entries of a sequence, whatever the count and the encoding say
  pub channel-sequence-front : (s : List ℕ) (at : ℕ) → length s < at + 6 → channel_sequence_record s at ≡ refused (Short (first_short head_widths s at))
  pub synchronization-front : (s : List ℕ) → length s < 39 → synchronization s 0 ≡ refused (Short (first_short (fixed_widths ++ head_widths) s 0))
  -- an offset in the value of an item is turned into one of the frame; that of a header counts from the frame's start already
  pub data-path-in-frame : ShortInFrame data_path
  pub synchronization-in-frame : ShortInFrame synchronization
  pub channel-sequence-in-frame : ShortInFrame channel_sequence_record
  -- a refusal stands for its number, its offset, the zero value and size 0, and only one answer meets each statement (where a contract is
  -- an equation of the answer itself, there is nothing to show), whatever is read, or is answered by a call that reads nothing:
  pub readers : {A : Type 0} (nothing : A) (at : ℕ) → Answering said refused (outcome_of nothing at) (refused_outcome nothing)
  pub calls : {A : Type 0} (nothing : A) → Answering told refusal (reply_of nothing) (refused_reply nothing)
  -- so of a number of each width and of an address that are read, and of a place and a size
  pub number : (at : ℕ) → Answering (said {A = ℕ}) refused (outcome_of 0 at) (refused_outcome 0)
  pub address : (at : ℕ) → Answering said refused (outcome_of zero_address at) (refused_outcome zero_address)
  pub size : Answering (told {A = ℕ}) refusal (reply_of 0) (refused_reply 0)
  -- of channels and their sequences
  pub encoding : Answering told refusal reply_encoding (refused_reply Simple)
  pub corrected : Answering told refusal reply_corrected (refused_reply 0)
  pub consistency : Answering told refusal reply_consistent (refused_reply false)
  pub entry : Answering said_entry refusal reply_entry (refused_reply (hop zero_channel))
  pub sequence : (at : ℕ) → Answering said refused (outcome_sequence at) (refused_outcome zero_sequence)
  pub made : Answering told refusal reply_made (refused_reply zero_sequence)
  -- of the judge, whose refusal 30 alone comes with our own proposal, of that proposal, and of a load
  pub judgement : Answering told refusal reply_judgement refused_judgement
  pub proposal : Answering told refusal reply_proposal (refused_reply 0)
  pub load : Answering told refusal reply_load (refused_reply 0)
  -- of the three records and the header, and of the two parts in which a data path record is read
  pub head : Answering said refused outcome_head (refused_outcome zero_head)
  pub body : (at : ℕ) → Answering said refused (outcome_body at) (refused_outcome zero_body)
  pub data-path : Answering said refused outcome_data_path (refused_outcome zero_data_path)
  pub synchronization : Answering said refused outcome_synchronization (refused_outcome zero_synchronization)
  pub channel-sequence : (at : ℕ) → Answering said refused (outcome_channel_sequence at) (refused_outcome zero_channel_sequence)
  pub frame : Answering said refused outcome_frame (refused_outcome zero_frame)
  -- the end report, the search and the reading of a word refuse nothing
  pub end : Once said_end
  pub found : {A : Type 0} → Once (said_found {A = A})
  pub decimal : (word : List ℕ) (a b : Option ℕ) → a ≡ decimal_of word → b ≡ decimal_of word → a ≡ b
  pub put-said : (s : List ℕ) (at : ℕ) (word : Option (List ℕ)) (a b : Result ℕ HexError) (t u : List ℕ) → PutSaid s at word a t → PutSaid s at word b u → (a ≡ b) × (t ≡ u)
  pub same : (xs ys : List ℕ) (a b : Bool) → TellsSame xs ys a → TellsSame xs ys b → a ≡ b
  -- only one answer of a writer, and one buffer afterwards, meet its statement
  pub wrote : (s : List ℕ) (bytes : Answer (List ℕ)) (said other : Answer ℕ) (after last : List ℕ)
      → Wrote s bytes said after → Wrote s bytes other last → (said ≡ other) × (after ≡ last)
  pub put : (s : List ℕ) (at : ℕ) (bytes : List ℕ) (next other : ℕ) (after last : List ℕ)
      → Put s at bytes next after → Put s at bytes other last → (next ≡ other) × (after ≡ last)
  -- a writer that refuses leaves every byte of the buffer as it was
  pub writers : (s : List ℕ) (bytes : Answer (List ℕ)) (said : Answer ℕ) (after : List ℕ) (why : Refusal)
      → Wrote s bytes said after → said ≡ refusal why → after ≡ s
  -- and so does a step of a writer whose bytes do not fit
  pub steps : (s : List ℕ) (at : ℕ) (bytes : List ℕ) (next : ℕ) (after : List ℕ)
      → Put s at bytes next after → fits s at bytes ≡ false → (next ≡ at) × (after ≡ s)
