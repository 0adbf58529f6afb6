-- Where 33 bytes stand, each field is read at its offset and the sequence decides: these bytes are taken apart and computed with; a shorter value is refused by its widths.
-- Assumes nothing.
use Prim.Native.Nat.{ℕ, ◌+◌, ◌*◌, ◌≤◌, ◌<◌, zero-le}
use native.Mathlib.Nat.{add-zero}
use native.Mathlib.Omega.{arith}
use native.Mathlib.Decide.{dec_le}
use mathlib.Core.Logic.{dite}
use mathlib.Core.Path.{◌≡◌, sym, ap, subst, ◌∙◌}
use mathlib.Core.Bool.{true}
use mathlib.Core.List.{List, ◌++◌}
use lib.Dec.{leb}
use lib.ListN.{length, get_or, drop}
use borrow.Author.Tests.{le-leb, leb-true}
use Rattle.wire.specs.declared.refusal.Refusal.{Refusal}
use Rattle.wire.specs.declared.refusal.Refusal.TheVariants.{Short}
use Rattle.wire.specs.Reading.{read, refused, onward}
use Rattle.wire.specs.ShortFields.{first_short}
use Rattle.wire.specs.Numbers.{pair_of}
use Rattle.wire.specs.Addresses.{address_of}
use Rattle.wire.proofs.Bytes.{from, opened}
use Rattle.wire.proofs.Lawful.{Lawful, never, steps, give-lawful}
use Rattle.wire.proofs.Fixed.{past-short, made-field, Begins, begins-bind, begins-field, begins-number}
use Rattle.wire.proofs.Laid.{short-in-front}
use Rattle.channel_sequence_tlv.specs.declared.channel_sequence_tlv.ChannelSequenceTLV.{ChannelSequenceTLV}
use Rattle.channel_sequence_tlv.specs.SequenceTLVReader.{channel_sequence_record}
use Rattle.channel_sequence_tlv.specs.FieldWidths.{head_widths}
use Rattle.channel_sequence_tlv.proofs.SequenceTLVs.{channel-sequence-begins}
use Rattle.synchronization_parameters.specs.declared.synchronization_parameters_tlv.SynchronizationParametersTLV.{SynchronizationParametersTLV}
use Rattle.synchronization_parameters.specs.SynchronizationReader.{synchronization}
use Rattle.synchronization_parameters.specs.FieldWidths.{fixed_widths}

abbrev byte_at : List ℕ → ℕ → ℕ
byte_at s at = get_or s at 0

abbrev word_at : List ℕ → ℕ → ℕ
word_at s at = byte_at s at + 256 * byte_at s (at + 1)

-- the bytes at their offsets, a sequence and some words
abbrev worded : List ℕ → ChannelSequenceTLV → (a b c d e f g h i : ℕ) → SynchronizationParametersTLV
worded s channels a b c d e f g h i =
    record {
      next_channel = byte_at s 0;
      tx_counter = a;
      master_channel = byte_at s 3;
      guard_time = byte_at s 4;
      aw_period = b;
      af_period = c;
      awdl_flags = d;
      aw_ext_length = e;
      aw_common_length = f;
      remaining_aw_length = g;
      min_ext_count = byte_at s 17;
      max_multicast_ext_count = byte_at s 18;
      max_unicast_ext_count = byte_at s 19;
      max_af_ext_count = byte_at s 20;
      master_address =
          record { 0 = byte_at s 21; 1 = byte_at s 22; 2 = byte_at s 23; 3 = byte_at s 24; 4 = byte_at s 25; 5 = byte_at s 26 };
      presence_mode = byte_at s 27;
      reserved = byte_at s 28;
      aw_seq_number = h;
      ap_beacon_alignment_delta = i;
      channel_sequence = channels;
    }

-- the fields at their offsets, and a sequence
abbrev pub fields_of : List ℕ → ChannelSequenceTLV → SynchronizationParametersTLV
fields_of s channels =
    worded s channels (word_at s 1) (word_at s 5) (word_at s 7) (word_at s 9) (word_at s 11) (word_at s 13) (word_at s 15) (word_at s 29) (word_at s 31)

inside : (s : List ℕ) → 33 ≤ length s → (k : ℕ) → leb k 33 ≡ true → leb k (length s) ≡ true
inside s h k e = le-leb k (length s) (omega (arith, leb-true k 33 e))

pub all-fields : (s : List ℕ) → 33 ≤ length s → synchronization s 0 ≡ onward (channel_sequence_record s 33) (λ c next. read (fields_of s c) next)
unfolding synchronization
all-fields s h =
    let bytes : List ℕ = from s 0 0 33 ++ drop 33 s in
    let enough : 33 ≤ length bytes = omega arith in
    subst (λ (l : List ℕ). synchronization l 0 ≡ onward (channel_sequence_record l 33) (λ c next. read (fields_of l c) next)) (opened 33 s h)
    (simp (inside bytes enough, add-zero))

-- the same where a sequence was read, with each word by whatever has been shown to be equal to it
pub all_words : (s : List ℕ) → 33 ≤ length s → {channels : ChannelSequenceTLV} {next : ℕ} → channel_sequence_record s 33 ≡ read channels next → {a b c d e f g h i : ℕ}
    → a ≡ word_at s 1 → b ≡ word_at s 5 → c ≡ word_at s 7 → d ≡ word_at s 9 → e ≡ word_at s 11 → f ≡ word_at s 13 → g ≡ word_at s 15 → h ≡ word_at s 29 → i ≡ word_at s 31
    → synchronization s 0 ≡ read (worded s channels a b c d e f g h i) next
all_words s enough entries ea eb ec ed ee ef eg eh ei = rw (ea, eb, ec, ed, ee, ef, eg, eh, ei) (all-fields s enough ∙ rw entries)

-- what refuses the sequence refuses the record
pub refused_within : (s : List ℕ) → 33 ≤ length s → {why : Refusal} → channel_sequence_record s 33 ≡ refused why → synchronization s 0 ≡ refused why
refused_within s enough e = all-fields s enough ∙ rw e

begins : Begins synchronization (fixed_widths ++ head_widths)
unfolding synchronization
begins =
    begins-number 1 λ _. begins-number 2 λ _. begins-number 1 λ _. begins-number 1 λ _.
    begins-number 2 λ _. begins-number 2 λ _. begins-number 2 λ _. begins-number 2 λ _. begins-number 2 λ _. begins-number 2 λ _.
    begins-number 1 λ _. begins-number 1 λ _. begins-number 1 λ _. begins-number 1 λ _.
    begins-field (made-field 6 address_of) λ _. begins-field (made-field 2 pair_of) λ _.
    begins-number 2 λ _. begins-number 2 λ _. begins-bind channel-sequence-begins λ c. give-lawful _

pub synchronization-lawful : Lawful synchronization
synchronization-lawful = begins.lawful

-- a value that ends in front of the entries is short at the first field that does not fit, and so is one without its whole fixed part
pub front-short : (s : List ℕ) → length s < 39 → synchronization s 0 ≡ refused (Short (first_short (fixed_widths ++ head_widths) s 0))
front-short s h = begins.refuses s 0 _ (past-short 1 (drop 1 (fixed_widths ++ head_widths)) s 0 h)

pub fixed-short : (s : List ℕ) → length s < 33 → synchronization s 0 ≡ refused (Short (first_short fixed_widths s 0))
fixed-short s h = front-short s (omega arith) ∙ ap (λ (p : ℕ). refused (Short p)) (short-in-front fixed_widths head_widths s 0 h zero-le)

-- what a record was read of: 33 bytes, and the sequence behind them
pub record FieldsAndChannels (s : List ℕ) (p : SynchronizationParametersTLV) (size : ℕ) : Type 0 where
  pub enough : 33 ≤ length s
  pub channels : ChannelSequenceTLV
  pub entries : channel_sequence_record s 33 ≡ read channels size
  pub made : fields_of s channels ≡ p

pub fields-and-channels : (s : List ℕ) {p : SynchronizationParametersTLV} {size : ℕ} → synchronization s 0 ≡ read p size → FieldsAndChannels s p size
fields-and-channels s {p} {size} e =
    dite (dec_le 33 (length s))
    (λ here.
    let w = steps (channel_sequence_record s 33) (λ c next. read (fields_of s c) next) (sym (all-fields s here) ∙ e) in
    let goes = w.goes in
    let ends : w.mid ≡ size = cc in
    record { enough = here; channels = w.first; entries = w.begins ∙ ap (read w.first) ends; made = cc })
    (λ past. absurd (never (sym (fixed-short s (omega arith)) ∙ e)))
