-- The six bytes are taken apart by their places, so that what stands behind them decides: the laws of a sequence are those of its record.
-- Assumes nothing.
use Prim.Native.Nat.{ℕ, ◌+◌, ◌*◌, ◌-◌, ◌≤◌, ◌<◌}
use native.Mathlib.Omega.{arith}
use native.Mathlib.Decide.{dec_le}
use mathlib.Core.Logic.{dite, ◌⊎◌, inl, inr}
use mathlib.Core.Path.{◌≡◌, refl, sym, ap, ◌∙◌}
use mathlib.Core.Bool.{Bool, true, false}
use mathlib.Core.List.{List, ◌++◌}
use lib.Dec.{eqb, lit<}
use lib.ListN.{length, get_or, take, drop, length-append}
use borrow.Author.Tests.{eqb-true}
use Rattle.wire.specs.declared.refusal.Refusal.{Refusal}
use Rattle.wire.specs.declared.refusal.Refusal.TheVariants.{Short, ChannelCount}
use Rattle.wire.specs.Reading.{Reader, read, refused, give, field, onward, ◌>>=◌}
use Rattle.wire.specs.ShortFields.{first_short}
use Rattle.wire.specs.Answer as A
use Rattle.wire.specs.Answer.{Answer, answer, refusal, place_of}
use Rattle.wire.specs.Numbers.{AllInWidth, number}
use Rattle.wire.specs.Writing.{length_of}
use Rattle.wire.proofs.Bytes.{number-whole, unplaced}
use Rattle.wire.proofs.Stores.{size-behind, length-behind, written_behind}
use Rattle.wire.proofs.Lawful.{Lawful, never, steps, field-refused, bind-lawful, require-lawful, give-lawful}
use Rattle.wire.proofs.Fixed.{past-short, Begins, begins-any, begins-number}
use Rattle.wire.proofs.Octets.{Octets, octets-append, octets-take, octets-little}
use Rattle.wire.proofs.ReadsBack.{Back, bind-back, asked-back, made-back, number-back, number-on}
use Rattle.channel.specs.declared.channel.ChannelEncoding.{ChannelEncoding}
use Rattle.channel.specs.declared.channel.ChannelEncoding.TheVariants.{Simple, Legacy, OpClass}
use Rattle.channel_sequence.specs.declared.channel_sequence.ChannelSequence.{ChannelSequence}
use Rattle.channel.specs.Channels.{entry_size}
use Rattle.channel_sequence_tlv.specs.declared.channel_sequence_tlv.ChannelSequenceTLV.{ChannelSequenceTLV}
use Rattle.channel_sequence.specs.Sequences as Q
use Rattle.channel_sequence.specs.SequenceReader.{sequence}
use Rattle.channel_sequence_tlv.specs.SequenceTLVs.{consistent, size_of, head_bytes, bytes_of, numbers}
use Rattle.channel_sequence_tlv.specs.SequenceTLVReader.{channel_sequence_record}
use Rattle.channel_sequence_tlv.specs.FieldWidths.{head_widths}
use Rattle.channel_sequence.proofs.Entries.{sequence-sized, size-most, sequence-written}
use Rattle.channel_sequence.proofs.RoundTrip as Q'
use Rattle.channel_sequence.proofs.RoundTrip.{sequence-lawful}

pub channel-sequence-begins : Begins channel_sequence_record head_widths
unfolding channel_sequence_record
channel-sequence-begins =
    begins-number 1 λ count. begins-number 1 λ encoding. begins-number 1 λ _. begins-number 1 λ _. begins-number 2 λ _.
    begins-any (bind-lawful (require-lawful (eqb count 15) ChannelCount (λ e. omega arith)) λ _. bind-lawful (sequence-lawful encoding) λ q. give-lawful _)

pub channel-sequence-lawful : Lawful channel_sequence_record
channel-sequence-lawful = channel-sequence-begins.lawful

-- where one of the six bytes is missing, the value is short at the first field that does not fit
pub head-short : (s : List ℕ) (at : ℕ) → length s < at + 6 → channel_sequence_record s at ≡ refused (Short (first_short head_widths s at))
head-short s at h = channel-sequence-begins.refuses s at _ (past-short 1 (drop 1 head_widths) s at h)

pub head-refused : (s : List ℕ) (at : ℕ) {why : Refusal} → refusal why ≡ place_of (field 6 s at)
    → channel_sequence_record s at ≡ refused (Short (first_short head_widths s at))
head-refused s at e = head-short s at (field-refused 6 s at (unplaced (field 6 s at) e)).0

-- a record of the bytes at a place, and a sequence
abbrev pub headed_by : List ℕ → ℕ → ChannelSequence → ChannelSequenceTLV
headed_by s at q =
    record {
      duplicate_count = get_or s (at + 2) 0;
      step_count = get_or s (at + 3) 0;
      fill_channel = get_or s (at + 4) 0 + 256 * get_or s (at + 5) 0;
      channel_sequence = q;
    }

-- where they are all there, the count is looked at first
module _ (s : List ℕ) (at : ℕ) (h : at + 6 ≤ length s) where
  byte-there : (k : ℕ) → k < 6 → number 1 s (at + k) ≡ read (get_or s (at + k) 0) (at + (k + 1))
  byte-there k m =
      let next : at + k + 1 ≡ at + (k + 1) = omega arith in
      sym (number-whole 0 s (at + k) (get_or s (at + k) 0) (omega arith) (omega arith)) ∙ ap (read (get_or s (at + k) 0)) next

  count-there : number 1 s at ≡ read (get_or s at 0) (at + 1)
  count-there = sym (number-whole 0 s at (get_or s at 0) (omega arith) (omega arith))

  fill-there : number 2 s (at + 4) ≡ read (get_or s (at + 4) 0 + 256 * get_or s (at + 5) 0) (at + 6)
  fill-there =
      let next : at + 4 + 2 ≡ at + 6 = omega arith in
      let second : at + 4 + 1 ≡ at + 5 = omega arith in
      let word : ℕ = get_or s (at + 4) 0 + 256 * get_or s (at + 5) 0 in
      sym (number-whole 1 s (at + 4) word (omega arith) (rw second (omega arith))) ∙ ap (read word) next

  pub count-wrong : eqb (get_or s at 0) 15 ≡ false → channel_sequence_record s at ≡ refused ChannelCount
  unfolding channel_sequence_record
  count-wrong wrong =
      rw (count-there, byte-there 1 (lit< tt), byte-there 2 (lit< tt), byte-there 3 (lit< tt), fill-there, wrong)

  pub count-right : eqb (get_or s at 0) 15 ≡ true
      → channel_sequence_record s at ≡ onward (sequence (get_or s (at + 1) 0) s (at + 6)) (λ q next. read (headed_by s at q) next)
  unfolding channel_sequence_record
  count-right right =
      rw (count-there, byte-there 1 (lit< tt), byte-there 2 (lit< tt), byte-there 3 (lit< tt), fill-there, right)

-- what a record was read of: six bytes with the count 15, and the entries behind them
pub record HeadAndEntries (s : List ℕ) (at : ℕ) (c : ChannelSequenceTLV) (next : ℕ) : Type 0 where
  pub inside : at + 6 ≤ length s
  pub count : get_or s at 0 ≡ 15
  pub held : ChannelSequence
  pub entries : sequence (get_or s (at + 1) 0) s (at + 6) ≡ read held next
  pub made : headed_by s at held ≡ c

pub head-and-entries : (s : List ℕ) (at : ℕ) {c : ChannelSequenceTLV} {next : ℕ} → channel_sequence_record s at ≡ read c next → HeadAndEntries s at c next
head-and-entries s at {c} {next} e = dite (dec_le (at + 6) (length s)) there (λ past. absurd (never (sym (head-short s at (omega arith)) ∙ e)))
  where
    go : at + 6 ≤ length s → (b : Bool) → eqb (get_or s at 0) 15 ≡ b → HeadAndEntries s at c next
    go h true right =
        let w = steps (sequence (get_or s (at + 1) 0) s (at + 6)) (λ q next. read (headed_by s at q) next) (sym (count-right s at h right) ∙ e) in
        let goes = w.goes in
        let ends : w.mid ≡ next = cc in
        record { inside = h; count = eqb-true (get_or s at 0) 15 right; held = w.first; entries = w.begins ∙ ap (read w.first) ends; made = cc }
    go h false wrong = absurd (never (sym (count-wrong s at h wrong) ∙ e))

    there : at + 6 ≤ length s → HeadAndEntries s at c next
    there h = go h (eqb (get_or s at 0) 15) refl

-- six bytes more are written than of the sequence
pub length-written : (c : ChannelSequenceTLV) {size : Answer ℕ} → length_of (Q.bytes_of c.channel_sequence) ≡ size
    → length_of (bytes_of c) ≡ A.◌>>=◌ size (λ m. answer (6 + m))
length-written c e = length-behind (head_bytes c) (Q.bytes_of c.channel_sequence) e

-- where so many bytes are written, the entries behind the six bytes are as many as that says
pub record ChannelSequenceWritten (c : ChannelSequenceTLV) (n : ℕ) : Type 0 where
  pub head : 6 ≤ n
  pub few : n ≤ 38
  pub bytes : bytes_of c ≡ answer (head_bytes c ++ take (n - 6) c.channel_sequence.bytes)

pub channel-sequence-written : (c : ChannelSequenceTLV) → length c.channel_sequence.bytes ≡ 32 → {n : ℕ} → length_of (bytes_of c) ≡ answer n
    → ChannelSequenceWritten c n
channel-sequence-written c whole {n} e =
    let behind = written_behind (head_bytes c) (Q.bytes_of c.channel_sequence) e in
    let w = sequence-written c.channel_sequence whole behind.1 in
    let rest : n - 6 ≡ behind.0 = omega (arith, behind.2) in
    record { head = omega (arith, behind.2); few = omega (arith, behind.2, w.few); bytes = rw (w.bytes, rest) }

-- no size is above 38
pub few_bytes : (c : ChannelSequenceTLV) {n : ℕ} → size_of c ≡ answer n → n ≤ 38
few_bytes c e =
    let behind = size-behind 6 (Q.size_of c.channel_sequence) e in
    let w = sequence-sized c.channel_sequence behind.1 in
    omega (arith, behind.2, w.size, size-most w.encoding)

entries-size : (encoding : ChannelEncoding) {n : ℕ} → n ≡ 16 * entry_size encoding → (6 + n ≡ 22) ⊎ (6 + n ≡ 38)
entries-size Simple e = inl (omega arith)
entries-size Legacy e = inr (omega arith)
entries-size OpClass e = inr (omega arith)

pub two-sizes : (c : ChannelSequenceTLV) {n : ℕ} → size_of c ≡ answer n → (n ≡ 22) ⊎ (n ≡ 38)
two-sizes c e =
    let behind = size-behind 6 (Q.size_of c.channel_sequence) e in
    let w = sequence-sized c.channel_sequence behind.1 in
    rw (← behind.2) (entries-size w.encoding w.size)

head-octets : (c : ChannelSequenceTLV) → Octets (head_bytes c)
head-octets c =
    octets-append (octets-little 1 15)
    (octets-append (octets-little 1 c.channel_sequence.encoding)
    (octets-append (octets-little 1 c.duplicate_count) (octets-append (octets-little 1 c.step_count) (octets-little 2 c.fill_channel))))

-- the bytes of a record: as many as its size says, and read as the record; one with a legacy sequence is not written
pub record ChannelSequenceFilled (c : ChannelSequenceTLV) : Type 0 where
  pub bytes : List ℕ
  pub size : size_of c ≡ answer (length bytes)
  pub written : Q.is_legacy c.channel_sequence ≡ false → bytes_of c ≡ answer bytes
  pub back : Back channel_sequence_record bytes c
  pub octets : Octets c.channel_sequence.bytes → Octets bytes

pub round_trip : (c : ChannelSequenceTLV) → AllInWidth (numbers c) → length c.channel_sequence.bytes ≡ 32 → consistent c ≡ answer true
    → ChannelSequenceFilled c
unfolding channel_sequence_record
round_trip c fit whole e =
    let w = Q'.round_trip c.channel_sequence whole e in
    let made : ChannelSequence → ChannelSequenceTLV =
    λ q. record { duplicate_count = c.duplicate_count; step_count = c.step_count; fill_channel = c.fill_channel; channel_sequence = q } in
    let entries : Unit {0} → Reader ChannelSequenceTLV = λ sixteen. sequence c.channel_sequence.encoding >>= λ q. give (made q) in
    record {
      bytes = head_bytes c ++ w.bytes;
      written = λ other. rw (w.written other);
      size = rw w.size (ap answer (sym (length-append (head_bytes c) w.bytes)));
      back = bind-back _ (number-back 1 15 (lit< tt)) (number-on 1 _ (number-on 1 _ (number-on 1 _ (number-on 2 _ (λ none. bind-back entries (asked-back {a = tt {0}} refl) (made-back made w.back))))) fit);
      octets = λ entries. octets-append (head-octets c) (rw w.front (octets-take (length w.bytes) entries));
    }
