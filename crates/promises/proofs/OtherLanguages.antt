-- A list is the list of its elements, so that fields laid out as numbers come back; a number that is too large fails the test of its list, and
-- numbers in the widths of their fields pass it. Each statement of what is laid down is made of equations.
-- Assumes nothing.
use Prim.Native.Nat.{ℕ, zero, suc, ◌+◌, ◌≤◌, ◌<◌, ◌^◌}
use native.Mathlib.Omega.{arith}
use mathlib.Core.Path.{◌≡◌, refl, sym, ap, ◌∙◌}
use mathlib.Core.Bool.{Bool, true, false, ◌&&◌, false≢true}
use mathlib.Core.List.{List, [], ◌∷◌}
use lib.Dec.{leb}
use lib.ListN.{length, get_or, take, drop, replicate, length-drop, drop_of_length-le}
use lib.Seq.{take_all, get_or-drop}
use borrow.Author.Tests.{le-leb, lt-leb}
use Rattle.wire.specs.declared.refusal.Refusal.TheVariants.{Inconsistent}
use Rattle.wire.specs.Reading.{Reading, read, refused}
use Rattle.wire.specs.Answer.{Answer, answer, refusal, ◌>>=◌}
use Rattle.wire.specs.Outcomes.{outcome, reply}
use Rattle.wire.specs.Numbers.{AllInWidth, one}
use Rattle.channel.specs.Channels.{corrected}
use Rattle.channel_sequence.specs.declared.channel_sequence.ChannelSequence.{ChannelSequence}
use Rattle.channel_sequence.specs.Widths.{SequenceInWidth}
use Rattle.channel_sequence.specs.Sequences as Q
use Rattle.channel_sequence.specs.Hops.{Hop, hop_at, nothing, zero_channel}
use Rattle.channel_sequence.specs.Conversion.{to_simple}
use Rattle.channel_sequence_tlv.specs.declared.channel_sequence_tlv.ChannelSequenceTLV.{ChannelSequenceTLV}
use Rattle.channel_sequence_tlv.specs.SequenceTLVs as C
use Rattle.channel_sequence_tlv.specs.Widths.{ChannelSequenceInWidth}
use Rattle.channel_judge.specs.Judging.{judged, load_in}
use Rattle.data_path_words.specs.declared.misc.DataPathChannel.{DataPathChannel}
use Rattle.data_path_words.specs.Words.{word_of}
use Rattle.data_path_fields.specs.declared.optional.Optional.{Optional}
use Rattle.data_path_state.specs.declared.data_path_state_tlv.DataPathStateTLV.{DataPathStateTLV}
use Rattle.data_path_state.specs.Consistent.{consistent}
use Rattle.data_path_state.specs.Mended.{mended}
use Rattle.data_path_state.specs.Bytes as D
use Rattle.data_path_state.specs.Outcomes.{zero_data_path}
use Rattle.synchronization_parameters.specs.declared.synchronization_parameters_tlv.SynchronizationParametersTLV.{SynchronizationParametersTLV}
use Rattle.synchronization_parameters.specs.SynchronizationReader.{zero_synchronization}
use Rattle.synchronization_parameters.specs.SynchronizationBytes as S
use Rattle.synchronization_parameters.specs.Widths.{SynchronizationInWidth}
use Rattle.tlv_items.specs.ItemBytes.{item_bytes}
use Rattle.action_frame.specs.declared.AWDLActionFrame.{AWDLActionFrame}
use Rattle.action_frame.specs.Frames as F
use Rattle.exports.specs.Held.{fits, octets, flag_number, is_there, held, flagged}
use Rattle.exports.specs.Frames.{frame_numbers, frame_largest, frame_of}
use Rattle.exports.specs.DataPaths.{kind_of, channel_of, channel_fits, data_path_numbers, data_path_largest, data_path_fits, data_path_of, data_path_in}
use Rattle.exports.specs.Sequences as X
use Rattle.exports.specs.Synchronizations.{synchronization_numbers, synchronization_largest, synchronization_of, synchronization_in}
use Rattle.exports.specs.Told.{ToldReading, ToldNumber, ToldPlaced, ToldRecord, ToldWriting, ToldHop}
use Rattle.exports.proofs.Fits.{fits-at, both}
use Rattle.promises.specs.Legacy.{with_sequence, with_its_sequence}
use Rattle.promises.specs.OtherLanguages.{RefusesLarge, AsNumbers, Asks, AsksByte, ChannelInWidth, DataPathInWidth, EntryInWidth, OtherLanguages}

-- a test that fails refuses
fails : {A : Type 0} (fit : Bool) (a : A) → ¬ (fit ≡ true) → held fit a ≡ refusal Inconsistent
fails true a no-fit = absurd (no-fit refl)
fails false a no-fit = refl

-- a number that is too large fails the test of its list
large : {A : Type 0} (largest : List ℕ) (of : List ℕ → A) → RefusesLarge largest (λ ns. held (fits ns largest) (of ns))
large largest of ns i above = fails (fits ns largest) (of ns) (λ fit. let below = fits-at ns largest i fit in omega (arith, below, above))

-- a list, as its elements one by one and what stands behind them
abbrev front_of : ℕ → ℕ → List ℕ → List ℕ → List ℕ
front_of from zero ns behind = behind
front_of from (suc n) ns behind = get_or ns from 0 ∷ front_of (suc from) n ns behind

later-front : (n from x : ℕ) (ns behind : List ℕ) → front_of (suc from) n (x ∷ ns) behind ≡ front_of from n ns behind
later-front zero from x ns behind = refl
later-front (suc n) from x ns behind = ap (λ rest. get_or ns from 0 ∷ rest) (later-front n (suc from) x ns behind)

front : (n : ℕ) (ns : List ℕ) → n ≤ length ns → front_of 0 n ns (drop n ns) ≡ ns
front zero ns h = refl
front (suc n) [] h = absurd (omega (arith, h))
front (suc n) (x ∷ ns) h = ap (λ rest. x ∷ rest) (later-front n 0 x ns (drop n ns) ∙ front n ns (omega arith))

listed : (n : ℕ) (ns : List ℕ) → length ns ≡ n → front_of 0 n ns [] ≡ ns
listed n ns e = ap (front_of 0 n ns) (sym (drop_of_length-le ns {i = n} (omega arith))) ∙ front n ns (omega arith)

-- flags and kinds
flag-back : (n : ℕ) → n ≤ 1 → flag_number (is_there n) ≡ n
flag-back zero h = refl
flag-back (suc zero) h = refl
flag-back (suc (suc n)) h = absurd (omega (arith, h))

flag-there : (b : Bool) → is_there (flag_number b) ≡ b
flag-there true = refl
flag-there false = refl

kind-back : (kind value : ℕ) → kind ≤ 1 → kind_of (channel_of kind value) ≡ kind
kind-back zero value h = refl
kind-back (suc zero) value h = refl
kind-back (suc (suc n)) value h = absurd (omega (arith, h))

word_back : (kind value : ℕ) → kind ≤ 1 → word_of (channel_of kind value) ≡ value
word_back zero value h = refl
word_back (suc zero) value h = refl
word_back (suc (suc n)) value h = absurd (omega (arith, h))

channel-there : (c : DataPathChannel) → channel_of (kind_of c) (word_of c) ≡ c
channel-there (DataPathChannel.SingleChannel channel) = refl
channel-there (DataPathChannel.ChannelMap map) = refl

-- the 32 bytes at the end of a list
last-bytes : (k : ℕ) (ns : List ℕ) → length ns ≡ k + 32 → take 32 (drop k ns) ≡ drop k ns
last-bytes k ns e = take_all 32 (drop k ns) (rw (length-drop k ns) (omega arith))

data-path-back : (ns : List ℕ) → length ns ≡ 44 → data_path_fits ns ≡ true → data_path_numbers (data_path_of ns) ≡ ns
data-path-back ns e f = same ∙ listed 44 ns e
  where
    below : (i : ℕ) → get_or ns i 0 ≤ get_or data_path_largest i 0
    below i = fits-at ns data_path_largest i (both (fits ns data_path_largest) _ f).0

    same : data_path_numbers (data_path_of ns) ≡ front_of 0 44 ns []
    same =
        λ i. get_or ns 0 0 ∷ (flag-back (get_or ns 1 0) (below 1)) i ∷ get_or ns 2 0 ∷ get_or ns 3 0 ∷ get_or ns 4 0 ∷
        (flag-back (get_or ns 5 0) (below 5)) i ∷ (kind-back (get_or ns 6 0) (get_or ns 7 0) (below 6)) i ∷
        (word_back (get_or ns 6 0) (get_or ns 7 0) (below 6)) i ∷ (flag-back (get_or ns 8 0) (below 8)) i ∷ (get_or-drop 9 ns 0 0) i ∷
        (get_or-drop 9 ns 1 0) i ∷ (get_or-drop 9 ns 2 0) i ∷ (get_or-drop 9 ns 3 0) i ∷ (get_or-drop 9 ns 4 0) i ∷ (get_or-drop 9 ns 5 0) i ∷
        get_or ns 15 0 ∷ (flag-back (get_or ns 16 0) (below 16)) i ∷ (get_or-drop 17 ns 0 0) i ∷ (get_or-drop 17 ns 1 0) i ∷
        (get_or-drop 17 ns 2 0) i ∷ (get_or-drop 17 ns 3 0) i ∷ (get_or-drop 17 ns 4 0) i ∷ (get_or-drop 17 ns 5 0) i ∷
        (flag-back (get_or ns 23 0) (below 23)) i ∷ (get_or-drop 24 ns 0 0) i ∷ (get_or-drop 24 ns 1 0) i ∷ (get_or-drop 24 ns 2 0) i ∷
        (get_or-drop 24 ns 3 0) i ∷ (get_or-drop 24 ns 4 0) i ∷ (get_or-drop 24 ns 5 0) i ∷ (flag-back (get_or ns 30 0) (below 30)) i ∷
        get_or ns 31 0 ∷ (flag-back (get_or ns 32 0) (below 32)) i ∷ get_or ns 33 0 ∷ (flag-back (get_or ns 34 0) (below 34)) i ∷ get_or ns 35 0 ∷
        (flag-back (get_or ns 36 0) (below 36)) i ∷ get_or ns 37 0 ∷ (flag-back (get_or ns 38 0) (below 38)) i ∷ get_or ns 39 0 ∷
        (flag-back (get_or ns 40 0) (below 40)) i ∷ get_or ns 41 0 ∷ get_or ns 42 0 ∷ get_or ns 43 0 ∷ []

-- a field that may be absent, by its flag and its value
optional-there : {A : Type 0} (o : Optional A) → record { present = is_there (flag_number o.present); value = o.value } ≡ o
optional-there o = λ i. record { present = (flag-there o.present) i; value = o.value }

data-path-there : (r : DataPathStateTLV) → data_path_of (data_path_numbers r) ≡ r
data-path-there r =
    λ i. record {
      flags = r.flags;
      country_code = (optional-there r.country_code) i;
      channel_map = record { present = (flag-there r.channel_map.present) i; value = (channel-there r.channel_map.value) i };
      infra_bssid_channel = (optional-there r.infra_bssid_channel) i;
      infra_address = (optional-there r.infra_address) i;
      awdl_address = (optional-there r.awdl_address) i;
      unicast_options = (optional-there r.unicast_options) i;
      unicast_options_ext = (optional-there r.unicast_options_ext) i;
      extended_flags = (optional-there r.extended_flags) i;
      rlfc = (optional-there r.rlfc) i;
      log_trigger_id = (optional-there r.log_trigger_id) i;
      stats = (optional-there r.stats) i;
    }

data-path-large : RefusesLarge data_path_largest data_path_in
data-path-large ns i above =
    fails (data_path_fits ns) (data_path_of ns) (λ fit. let below = fits-at ns data_path_largest i (both (fits ns data_path_largest) _ fit).0 in omega (arith, below, above))

-- what a refusal lays down
readers : {A : Type 0} (numbers_of : A → List ℕ) (none : A) (at : ℕ) (m : Reading A) (n offset size : ℕ) (after : List ℕ)
    → ToldReading numbers_of (outcome none at m) n offset size after → ¬ (n ≡ 0) → (size ≡ 0) × (after ≡ numbers_of none)
readers numbers_of none at (read a next) n offset size after t refusing = absurd (refusing t.outcome.number)
readers numbers_of none at (refused why) n offset size after t refusing = (t.outcome.size, t.numbers)

makers : {A : Type 0} (numbers_of : A → List ℕ) (none : A) (m : Answer A) (n : ℕ) (after : List ℕ) → ToldRecord numbers_of (reply none m) n after → ¬ (n ≡ 0) → after ≡ numbers_of none
makers numbers_of none (answer a) n after t refusing = absurd (refusing t.number)
makers numbers_of none (refusal why) n after t refusing = t.numbers

numbers : (m : Answer ℕ) (n value : ℕ) → ToldNumber (reply 0 m) n value → ¬ (n ≡ 0) → value ≡ 0
numbers (answer v) n value t refusing = absurd (refusing t.number)
numbers (refusal why) n value t refusing = t.value

writers : (s : List ℕ) (bytes : Answer (List ℕ)) (n size : ℕ) (after : List ℕ) → ToldWriting s bytes n size after → ¬ (n ≡ 0) → (size ≡ 0) × (after ≡ s)
writers s (refusal why) n size after t refusing = (t.size, t.buffer)
writers s (answer bytes) n size after t refusing = go (leb (length bytes) (length s)) refl
  where
    go : (b : Bool) → leb (length bytes) (length s) ≡ b → (size ≡ 0) × (after ≡ s)
    go true e = absurd (refusing (rw e at t.number))
    go false e = (rw e at t.size, rw e at t.buffer)

-- sequences
sequence-there : (q : ChannelSequence) → length q.bytes ≡ 32 → X.sequence_of (X.sequence_numbers q) ≡ q
sequence-there q e = λ i. record { encoding = q.encoding; bytes = (take_all 32 q.bytes (omega (arith, e))) i }

sequence-back : (ns : List ℕ) → length ns ≡ 33 → X.sequence_numbers (X.sequence_of ns) ≡ ns
sequence-back ns e = ap (λ bytes. get_or ns 0 0 ∷ bytes) (last-bytes 1 ns e) ∙ front 1 ns (omega arith)

-- a sequence that stands behind some fields
sequence-behind : (k : ℕ) (ns : List ℕ) → length ns ≡ k + 33 → X.sequence_numbers (X.sequence_of (drop k ns)) ≡ drop k ns
sequence-behind k ns e = sequence-back (drop k ns) (rw (length-drop k ns) (omega arith))

channel-sequence-back : (ns : List ℕ) → length ns ≡ 36 → X.channel_sequence_numbers (X.channel_sequence_of ns) ≡ ns
channel-sequence-back ns e = ap (λ rest. get_or ns 0 0 ∷ get_or ns 1 0 ∷ get_or ns 2 0 ∷ rest) (sequence-behind 3 ns e) ∙ front 3 ns (omega arith)

channel-sequence-behind : (k : ℕ) (ns : List ℕ) → length ns ≡ k + 36 → X.channel_sequence_numbers (X.channel_sequence_of (drop k ns)) ≡ drop k ns
channel-sequence-behind k ns e = channel-sequence-back (drop k ns) (rw (length-drop k ns) (omega arith))

synchronization-back : (ns : List ℕ) → length ns ≡ 60 → synchronization_numbers (synchronization_of ns) ≡ ns
synchronization-back ns e = same ∙ front 24 ns (omega arith)
  where
    same : synchronization_numbers (synchronization_of ns) ≡ front_of 0 24 ns (drop 24 ns)
    same =
        λ i. get_or ns 0 0 ∷ get_or ns 1 0 ∷ get_or ns 2 0 ∷ get_or ns 3 0 ∷ get_or ns 4 0 ∷ get_or ns 5 0 ∷ get_or ns 6 0 ∷ get_or ns 7 0 ∷ get_or ns 8 0 ∷
        get_or ns 9 0 ∷ get_or ns 10 0 ∷ get_or ns 11 0 ∷ get_or ns 12 0 ∷ get_or ns 13 0 ∷ (get_or-drop 14 ns 0 0) i ∷ (get_or-drop 14 ns 1 0) i ∷
        (get_or-drop 14 ns 2 0) i ∷ (get_or-drop 14 ns 3 0) i ∷ (get_or-drop 14 ns 4 0) i ∷ (get_or-drop 14 ns 5 0) i ∷ get_or ns 20 0 ∷
        get_or ns 21 0 ∷ get_or ns 22 0 ∷ get_or ns 23 0 ∷ (channel-sequence-behind 24 ns e) i

synchronization-there : (p : SynchronizationParametersTLV) → length p.channel_sequence.channel_sequence.bytes ≡ 32 → synchronization_of (synchronization_numbers p) ≡ p
synchronization-there p e =
    let q = p.channel_sequence.channel_sequence in
    ap (λ sequence. with_its_sequence p sequence) (sequence-there q e)

-- numbers that pass are asked as their record, and what was asked as a record passed
accepts : {A : Type 0} (fit : Bool) (b a : A) → fit ≡ true → b ≡ a → held fit b ≡ answer a
accepts fit b a passed same = rw (passed, same)

accepted : {A : Type 0} (fit : Bool) (b a : A) → held fit b ≡ answer a → (fit ≡ true) × (b ≡ a)
accepted true b a e = (refl, cc)
accepted false b a e = absurd cc

pair : {a b : Bool} → a ≡ true → b ≡ true → a && b ≡ true
pair p q = rw (p, q)

bytes_fit : (bytes : List ℕ) (n : ℕ) → length bytes ≡ n → ((i : ℕ) → get_or bytes i 0 < 256) → fits bytes (octets n) ≡ true
bytes_fit [] n e small = refl
bytes_fit (b ∷ bytes) zero e small = absurd (omega (arith, e))
bytes_fit (b ∷ bytes) (suc n) e small = pair (le-leb b 255 (omega (arith, small 0))) (bytes_fit bytes n (omega arith) (λ i. small (suc i)))

flag-fits : (b : Bool) → leb (flag_number b) 1 ≡ true
flag-fits true = refl
flag-fits false = refl

kind_fits : (c : DataPathChannel) → leb (kind_of c) 1 ≡ true
kind_fits (DataPathChannel.SingleChannel channel) = refl
kind_fits (DataPathChannel.ChannelMap map) = refl

channel-fits : (c : DataPathChannel) → ChannelInWidth c → channel_fits (kind_of c) (word_of c) ≡ true
channel-fits (DataPathChannel.SingleChannel channel) h = le-leb channel 255 (omega (arith, h))
channel-fits (DataPathChannel.ChannelMap map) h = refl

-- the first of some numbers in their widths, and the others
first : {width v : ℕ} {others : List (ℕ × ℕ)} → AllInWidth ((width, v) ∷ others) → v < 256 ^ width
first (one h rest) = h

others : {width v : ℕ} {rest : List (ℕ × ℕ)} → AllInWidth ((width, v) ∷ rest) → AllInWidth rest
others (one h rest) = rest

frame-fits : (f : AWDLActionFrame) → F.InWidth f → fits (frame_numbers f) frame_largest ≡ true
frame-fits f w = let a = w.subtype in let b = w.reserved in let c = w.phy in let d = w.target in grind arith

data-path-fits : (r : DataPathStateTLV) → DataPathInWidth r → data_path_fits (data_path_numbers r) ≡ true
data-path-fits r w = pair numbers_fit (channel-fits r.channel_map.value w.channel)
  where
    numbers_fit : fits (data_path_numbers r) data_path_largest ≡ true
    numbers_fit =
        let g = w.ranges in
        pair (le-leb r.flags.0 65535 (omega (arith, g.flags)))
        (pair (flag-fits r.country_code.present)
        (pair (le-leb r.country_code.value.first 255 (omega (arith, g.first)))
        (pair (le-leb r.country_code.value.second 255 (omega (arith, g.second)))
        (pair (le-leb r.country_code.value.pad 255 (omega (arith, g.pad)))
        (pair (flag-fits r.channel_map.present)
        (pair (kind_fits r.channel_map.value)
        (pair (le-leb (word_of r.channel_map.value) 65535 (omega (arith, g.channel)))
        (pair (flag-fits r.infra_bssid_channel.present)
        (pair (le-leb r.infra_bssid_channel.value.bssid.0 255 (omega (arith, g.bssid 0)))
        (pair (le-leb r.infra_bssid_channel.value.bssid.1 255 (omega (arith, g.bssid 1)))
        (pair (le-leb r.infra_bssid_channel.value.bssid.2 255 (omega (arith, g.bssid 2)))
        (pair (le-leb r.infra_bssid_channel.value.bssid.3 255 (omega (arith, g.bssid 3)))
        (pair (le-leb r.infra_bssid_channel.value.bssid.4 255 (omega (arith, g.bssid 4)))
        (pair (le-leb r.infra_bssid_channel.value.bssid.5 255 (omega (arith, g.bssid 5)))
        (pair (le-leb r.infra_bssid_channel.value.channel 65535 (omega (arith, g.infra)))
        (pair (flag-fits r.infra_address.present)
        (pair (le-leb r.infra_address.value.0 255 (omega (arith, g.address 0)))
        (pair (le-leb r.infra_address.value.1 255 (omega (arith, g.address 1)))
        (pair (le-leb r.infra_address.value.2 255 (omega (arith, g.address 2)))
        (pair (le-leb r.infra_address.value.3 255 (omega (arith, g.address 3)))
        (pair (le-leb r.infra_address.value.4 255 (omega (arith, g.address 4)))
        (pair (le-leb r.infra_address.value.5 255 (omega (arith, g.address 5)))
        (pair (flag-fits r.awdl_address.present)
        (pair (le-leb r.awdl_address.value.0 255 (omega (arith, g.awdl 0)))
        (pair (le-leb r.awdl_address.value.1 255 (omega (arith, g.awdl 1)))
        (pair (le-leb r.awdl_address.value.2 255 (omega (arith, g.awdl 2)))
        (pair (le-leb r.awdl_address.value.3 255 (omega (arith, g.awdl 3)))
        (pair (le-leb r.awdl_address.value.4 255 (omega (arith, g.awdl 4)))
        (pair (le-leb r.awdl_address.value.5 255 (omega (arith, g.awdl 5)))
        (pair (flag-fits r.unicast_options.present)
        (pair (le-leb r.unicast_options.value.0 4294967295 (omega (arith, g.options)))
        (pair (flag-fits r.unicast_options_ext.present)
        (pair (le-leb r.unicast_options_ext.value 4294967295 (omega (arith, g.ext)))
        (pair (flag-fits r.extended_flags.present)
        (pair (le-leb r.extended_flags.value.0 65535 (omega (arith, g.extended)))
        (pair (flag-fits r.rlfc.present)
        (pair (le-leb r.rlfc.value 4294967295 (omega (arith, g.rlfc)))
        (pair (flag-fits r.log_trigger_id.present)
        (pair (le-leb r.log_trigger_id.value 65535 (omega (arith, g.trigger)))
        (pair (flag-fits r.stats.present)
        (pair (le-leb r.stats.value.msec_since_activation 4294967295 (omega (arith, g.msec)))
        (pair (le-leb r.stats.value.aw_seq_counter 4294967295 (omega (arith, g.aw)))
        (pair (le-leb r.stats.value.pay_update_coutner 4294967295 (omega (arith, g.pay)))
        (refl))))))))))))))))))))))))))))))))))))))))))))

sequence-fits : (q : ChannelSequence) → SequenceInWidth q → fits (X.sequence_numbers q) (octets 33) ≡ true
sequence-fits q w = pair (le-leb q.encoding 255 (omega (arith, w.encoding))) (bytes_fit q.bytes 32 w.many w.small)

-- its own width has the encoding among the numbers
channel-sequence-fits : (c : ChannelSequenceTLV) → AllInWidth (C.numbers c) → SequenceInWidth c.channel_sequence → fits (X.channel_sequence_numbers c) X.channel_sequence_largest ≡ true
channel-sequence-fits c w q =
    let duplicate = others w in
    let step = others duplicate in
    pair (le-leb c.duplicate_count 255 (omega (arith, first duplicate)))
    (pair (le-leb c.step_count 255 (omega (arith, first step)))
    (pair (le-leb c.fill_channel 65535 (omega (arith, first (others step)))) (sequence-fits c.channel_sequence q)))

synchronization-fits : (p : SynchronizationParametersTLV) → SynchronizationInWidth p → fits (synchronization_numbers p) synchronization_largest ≡ true
synchronization-fits p w =
    let w0 = w.numbers in
    let w1 = others w0 in
    let w2 = others w1 in
    let w3 = others w2 in
    let w4 = others w3 in
    let w5 = others w4 in
    let w6 = others w5 in
    let w7 = others w6 in
    let w8 = others w7 in
    let w9 = others w8 in
    let w10 = others w9 in
    let w11 = others w10 in
    let w12 = others w11 in
    let w13 = others w12 in
    let w14 = others w13 in
    let w15 = others w14 in
    let w16 = others w15 in
    let w17 = others w16 in
    let w18 = others w17 in
    pair (le-leb p.next_channel 255 (omega (arith, first w0)))
    (pair (le-leb p.tx_counter 65535 (omega (arith, first w1)))
    (pair (le-leb p.master_channel 255 (omega (arith, first w2)))
    (pair (le-leb p.guard_time 255 (omega (arith, first w3)))
    (pair (le-leb p.aw_period 65535 (omega (arith, first w4)))
    (pair (le-leb p.af_period 65535 (omega (arith, first w5)))
    (pair (le-leb p.awdl_flags 65535 (omega (arith, first w6)))
    (pair (le-leb p.aw_ext_length 65535 (omega (arith, first w7)))
    (pair (le-leb p.aw_common_length 65535 (omega (arith, first w8)))
    (pair (le-leb p.remaining_aw_length 65535 (omega (arith, first w9)))
    (pair (le-leb p.min_ext_count 255 (omega (arith, first w10)))
    (pair (le-leb p.max_multicast_ext_count 255 (omega (arith, first w11)))
    (pair (le-leb p.max_unicast_ext_count 255 (omega (arith, first w12)))
    (pair (le-leb p.max_af_ext_count 255 (omega (arith, first w13)))
    (pair (le-leb p.master_address.0 255 (omega (arith, w.address 0)))
    (pair (le-leb p.master_address.1 255 (omega (arith, w.address 1)))
    (pair (le-leb p.master_address.2 255 (omega (arith, w.address 2)))
    (pair (le-leb p.master_address.3 255 (omega (arith, w.address 3)))
    (pair (le-leb p.master_address.4 255 (omega (arith, w.address 4)))
    (pair (le-leb p.master_address.5 255 (omega (arith, w.address 5)))
    (pair (le-leb p.presence_mode 255 (omega (arith, first w14)))
    (pair (le-leb p.reserved 255 (omega (arith, first w15)))
    (pair (le-leb p.aw_seq_number 65535 (omega (arith, first w16)))
    (pair (le-leb p.ap_beacon_alignment_delta 65535 (omega (arith, first w17)))
    (channel-sequence-fits p.channel_sequence w18 w.sequence))))))))))))))))))))))))

-- a record by its numbers, of any kind: its test is passed, it comes back, and its numbers are those that were asked
as-numbers : {A : Type 0} {InWidth : A → Type 0} (many : ℕ) (largest : List ℕ) (fit : List ℕ → Bool) (numbers_of : A → List ℕ) (of : List ℕ → A) (none : A)
    → ((a : A) → InWidth a → fit (numbers_of a) ≡ true) → ((a : A) → InWidth a → of (numbers_of a) ≡ a)
    → ((ns : List ℕ) → length ns ≡ many → fit ns ≡ true → numbers_of (of ns) ≡ ns)
    → RefusesLarge largest (λ ns. held (fit ns) (of ns)) → numbers_of none ≡ replicate many 0
    → AsNumbers InWidth many largest numbers_of (λ ns. held (fit ns) (of ns)) none
as-numbers many largest fit numbers_of of none passes comes_back its_own refuses zeros =
    record {
      there = λ a w. accepts (fit (numbers_of a)) (of (numbers_of a)) a (passes a w) (comes_back a w);
      back = λ ns a e asked. let found = accepted (fit ns) (of ns) a asked in ap numbers_of (sym found.1) ∙ its_own ns e found.0;
      large = refuses;
      zero = zeros;
    }

-- what is asked of it goes on from there
asks : {A B : Type 0} {InWidth : A → Type 0} {many : ℕ} {largest : List ℕ} {numbers_of : A → List ℕ} {asked : List ℕ → Answer A} {none : A} (below : A → Answer B)
    → AsNumbers InWidth many largest numbers_of asked none → Asks InWidth largest numbers_of (λ ns. asked ns >>= below) below
asks below n =
    record { same = λ a w. ap (λ x. x >>= below) (n.there a w); large = λ ns i above. ap (λ x. x >>= below) (n.large ns i above) }

flagged-asks : {A : Type 0} {InWidth : A → Type 0} {largest : List ℕ} {numbers_of : A → List ℕ} {asked : List ℕ → Answer Bool} {below : A → Answer Bool}
    → Asks InWidth largest numbers_of asked below → Asks InWidth largest numbers_of (λ ns. flagged (asked ns)) (λ a. flagged (below a))
flagged-asks n = record { same = λ a w. ap flagged (n.same a w); large = λ ns i above. ap flagged (n.large ns i above) }

asks-byte : {B : Type 0} (below : ℕ → Answer B) → AsksByte (λ n. held (leb n 255) n >>= below) below
asks-byte below = record { same = λ n h. rw (le-leb n 255 (omega (arith, h))); large = λ n h. rw (lt-leb n 255 h) }

frame-numbers : AsNumbers F.InWidth 4 frame_largest frame_numbers (λ ns. held (fits ns frame_largest) (frame_of ns)) F.zero_frame
frame-numbers = as-numbers 4 frame_largest (λ ns. fits ns frame_largest) frame_numbers frame_of F.zero_frame frame-fits (λ f w. refl) (λ ns e f. listed 4 ns e) (large frame_largest frame_of) refl

data-path-numbers : AsNumbers DataPathInWidth 44 data_path_largest data_path_numbers data_path_in zero_data_path
data-path-numbers = as-numbers 44 data_path_largest data_path_fits data_path_numbers data_path_of zero_data_path data-path-fits (λ r w. data-path-there r) data-path-back data-path-large refl

entry-numbers : AsNumbers EntryInWidth 3 (octets 3) X.channel_numbers X.channel_in zero_channel
entry-numbers =
    as-numbers 3 (octets 3) (λ ns. fits ns (octets 3)) X.channel_numbers X.channel_of zero_channel
    (λ c w. let a = w.encoding in let b = w.first in let d = w.second in grind arith)
    (λ c w. refl) (λ ns e f. listed 3 ns e) (large (octets 3) X.channel_of) refl

sequence-numbers : AsNumbers SequenceInWidth 33 (octets 33) X.sequence_numbers X.sequence_in Q.zero_sequence
sequence-numbers =
    as-numbers 33 (octets 33) (λ ns. fits ns (octets 33)) X.sequence_numbers X.sequence_of Q.zero_sequence
    sequence-fits (λ q w. sequence-there q w.many) (λ ns e f. sequence-back ns e) (large (octets 33) X.sequence_of) refl

channel-sequence-numbers : AsNumbers ChannelSequenceInWidth 36 X.channel_sequence_largest X.channel_sequence_numbers X.channel_sequence_in C.zero_channel_sequence
channel-sequence-numbers =
    as-numbers 36 X.channel_sequence_largest (λ ns. fits ns X.channel_sequence_largest) X.channel_sequence_numbers X.channel_sequence_of C.zero_channel_sequence
    (λ c w. channel-sequence-fits c w.numbers w.sequence) (λ c w. ap (with_sequence c) (sequence-there c.channel_sequence w.sequence.many))
    (λ ns e f. channel-sequence-back ns e) (large X.channel_sequence_largest X.channel_sequence_of) refl

synchronization-numbers : AsNumbers SynchronizationInWidth 60 synchronization_largest synchronization_numbers synchronization_in zero_synchronization
synchronization-numbers =
    as-numbers 60 synchronization_largest (λ ns. fits ns synchronization_largest) synchronization_numbers synchronization_of zero_synchronization
    synchronization-fits (λ p w. synchronization-there p w.sequence.many) (λ ns e f. synchronization-back ns e) (large synchronization_largest synchronization_of) refl

single-large : (ns : List ℕ) → get_or ns 6 0 ≡ 0 → 255 < get_or ns 7 0 → data_path_in ns ≡ refusal Inconsistent
single-large ns kind above = fails (data_path_fits ns) (data_path_of ns) (λ fit. let fitting = (both (fits ns data_path_largest) _ fit).1 in false≢true (sym (rw (kind, lt-leb (get_or ns 7 0) 255 above)) ∙ fitting))

placed : (m : Answer ℕ) (n offset value : ℕ) → ToldPlaced (reply 0 m) n offset value → ¬ (n ≡ 0) → value ≡ 0
placed (answer v) n offset value t refusing = absurd (refusing t.number)
placed (refusal why) n offset value t refusing = t.value

hops : (m : Answer Hop) (n there : ℕ) (after : List ℕ) → ToldHop (reply nothing m) n there after → ¬ (n ≡ 0) → (there ≡ 0) × (after ≡ X.channel_numbers zero_channel)
hops (answer h) n there after t refusing = absurd (refusing t.number)
hops (refusal why) n there after t refusing = (t.found, t.numbers)

pub other-languages : OtherLanguages
other-languages =
    record {
      frame = frame-numbers;
      data-path = data-path-numbers;
      channel = entry-numbers;
      sequence = sequence-numbers;
      channel-sequence = channel-sequence-numbers;
      synchronization = synchronization-numbers;
      single-channel = single-large;
      synchronization-order = refl;
      data-path-order = refl;
      frame-bytes = λ tail. asks (λ f. answer (F.bytes_of f tail)) frame-numbers;
      data-path-consistent = asks (λ d. answer (flag_number (consistent d))) data-path-numbers;
      data-path-mended = asks (λ d. answer (mended d)) data-path-numbers;
      data-path-size = asks D.size_of data-path-numbers;
      data-path-bytes = asks D.bytes_of data-path-numbers;
      corrected-channel = asks corrected entry-numbers;
      sequence-consistent = flagged-asks (asks Q.consistent sequence-numbers);
      sequence-size = asks Q.size_of sequence-numbers;
      sequence-bytes = asks Q.bytes_of sequence-numbers;
      sequence-entry = λ n. asks (λ q. hop_at q n) sequence-numbers;
      sequence-simple = asks to_simple sequence-numbers;
      channel-sequence-consistent = flagged-asks (asks C.consistent channel-sequence-numbers);
      channel-sequence-size = asks C.size_of channel-sequence-numbers;
      channel-sequence-bytes = asks C.bytes_of channel-sequence-numbers;
      synchronization-consistent = flagged-asks (asks S.consistent synchronization-numbers);
      synchronization-size = asks S.size_of synchronization-numbers;
      synchronization-bytes = asks S.bytes_of synchronization-numbers;
      item-bytes = λ value. asks-byte (λ t. item_bytes t value);
      judgement = λ sequences permitted. asks-byte (judged sequences permitted);
      load = λ sequences. asks-byte (load_in sequences);
      sequence-read = λ n s at h. rw (le-leb n 255 (omega (arith, h)));
      sequence-read-large = λ n s at h. rw (lt-leb n 255 h);
      readers = readers;
      writers = writers;
      makers = makers;
      numbers = numbers;
      placed = placed;
      hops = hops;
      reading-once = λ numbers_of o n m p q size bytes after last t u. (t.outcome.number ∙ sym u.outcome.number, t.outcome.offset ∙ sym u.outcome.offset, t.outcome.size ∙ sym u.outcome.size, t.numbers ∙ sym u.numbers);
      number-once = λ r n m v w t u. (t.number ∙ sym u.number, t.value ∙ sym u.value);
      placed-once = λ r n m p q v w t u. (t.number ∙ sym u.number, t.offset ∙ sym u.offset, t.value ∙ sym u.value);
      record-once = λ numbers_of r n m after last t u. (t.number ∙ sym u.number, t.numbers ∙ sym u.numbers);
      writing-once = λ s bytes n m size laid after last t u. (t.number ∙ sym u.number, t.size ∙ sym u.size, t.buffer ∙ sym u.buffer);
      step-once = λ step n m after last t u. (t.number ∙ sym u.number, t.numbers ∙ sym u.numbers);
      search-once = λ numbers_of none s n m item it after last t u. (t.number ∙ sym u.number, t.item ∙ sym u.item, t.numbers ∙ sym u.numbers);
      hop-once = λ r n m there here after last t u. (t.number ∙ sym u.number, t.found ∙ sym u.found, t.numbers ∙ sym u.numbers);
    }
