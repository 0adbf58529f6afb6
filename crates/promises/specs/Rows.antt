-- The starred rows of the table of bytes at the edges, and rows for the reserved bytes and for legacy sequences: what each asks, and the whole answer to it.
use Rattle.std.specs.Prelude.{◌≡◌, ℕ, List, [], ◌∷◌, ◌++◌, length, replicate}
use Rattle.wire.specs.Reading.{Reading, read, refused}
use Rattle.wire.specs.Answer.{Answer, answer, refusal}
use Rattle.wire.specs.Outcomes.{Outcome, outcome, Reply, reply}
use Rattle.wire.specs.Writing.{within, length_of, afterwards}
use Rattle.channel_sequence.specs.declared.channel_sequence.ChannelSequence.{ChannelSequence}
use Rattle.channel_sequence.specs.Sequences as Q
use Rattle.channel_sequence.specs.Sequences.{zero_sequence, times}
use Rattle.channel_sequence.specs.Conversion.{to_simple}
use Rattle.channel_sequence_tlv.specs.declared.channel_sequence_tlv.ChannelSequenceTLV.{ChannelSequenceTLV}
use Rattle.channel_sequence_tlv.specs.SequenceTLVs as C
use Rattle.channel.specs.Channels.{corrected}
use Rattle.channel_judge.specs.Judging.{judged, proposed, load_in}
use Rattle.channel_judge.specs.Outcomes.{judged_reply}
use Rattle.data_path_words.specs.declared.misc.DataPathChannel.{DataPathChannel}
use Rattle.data_path_fields.specs.declared.fields.CountryCode.{CountryCode}
use Rattle.data_path_fields.specs.declared.optional.Optional.{Optional}
use Rattle.data_path_fields.specs.Optional.{some}
use Rattle.data_path_state.specs.declared.data_path_state_tlv.DataPathStateTLV.{DataPathStateTLV}
use Rattle.data_path_fields.specs.Fields.{no_country, no_channel, no_infra, no_address, no_options, no_word, no_extended_flags, no_trigger_id, no_stats}
use Rattle.data_path_state.specs.DataPath.{data_path}
use Rattle.data_path_state.specs.Bytes as D
use Rattle.data_path_state.specs.Outcomes.{zero_data_path}
use Rattle.tlv_items.specs.Walk.{Walk, whole, cut, walk}
use Rattle.action_frame.specs.declared.AWDLActionFrame.{AWDLActionFrame}
use Rattle.action_frame.specs.Frames as F
use Rattle.action_frame.specs.Frames.{header, tail_of, zero_frame}
use Rattle.synchronization_parameters.specs.declared.synchronization_parameters_tlv.SynchronizationParametersTLV.{SynchronizationParametersTLV}
use Rattle.synchronization_parameters.specs.SynchronizationReader.{synchronization, zero_synchronization}
use Rattle.synchronization_parameters.specs.SynchronizationBytes as S
use Rattle.promises.specs.WhichChannel.{laid}

-- what is written of what is read
abbrev pub read_and_written : {A : Type 0} → (A → Answer (List ℕ)) → Reading A → Answer (List ℕ)
read_and_written bytes_of (read r size) = bytes_of r
read_and_written bytes_of (refused why) = refusal why

-- what a writer answers, and the buffer that was lent to it
pub record AnswerAndBuffer : Type 0 where
  pub answered : Reply ℕ
  pub buffer : List ℕ

abbrev pub written_into : List ℕ → Answer (List ℕ) → AnswerAndBuffer
written_into s bytes =
    let size : Answer ℕ = within (length s) (length_of bytes) in record { answered = reply 0 size; buffer = afterwards s bytes size }

-- a record of type 0x12 that holds a sequence, and a synchronization record whose fixed bytes count up from 1, so that no two are alike
abbrev pub holding_sequence : ChannelSequence → ChannelSequenceTLV
holding_sequence q = record { duplicate_count = 0x00; step_count = 0x03; fill_channel = 0x0006; channel_sequence = q }

abbrev pub sync_holding : ChannelSequence → SynchronizationParametersTLV
sync_holding q =
    record {
      next_channel = 0x01;
      tx_counter = 0x0302;
      master_channel = 0x04;
      guard_time = 0x05;
      aw_period = 0x0706;
      af_period = 0x0908;
      awdl_flags = 0x0B0A;
      aw_ext_length = 0x0D0C;
      aw_common_length = 0x0F0E;
      remaining_aw_length = 0x1110;
      min_ext_count = 0x12;
      max_multicast_ext_count = 0x13;
      max_unicast_ext_count = 0x14;
      max_af_ext_count = 0x15;
      master_address = record { 0 = 0x16; 1 = 0x17; 2 = 0x18; 3 = 0x19; 4 = 0x1A; 5 = 0x1B };
      presence_mode = 0x1C;
      reserved = 0x1D;
      aw_seq_number = 0x1F1E;
      ap_beacon_alignment_delta = 0x2120;
      channel_sequence = holding_sequence q;
    }

-- sixteen legacy entries, of which the first has these flags and this channel
abbrev pub legacy_with : ℕ → ℕ → ChannelSequence
legacy_with flags channel = record { encoding = 1; bytes = flags ∷ channel ∷ replicate 30 0x24 }

pub data Row : Type 0 where
  value : List ℕ → Outcome DataPathStateTLV → Row
  again : List ℕ → Reply (List ℕ) → Row
  frame : List ℕ → Outcome AWDLActionFrame → Row
  frame_again : List ℕ → Reply (List ℕ) → Row
  sync_value : List ℕ → Outcome SynchronizationParametersTLV → Row
  sync_again : List ℕ → Reply (List ℕ) → Row
  tail : List ℕ → Walk → Row
  correction : ℕ → ℕ → Reply ℕ → Row
  sequence_into : ChannelSequence → List ℕ → AnswerAndBuffer → Row
  channel_sequence_into : ChannelSequence → List ℕ → AnswerAndBuffer → Row
  sync_into : ChannelSequence → List ℕ → AnswerAndBuffer → Row
  conversion : ChannelSequence → Reply ChannelSequence → Row
  judging : List ChannelSequence → List ℕ → ℕ → Reply ℕ → Row
  judging_lent : List ℕ → List ℕ → ℕ → Reply ℕ → Row
  proposing : List ChannelSequence → List ℕ → Reply ℕ → Row
  loading : List ChannelSequence → ℕ → Reply ℕ → Row

-- a data path value is read, or read and written again; so is a frame's header, written with its tail, and a synchronization value; a tail is
-- walked; the channel of legacy flags and a channel is corrected; a sequence is written into a buffer, by itself or in one of the two records that hold one;
-- a legacy sequence is converted; a proposal is judged, by sequences laid one behind the other or by bytes as they are lent, our own is asked for, and a load
abbrev pub Holds : Row → Type 0
Holds (value bytes expected) = outcome zero_data_path 0 (data_path bytes 0) ≡ expected
Holds (again bytes expected) = reply [] (read_and_written D.bytes_of (data_path bytes 0)) ≡ expected
Holds (frame bytes expected) = outcome zero_frame 0 (header bytes 0) ≡ expected
Holds (frame_again bytes expected) = reply [] (read_and_written (λ f. answer (F.bytes_of f (tail_of bytes))) (header bytes 0)) ≡ expected
Holds (sync_value bytes expected) = outcome zero_synchronization 0 (synchronization bytes 0) ≡ expected
Holds (sync_again bytes expected) = reply [] (read_and_written S.bytes_of (synchronization bytes 0)) ≡ expected
Holds (tail bytes expected) = walk bytes ≡ expected
Holds (correction flags channel expected) = reply 0 (corrected (record { encoding = 1; first = flags; second = channel })) ≡ expected
Holds (sequence_into q s expected) = written_into s (Q.bytes_of q) ≡ expected
Holds (channel_sequence_into q s expected) = written_into s (C.bytes_of (holding_sequence q)) ≡ expected
Holds (sync_into q s expected) = written_into s (S.bytes_of (sync_holding q)) ≡ expected
Holds (conversion q expected) = reply zero_sequence (to_simple q) ≡ expected
Holds (judging sequences permitted proposal expected) = judged_reply (judged (laid sequences) permitted proposal) ≡ expected
Holds (judging_lent s permitted proposal expected) = judged_reply (judged s permitted proposal) ≡ expected
Holds (proposing sequences permitted expected) = reply 0 (proposed (laid sequences) permitted) ≡ expected
Holds (loading sequences channel expected) = reply 0 (load_in (laid sequences) channel) ≡ expected

abbrev pub AllHold : List Row → Type 0
AllHold [] = Unit {0}
AllHold (row ∷ rest) = Holds row × AllHold rest

-- a refusal of a number, with the zero record and size 0; number 1 goes with the offset of the field that does not fit
abbrev pub refused_with : {A : Type 0} → ℕ → A → Outcome A
refused_with n nothing = record { number = n; offset = 0; value = nothing; size = 0 }

abbrev pub short_at : {A : Type 0} → ℕ → A → Outcome A
short_at offset nothing = record { number = 1; offset = offset; value = nothing; size = 0 }

abbrev pub accepted_with : {A : Type 0} → A → ℕ → Outcome A
accepted_with a size = record { number = 0; offset = 0; value = a; size = size }

abbrev pub written : List ℕ → Reply (List ℕ)
written bytes = record { number = 0; offset = 0; value = bytes }

-- a record with these flags, country and channel, and nothing else
abbrev pub holding : ℕ → Optional CountryCode → Optional DataPathChannel → DataPathStateTLV
holding flags country channel =
    record {
      flags = record { 0 = flags };
      country_code = country;
      channel_map = channel;
      infra_bssid_channel = no_infra;
      infra_address = no_address;
      awdl_address = no_address;
      unicast_options = no_options;
      unicast_options_ext = no_word;
      extended_flags = no_extended_flags;
      rlfc = no_word;
      log_trigger_id = no_trigger_id;
      stats = no_stats;
    }

abbrev pub country_with : ℕ → ℕ → ℕ → Optional CountryCode
country_with first second pad = some (record { first = first; second = second; pad = pad })

abbrev pub single : ℕ → Optional DataPathChannel
single channel = some (DataPathChannel.SingleChannel channel)

abbrev pub map : ℕ → Optional DataPathChannel
map bits = some (DataPathChannel.ChannelMap (record { 0 = bits }))

unfoldable pub rows : List Row
rows =
    value (0x00 ∷ 0x00 ∷ []) (accepted_with zero_data_path 2)
    ∷ value (0x00 ∷ 0x01 ∷ 0x44 ∷ 0x45 ∷ []) (short_at 2 zero_data_path)
    ∷ value (0x00 ∷ 0x01 ∷ 0x44 ∷ 0x45 ∷ 0x00 ∷ []) (accepted_with (holding 0x0100 (country_with 0x44 0x45 0x00) no_channel) 5)
    ∷ value (0x00 ∷ 0x02 ∷ 0x24 ∷ 0x00 ∷ []) (accepted_with (holding 0x0200 no_country (single 36)) 4)
    ∷ value (0x00 ∷ 0x02 ∷ 0x24 ∷ 0x01 ∷ []) (accepted_with (holding 0x0200 no_country (single 36)) 4)
    ∷ again (0x00 ∷ 0x02 ∷ 0x24 ∷ 0x01 ∷ []) (written (0x00 ∷ 0x02 ∷ 0x24 ∷ 0x00 ∷ []))
    ∷ value (0x00 ∷ 0x02 ∷ 0xFF ∷ 0xFF ∷ []) (accepted_with (holding 0x0200 no_country (map 7)) 4)
    ∷ again (0x00 ∷ 0x02 ∷ 0xFF ∷ 0xFF ∷ []) (written (0x00 ∷ 0x02 ∷ 0x07 ∷ 0x00 ∷ []))
    ∷ value (0x00 ∷ 0x10 ∷ 0x05 ∷ 0x00 ∷ []) (refused_with 4 zero_data_path)
    ∷ again (0x00 ∷ 0x10 ∷ 0x04 ∷ 0x00 ∷ 0xFF ∷ 0xFF ∷ 0xFF ∷ 0xFF ∷ []) (written (0x00 ∷ 0x10 ∷ 0x04 ∷ 0x00 ∷ 0x6A ∷ 0xFE ∷ 0xFF ∷ 0xFF ∷ []))
    ∷ again (0x00 ∷ 0x80 ∷ 0x80 ∷ 0x00 ∷ []) (written (0x00 ∷ 0x80 ∷ 0x00 ∷ 0x00 ∷ []))
    ∷ frame (0x09 ∷ []) (refused_with 2 zero_frame)
    ∷ frame (0x08 ∷ []) (short_at 1 zero_frame)
    ∷ frame (0x08 ∷ 0x11 ∷ []) (refused_with 3 zero_frame)
    ∷ tail (0x0C ∷ 0x01 ∷ 0x00 ∷ []) (record { items = []; ending = cut 0 })
    ∷ tail (0x00 ∷ 0x00 ∷ 0x00 ∷ []) (record { items = record { at = 0; tlv_type = 0; length = 0 } ∷ []; ending = whole })
    ∷ correction 1 1 (record { number = 0; offset = 0; value = 255 })
    ∷ correction 2 254 (record { number = 0; offset = 0; value = 0 })
    ∷ []

-- a frame whose reserved byte is 0x81, with an item in its tail
abbrev pub reserved_frame : List ℕ
reserved_frame = 0x08 ∷ 0x10 ∷ 0x03 ∷ 0x81 ∷ 0x00 ∷ 0x01 ∷ 0x00 ∷ 0x00 ∷ 0x10 ∷ 0x00 ∷ 0x00 ∷ 0x00 ∷ 0x05 ∷ 0x00 ∷ 0x00 ∷ []

abbrev pub reserved_header : AWDLActionFrame
reserved_header = record { subtype = 0x03; reserved = 0x81; phy_tx_time = record { 0 = 0x0100 }; target_tx_time = record { 0 = 0x10 } }

-- the fixed bytes of `sync_holding`
abbrev pub fixed_thirty_three : List ℕ
fixed_thirty_three =
    0x01 ∷ 0x02 ∷ 0x03 ∷ 0x04 ∷ 0x05 ∷ 0x06 ∷ 0x07 ∷ 0x08 ∷ 0x09 ∷ 0x0A ∷ 0x0B ∷ 0x0C ∷ 0x0D ∷ 0x0E ∷ 0x0F ∷ 0x10
    ∷ 0x11 ∷ 0x12 ∷ 0x13 ∷ 0x14 ∷ 0x15 ∷ 0x16 ∷ 0x17 ∷ 0x18 ∷ 0x19 ∷ 0x1A ∷ 0x1B ∷ 0x1C ∷ 0x1D ∷ 0x1E ∷ 0x1F ∷ 0x20 ∷ 0x21 ∷ []

-- the six bytes of `holding_sequence`
abbrev pub six_bytes : ℕ → List ℕ
six_bytes encoding = 0x0F ∷ encoding ∷ 0x00 ∷ 0x03 ∷ 0x06 ∷ 0x00 ∷ []

-- a synchronization value with 16 entries of one byte
abbrev pub reserved_sync : List ℕ
reserved_sync = fixed_thirty_three ++ (six_bytes 0 ++ replicate 16 0x24)

-- sequences of channel 36: a simple one, and one of any encoding with two bytes an entry; and a legacy one whose flags, 100, are too large
abbrev pub simple36 : ChannelSequence
simple36 = record { encoding = 0; bytes = replicate 16 0x24 ++ replicate 16 0x00 }

abbrev pub pairs36 : ℕ → ChannelSequence
pairs36 encoding = record { encoding = encoding; bytes = replicate 32 0x24 }

abbrev pub large_flags : ChannelSequence
large_flags = record { encoding = 1; bytes = replicate 32 0x64 }

-- a byte that is not 0 as the pad of a country, and in the two reserved places: it is read, and written again as it stands
unfoldable pub reserved_rows : List Row
reserved_rows =
    value (0x00 ∷ 0x01 ∷ 0x44 ∷ 0x45 ∷ 0x81 ∷ []) (accepted_with (holding 0x0100 (country_with 0x44 0x45 0x81) no_channel) 5)
    ∷ again (0x00 ∷ 0x01 ∷ 0x44 ∷ 0x45 ∷ 0x81 ∷ []) (written (0x00 ∷ 0x01 ∷ 0x44 ∷ 0x45 ∷ 0x81 ∷ []))
    ∷ frame reserved_frame (accepted_with reserved_header 12)
    ∷ frame_again reserved_frame (written reserved_frame)
    ∷ sync_value reserved_sync (accepted_with (sync_holding simple36) 55)
    ∷ sync_again reserved_sync (written reserved_sync)
    ∷ []

-- a buffer, and what it is after a writer has put bytes into it, or has refused
abbrev pub lent : ℕ → List ℕ
lent room = replicate room 0xEE

abbrev pub filled_with : List ℕ → AnswerAndBuffer
filled_with bytes = record { answered = record { number = 0; offset = 0; value = length bytes }; buffer = bytes ++ (0xEE ∷ []) }

abbrev pub refused_into : ℕ → ℕ → AnswerAndBuffer
refused_into room n = record { answered = record { number = n; offset = 0; value = 0 }; buffer = lent room }

-- what a conversion gives of `legacy_with`, by its first channel
abbrev pub becomes : ℕ → Reply ChannelSequence
becomes channel = record { number = 0; offset = 0; value = record { encoding = 0; bytes = channel ∷ (replicate 15 0x24 ++ replicate 16 0x00) } }

abbrev pub not_converted : ℕ → Reply ChannelSequence
not_converted n = record { number = n; offset = 0; value = zero_sequence }

-- each encoding, and 2, which is none, into each writer, with one byte more than it needs; a legacy sequence also with flags that are too large, and into a buffer that
-- is one byte too short; a value that was read with one; then conversions: a first entry at each end of the channels, with each support channel; other encodings;
-- flags that are too large, also where the channel would leave
unfoldable pub legacy_rows : List Row
legacy_rows =
    sequence_into simple36 (lent 17) (filled_with (replicate 16 0x24))
    ∷ sequence_into (pairs36 1) (lent 33) (refused_into 33 18)
    ∷ sequence_into (pairs36 2) (lent 33) (refused_into 33 5)
    ∷ sequence_into (pairs36 3) (lent 33) (filled_with (replicate 32 0x24))
    ∷ sequence_into large_flags (lent 33) (refused_into 33 18)
    ∷ sequence_into (pairs36 1) (lent 31) (refused_into 31 18)
    ∷ channel_sequence_into simple36 (lent 23) (filled_with (six_bytes 0 ++ replicate 16 0x24))
    ∷ channel_sequence_into (pairs36 1) (lent 39) (refused_into 39 18)
    ∷ channel_sequence_into (pairs36 2) (lent 39) (refused_into 39 5)
    ∷ channel_sequence_into (pairs36 3) (lent 39) (filled_with (six_bytes 3 ++ replicate 32 0x24))
    ∷ channel_sequence_into large_flags (lent 39) (refused_into 39 18)
    ∷ channel_sequence_into (pairs36 1) (lent 37) (refused_into 37 18)
    ∷ sync_into simple36 (lent 56) (filled_with (fixed_thirty_three ++ (six_bytes 0 ++ replicate 16 0x24)))
    ∷ sync_into (pairs36 1) (lent 72) (refused_into 72 18)
    ∷ sync_into (pairs36 2) (lent 72) (refused_into 72 5)
    ∷ sync_into (pairs36 3) (lent 72) (filled_with (fixed_thirty_three ++ (six_bytes 3 ++ replicate 32 0x24)))
    ∷ sync_into large_flags (lent 72) (refused_into 72 18)
    ∷ sync_into (pairs36 1) (lent 70) (refused_into 70 18)
    ∷ sync_again (fixed_thirty_three ++ (six_bytes 1 ++ replicate 32 0x24)) (record { number = 18; offset = 0; value = [] })
    ∷ conversion (legacy_with 0 0) (becomes 0)
    ∷ conversion (legacy_with 0 1) (becomes 1)
    ∷ conversion (legacy_with 0 2) (becomes 2)
    ∷ conversion (legacy_with 0 253) (becomes 253)
    ∷ conversion (legacy_with 0 254) (becomes 254)
    ∷ conversion (legacy_with 0 255) (becomes 255)
    ∷ conversion (legacy_with 1 0) (not_converted 19)
    ∷ conversion (legacy_with 1 1) (not_converted 19)
    ∷ conversion (legacy_with 1 2) (becomes 0)
    ∷ conversion (legacy_with 1 253) (becomes 251)
    ∷ conversion (legacy_with 1 254) (becomes 252)
    ∷ conversion (legacy_with 1 255) (becomes 253)
    ∷ conversion (legacy_with 2 0) (becomes 2)
    ∷ conversion (legacy_with 2 1) (becomes 3)
    ∷ conversion (legacy_with 2 2) (becomes 4)
    ∷ conversion (legacy_with 2 253) (becomes 255)
    ∷ conversion (legacy_with 2 254) (not_converted 19)
    ∷ conversion (legacy_with 2 255) (not_converted 19)
    ∷ conversion (legacy_with 3 0) (becomes 0)
    ∷ conversion (legacy_with 3 1) (becomes 1)
    ∷ conversion (legacy_with 3 2) (becomes 2)
    ∷ conversion (legacy_with 3 253) (becomes 253)
    ∷ conversion (legacy_with 3 254) (becomes 254)
    ∷ conversion (legacy_with 3 255) (becomes 255)
    ∷ conversion simple36 (not_converted 5)
    ∷ conversion (pairs36 2) (not_converted 5)
    ∷ conversion (pairs36 3) (not_converted 5)
    ∷ conversion large_flags (not_converted 7)
    ∷ conversion (legacy_with 0x41 0) (not_converted 7)
    ∷ []

-- sequences that hop over one channel: simple ones, which may hold another in the bytes that they do not use, and those of pairs
abbrev pub simple_beside : ℕ → ℕ → ChannelSequence
simple_beside channel unused = record { encoding = 0; bytes = replicate 16 channel ++ replicate 16 unused }

abbrev pub simple_over : ℕ → ChannelSequence
simple_over channel = simple_beside channel 0

abbrev pub pairs_of : ℕ → ℕ → ℕ → ChannelSequence
pairs_of encoding one other = record { encoding = encoding; bytes = times 16 (one ∷ other ∷ []) }

abbrev pub unlisted : ChannelSequence
unlisted = pairs_of 2 36 36

abbrev pub accepting : Reply ℕ
accepting = record { number = 0; offset = 0; value = 0 }

abbrev pub refusing : ℕ → Reply ℕ
refusing n = record { number = n; offset = 0; value = 0 }

abbrev pub showing : ℕ → Reply ℕ
showing own = record { number = 30; offset = 0; value = own }

abbrev pub gives : ℕ → Reply ℕ
gives n = record { number = 0; offset = 0; value = n }

-- no sequence, one, and as many as there may be and one more; the same of channels; loads that are equal, and a list that names a channel again; legacy entries whose
-- correction lands on a channel of the list, also past either end; bytes that no entry uses; a last sequence of encoding 2 with nothing else wrong and with each
-- other thing wrong; slices that end inside a sequence
unfoldable pub judge_rows : List Row
judge_rows =
    judging [] (36 ∷ 40 ∷ []) 40 accepting
    ∷ proposing [] (36 ∷ 40 ∷ []) (gives 36)
    ∷ judging (replicate 1 (simple_over 36)) (36 ∷ 40 ∷ []) 40 accepting
    ∷ judging (replicate 1 (simple_over 36)) (36 ∷ 40 ∷ []) 36 (showing 40)
    ∷ judging (replicate 64 (simple_over 36)) (36 ∷ 40 ∷ []) 36 (showing 40)
    ∷ loading (replicate 64 (simple_over 36)) 36 (gives 1024)
    ∷ judging (replicate 65 (simple_over 36)) (36 ∷ 40 ∷ []) 40 (refusing 27)
    ∷ loading (replicate 65 (simple_over 36)) 36 (refusing 27)
    ∷ judging (replicate 1 (simple_over 36)) [] 36 (refusing 28)
    ∷ proposing (replicate 1 (simple_over 36)) [] (refusing 28)
    ∷ judging (replicate 1 (simple_over 36)) (36 ∷ []) 36 accepting
    ∷ judging (replicate 1 (simple_over 36)) (replicate 15 36 ++ (40 ∷ [])) 36 (showing 40)
    ∷ judging (replicate 1 (simple_over 36)) (replicate 16 36 ++ (40 ∷ [])) 40 (refusing 27)
    ∷ judging (replicate 1 (simple_over 36)) (36 ∷ 40 ∷ []) 44 (refusing 29)
    ∷ proposing (replicate 1 (simple_over 36)) (36 ∷ 44 ∷ 40 ∷ []) (gives 44)
    ∷ judging (replicate 1 (simple_over 36)) (36 ∷ 44 ∷ 40 ∷ []) 40 accepting
    ∷ proposing (simple_over 36 ∷ simple_over 40 ∷ []) (40 ∷ 36 ∷ 40 ∷ []) (gives 40)
    ∷ judging (simple_over 36 ∷ simple_over 40 ∷ simple_over 40 ∷ []) (40 ∷ 36 ∷ 40 ∷ []) 40 (showing 36)
    ∷ judging (replicate 1 (pairs_of 1 1 38)) (36 ∷ 38 ∷ []) 36 (showing 38)
    ∷ judging (replicate 1 (pairs_of 1 2 34)) (36 ∷ 34 ∷ []) 36 (showing 34)
    ∷ judging (replicate 1 (pairs_of 1 1 0)) (254 ∷ 0 ∷ []) 254 (showing 0)
    ∷ judging (replicate 1 (pairs_of 1 1 1)) (255 ∷ 1 ∷ []) 255 (showing 1)
    ∷ judging (replicate 1 (pairs_of 1 2 254)) (0 ∷ 254 ∷ []) 0 (showing 254)
    ∷ judging (replicate 1 (pairs_of 1 2 255)) (1 ∷ 255 ∷ []) 1 (showing 255)
    ∷ judging (replicate 1 (pairs_of 1 0xC1 38)) (36 ∷ 38 ∷ []) 36 (showing 38)
    ∷ judging (replicate 1 (pairs_of 3 36 40)) (36 ∷ 40 ∷ []) 36 (showing 40)
    ∷ judging (replicate 1 (simple_beside 36 40)) (36 ∷ 40 ∷ []) 36 (showing 40)
    ∷ judging (simple_over 36 ∷ unlisted ∷ []) (36 ∷ []) 36 (refusing 5)
    ∷ judging (replicate 64 (simple_over 36) ++ (unlisted ∷ [])) (36 ∷ []) 36 (refusing 27)
    ∷ judging (simple_over 36 ∷ unlisted ∷ []) (replicate 17 36) 36 (refusing 27)
    ∷ judging (simple_over 36 ∷ unlisted ∷ []) [] 36 (refusing 5)
    ∷ judging (simple_over 36 ∷ unlisted ∷ []) (36 ∷ 40 ∷ []) 44 (refusing 5)
    ∷ judging (simple_over 36 ∷ unlisted ∷ []) (36 ∷ 40 ∷ []) 36 (refusing 5)
    ∷ judging_lent (laid (replicate 1 (simple_over 36)) ++ (0 ∷ [])) (36 ∷ []) 36 (record { number = 1; offset = 33; value = 0 })
    ∷ judging_lent (laid (replicate 65 (simple_over 36)) ++ (2 ∷ [])) [] 36 (record { number = 1; offset = 2145; value = 0 })
    ∷ judging_lent (replicate 32 0) (36 ∷ []) 36 (record { number = 1; offset = 0; value = 0 })
    ∷ []
