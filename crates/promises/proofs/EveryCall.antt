-- Every public call is proved in its own crate, and the contract that it is proved to meet computes to the claim that stands here.
-- Assumes nothing.
use mathlib.Core.Path.{◌≡◌}
use Rattle.std.specs.Prelude.{Some}
use Prim.Native.Nat.{min}
use lib.ListN.{length, replicate}
use Rattle.wire.specs.Refusals.{number_of, offset_of, carried_channel}
use Rattle.wire.specs.Reading.{field}
use Rattle.wire.specs.ShortFields.{first_short}
use Rattle.wire.specs.Answer.{answer, place_of}
use Rattle.wire.specs.Numbers.{number, little_bytes}
use Rattle.wire.specs.Words.{word_by}
use Rattle.wire.specs.Addresses.{address, address_bytes}
use Rattle.wire.specs.Parts.{part_at}
use Rattle.wire.specs.Writing.{within, length_of, Put, Wrote}
use Rattle.wire.specs.Outcomes.{outcome, reply}
use Rattle.wire.specs.Said.{said, told}
use Rattle.text.specs.Text.{decimal, hex}
use Rattle.text.specs.Words.{decimal_of, hex_of}
use Rattle.text.specs.Into.{PutSaid, TellsSame}
use Rattle.channel.specs.Channels.{encoding_of, entry_size, size_of_encoding, kept_flags, support_channel, channel_bandwidth, band, corrected_in, corrected}
use Rattle.channel_sequence.specs.Sequences as Q
use Rattle.channel_sequence.specs.SequenceReader.{sequence}
use Rattle.channel_sequence.specs.Hops as H
use Rattle.channel_sequence.specs.Hops.{hop_at, said_entry}
use Rattle.channel_sequence.specs.Conversion.{to_simple}
use Rattle.channel_judge.specs.Judging.{judged, proposed, load_in}
use Rattle.channel_judge.specs.Outcomes.{judged_reply}
use Rattle.channel_sequence_tlv.specs.SequenceTLVs as C
use Rattle.channel_sequence_tlv.specs.SequenceTLVReader.{channel_sequence_record}
use Rattle.data_path_words.specs.Words.{has_any, extended_kept, options_kept, channel_of, word_of, zero_channel, channel_word, channel_bytes, extended_word, extended_bytes, options_word, options_bytes, stats, stats_bytes}
use Rattle.data_path_fields.specs.Fields.{country, country_bytes, infra, infra_bytes, head, body}
use Rattle.data_path_state.specs.DataPath.{data_path}
use Rattle.data_path_state.specs.Consistent.{consistent}
use Rattle.data_path_state.specs.Mended.{mended}
use Rattle.data_path_state.specs.Bytes as D
use Rattle.data_path_state.specs.Outcomes.{zero_data_path}
use Rattle.synchronization_parameters.specs.SynchronizationReader.{synchronization, zero_synchronization}
use Rattle.synchronization_parameters.specs.SynchronizationBytes as S
use Rattle.tlv_items.specs.Items.{step_at, value_of, value_start, value_at, value_start_at}
use Rattle.tlv_items.specs.Walk.{walk, end_report}
use Rattle.tlvs.specs.Search.{next_data_path, next_synchronization, next_channel_sequence}
use Rattle.tlv_items.specs.ItemBytes.{item_bytes}
use Rattle.tlv_items.specs.Said.{said_end}
use Rattle.tlvs.specs.Said.{said_found}
use Rattle.action_frame.specs.Frames as F
use Rattle.action_frame.specs.Frames.{header, tail_of}
use Rattle.action_frame.specs.Offsets.{offset_in_frame}
use Rattle.action_frame.specs.Stamps.{delta}
use Rattle.report.specs.Marks.{first_mark, stands_at}
use Rattle.report.specs.Shown.{Shows}
use Rattle.exports.specs.Frames.{frame_numbers, frame_bytes, item_bytes_in}
use Rattle.exports.specs.DataPaths.{data_path_numbers, data_path_consistent, data_path_mended, data_path_size, data_path_bytes}
use Rattle.exports.specs.Sequences as X
use Rattle.exports.specs.Synchronizations.{synchronization_numbers, synchronization_consistent, synchronization_size, synchronization_bytes}
use Rattle.exports.specs.Judging.{judged_in, load_of}
use Rattle.exports.specs.Told.{ToldReading, ToldNumber, ToldPlaced, ToldRecord, ToldWriting, ToldStep, ToldSearch, ToldHop}
use Rattle.wire.proofs as wire
use Rattle.wire.specs.contracts as wire-said
use Rattle.wire.proofs.value.U8Wire as u8s
use Rattle.wire.specs.contracts.value.U8Wire as u8s-said
use Rattle.wire.proofs.value.U16Wire as u16s
use Rattle.wire.specs.contracts.value.U16Wire as u16s-said
use Rattle.wire.proofs.value.U32Wire as u32s
use Rattle.wire.specs.contracts.value.U32Wire as u32s-said
use Rattle.wire.proofs.value.MACAddressWire as addresses
use Rattle.wire.specs.contracts.value.MACAddressWire as addresses-said
use Rattle.wire.proofs.refusal.Refusal as refusals
use Rattle.wire.specs.contracts.refusal.Refusal as refusals-said
use Rattle.text.proofs as text
use Rattle.text.specs.contracts as text-said
use Rattle.channel.proofs.channel.ChannelEncoding as encodings
use Rattle.channel.specs.contracts.channel.ChannelEncoding as encodings-said
use Rattle.channel.proofs.channel.ChannelEncodingTryFromU8 as encodings-named
use Rattle.channel.specs.contracts.channel.ChannelEncodingTryFromU8 as encodings-named-said
use Rattle.channel.proofs.channel.LegacyFlags as flags
use Rattle.channel.specs.contracts.channel.LegacyFlags as flags-said
use Rattle.channel.proofs.channel.Channel as channels
use Rattle.channel.specs.contracts.channel.Channel as channels-said
use Rattle.channel_sequence.proofs.channel_sequence.ChannelSequence as sequences
use Rattle.channel_sequence.specs.contracts.channel_sequence.ChannelSequence as sequences-said
use Rattle.channel_judge.proofs as judges
use Rattle.channel_judge.specs.contracts as judges-said
use Rattle.channel_sequence_tlv.proofs.channel_sequence_tlv.ChannelSequenceTLV as channel-sequences
use Rattle.channel_sequence_tlv.specs.contracts.channel_sequence_tlv.ChannelSequenceTLV as channel-sequences-said
use Rattle.data_path_words.proofs as bits
use Rattle.data_path_words.specs.contracts as bits-said
use Rattle.data_path_fields.proofs as fields
use Rattle.data_path_fields.specs.contracts as fields-said
use Rattle.data_path_fields.proofs.fields.CountryCodeWire as countries
use Rattle.data_path_fields.specs.contracts.fields.CountryCodeWire as countries-said
use Rattle.data_path_fields.proofs.fields.InfraBssidChannelWire as infras
use Rattle.data_path_fields.specs.contracts.fields.InfraBssidChannelWire as infras-said
use Rattle.data_path_state.proofs.data_path_state_tlv.DataPathStateTLV as data-paths
use Rattle.data_path_state.specs.contracts.data_path_state_tlv.DataPathStateTLV as data-paths-said
use Rattle.data_path_words.proofs.misc.DataPathChannelFromU16 as words
use Rattle.data_path_words.specs.contracts.misc.DataPathChannelFromU16 as words-said
use Rattle.data_path_words.proofs.misc.U16FromDataPathChannel as words-of
use Rattle.data_path_words.specs.contracts.misc.U16FromDataPathChannel as words-of-said
use Rattle.data_path_words.proofs.misc.DataPathChannelDefault as no-words
use Rattle.data_path_words.specs.contracts.misc.DataPathChannelDefault as no-words-said
use Rattle.data_path_words.proofs.misc.DataPathChannelWire as channel-words
use Rattle.data_path_words.specs.contracts.misc.DataPathChannelWire as channel-words-said
use Rattle.data_path_words.proofs.misc.UnicastOptionsWire as option-words
use Rattle.data_path_words.specs.contracts.misc.UnicastOptionsWire as option-words-said
use Rattle.data_path_words.proofs.misc.DataPathStatsWire as stat-words
use Rattle.data_path_words.specs.contracts.misc.DataPathStatsWire as stat-words-said
use Rattle.data_path_words.proofs.flags.DataPathExtendedFlagsWire as extended-words
use Rattle.data_path_words.specs.contracts.flags.DataPathExtendedFlagsWire as extended-words-said
use Rattle.data_path_words.proofs.misc.UnicastOptions as options
use Rattle.data_path_words.specs.contracts.misc.UnicastOptions as options-said
use Rattle.data_path_words.proofs.flags.DataPathExtendedFlags as extended
use Rattle.data_path_words.specs.contracts.flags.DataPathExtendedFlags as extended-said
use Rattle.synchronization_parameters.proofs.synchronization_parameters_tlv.SynchronizationParametersTLV as synchronizations
use Rattle.synchronization_parameters.specs.contracts.synchronization_parameters_tlv.SynchronizationParametersTLV as synchronizations-said
use Rattle.tlv_items.proofs as items
use Rattle.tlv_items.specs.contracts as items-said
use Rattle.tlvs.proofs as tlvs
use Rattle.tlvs.specs.contracts as tlvs-said
use Rattle.tlvs.proofs.search.DataPathStateTLVRecord as data-path-search
use Rattle.tlvs.specs.contracts.search.DataPathStateTLVRecord as data-path-search-said
use Rattle.tlvs.proofs.search.SynchronizationParametersTLVRecord as synchronization-search
use Rattle.tlvs.specs.contracts.search.SynchronizationParametersTLVRecord as synchronization-search-said
use Rattle.tlvs.proofs.search.ChannelSequenceTLVRecord as channel-sequence-search
use Rattle.tlvs.specs.contracts.search.ChannelSequenceTLVRecord as channel-sequence-search-said
use Rattle.tlvs.proofs.read_tlvs.ReadTLVs as readers
use Rattle.tlvs.specs.contracts.read_tlvs.ReadTLVs as readers-said
use Rattle.action_frame.proofs.AWDLActionFrame as frames
use Rattle.action_frame.specs.contracts.AWDLActionFrame as frames-said
use Rattle.action_frame.proofs as stamps
use Rattle.action_frame.specs.contracts as stamps-said
use Rattle.report.proofs as report
use Rattle.report.specs.contracts as report-said
use Rattle.exports.proofs as exports
use Rattle.exports.specs.contracts as exports-said
use Rattle.promises.specs.Calls.{Call}

-- In a claim, `a` are the call's arguments in their order, `r` is its answer, and `e` are the arguments as they are afterwards.
pub record EveryCall : Type 2 where
  -- numbers, fields and addresses, read from a place and put at one; a size that has to fit a room
  pub u8-read-at : Call u8s.read_at.Symbol.name u8s.read_at.Symbol.code u8s-said.read_at.ended
      (λ κs a r e. said r ≡ number 1 a.0.now a.1.0)
  pub u16-read-at : Call u16s.read_at.Symbol.name u16s.read_at.Symbol.code u16s-said.read_at.ended
      (λ κs a r e. said r ≡ number 2 a.0.now a.1.0)
  pub u32-read-at : Call u32s.read_at.Symbol.name u32s.read_at.Symbol.code u32s-said.read_at.ended
      (λ κs a r e. said r ≡ number 4 a.0.now a.1.0)
  pub address-read-at : Call addresses.read_at.Symbol.name addresses.read_at.Symbol.code addresses-said.read_at.ended
      (λ κs a r e. said r ≡ address a.0.now a.1.0)
  pub u8-put-at : Call u8s.put_at.Symbol.name u8s.put_at.Symbol.code u8s-said.put_at.ended
      (λ κs a r e. Put a.1.0.now a.1.1.0 (little_bytes 1 a.0) r e.1.0.now)
  pub u16-put-at : Call u16s.put_at.Symbol.name u16s.put_at.Symbol.code u16s-said.put_at.ended
      (λ κs a r e. Put a.1.0.now a.1.1.0 (little_bytes 2 a.0) r e.1.0.now)
  pub u32-put-at : Call u32s.put_at.Symbol.name u32s.put_at.Symbol.code u32s-said.put_at.ended
      (λ κs a r e. Put a.1.0.now a.1.1.0 (little_bytes 4 a.0) r e.1.0.now)
  pub address-put-at : Call addresses.put_at.Symbol.name addresses.put_at.Symbol.code addresses-said.put_at.ended
      (λ κs a r e. Put a.1.0.now a.1.1.0 (address_bytes a.0) r e.1.0.now)
  pub field_at : Call wire.field_at.Symbol.name wire.field_at.Symbol.code wire-said.field_at.ended
      (λ κs a r e. told r ≡ place_of (field a.1.1.0 a.0.now a.1.0))
  pub first-short : Call wire.first_short.Symbol.name wire.first_short.Symbol.code wire-said.first_short.ended
      (λ κs a r e. r ≡ first_short a.1.1.0.now a.0.now a.1.0)
  pub put-slice : Call wire.put_slice.Symbol.name wire.put_slice.Symbol.code wire-said.put_slice.ended
      (λ κs a r e. Put a.0.now a.1.0 a.1.1.0.now r e.0.now)
  pub within : Call wire.within.Symbol.name wire.within.Symbol.code wire-said.within.ended
      (λ κs a r e. told r ≡ within a.0 (told a.1.0))
  pub refusal-number : Call refusals.number.Symbol.name refusals.number.Symbol.code refusals-said.number.ended
      (λ κs a r e. r ≡ number_of a.0)
  pub refusal-offset : Call refusals.offset.Symbol.name refusals.offset.Symbol.code refusals-said.offset.ended
      (λ κs a r e. r ≡ offset_of a.0)
  pub refusal-channel : Call refusals.channel.Symbol.name refusals.channel.Symbol.code refusals-said.channel.ended
      (λ κs a r e. r ≡ carried_channel a.0)
  -- text: decimal and hex, put down and taken from a word
  pub text-put-decimal : Call text.put_decimal.Symbol.name text.put_decimal.Symbol.code text-said.put_decimal.ended
      (λ κs a r e. Put a.0.now a.1.0 (decimal a.1.1.0) r e.0.now)
  pub text-put-hex : Call text.put_hex.Symbol.name text.put_hex.Symbol.code text-said.put_hex.ended
      (λ κs a r e. Put a.0.now a.1.0 (hex a.1.1.0.now) r e.0.now)
  pub text-decimal-of : Call text.decimal_of.Symbol.name text.decimal_of.Symbol.code text-said.decimal_of.ended
      (λ κs a r e. r ≡ decimal_of a.0.now)
  pub text-hex-into : Call text.hex_into.Symbol.name text.hex_into.Symbol.code text-said.hex_into.ended
      (λ κs a r e. PutSaid a.0.now a.1.0 (hex_of a.1.1.0.now) r e.0.now)
  pub text-repeat-into : Call text.repeat_into.Symbol.name text.repeat_into.Symbol.code text-said.repeat_into.ended
      (λ κs a r e. PutSaid a.0.now a.1.0 (Some (replicate a.1.1.1.0 a.1.1.0)) r e.0.now)
  pub text_same : Call text.same.Symbol.name text.same.Symbol.code text-said.same.ended
      (λ κs a r e. TellsSame a.0.now a.1.0.now r)
  -- channel encodings, legacy flags and the corrected channel
  pub encoding-try-from : Call encodings-named.try_from.Symbol.name encodings-named.try_from.Symbol.code encodings-named-said.try_from.ended
      (λ κs a r e. told r ≡ encoding_of a.0)
  pub encoding-entry-size : Call encodings.entry_size.Symbol.name encodings.entry_size.Symbol.code encodings-said.entry_size.ended
      (λ κs a r e. r ≡ entry_size a.0)
  pub encoding-corrected : Call encodings.corrected.Symbol.name encodings.corrected.Symbol.code encodings-said.corrected.ended
      (λ κs a r e. r ≡ corrected_in a.0 a.1.0 a.1.1.0)
  pub encoding-size : Call encodings.size.Symbol.name encodings.size.Symbol.code encodings-said.size.ended
      (λ κs a r e. told r ≡ size_of_encoding a.0)
  pub legacy-flags-from-bits : Call flags.from_bits.Symbol.name flags.from_bits.Symbol.code flags-said.from_bits.ended
      (λ κs a r e. r.0 ≡ kept_flags a.0)
  pub legacy-flags-support-channel : Call flags.support_channel.Symbol.name flags.support_channel.Symbol.code flags-said.support_channel.ended
      (λ κs a r e. r ≡ support_channel a.0.0)
  pub legacy-flags-channel-bandwidth : Call flags.channel_bandwidth.Symbol.name flags.channel_bandwidth.Symbol.code flags-said.channel_bandwidth.ended
      (λ κs a r e. r ≡ channel_bandwidth a.0.0)
  pub legacy-flags-band : Call flags.band.Symbol.name flags.band.Symbol.code flags-said.band.ended
      (λ κs a r e. r ≡ band a.0.0)
  pub corrected-channel : Call channels.channel.Symbol.name channels.channel.Symbol.code channels-said.channel.ended
      (λ κs a r e. told r ≡ corrected a.0)
  -- channel sequences, their entries, which channel to move to, and their records
  pub sequence-read : Call sequences.read.Symbol.name sequences.read.Symbol.code sequences-said.read.ended
      (λ κs a r e. said r ≡ sequence a.1.1.0 a.0.now a.1.0)
  pub sequence-consistent : Call sequences.consistent.Symbol.name sequences.consistent.Symbol.code sequences-said.consistent.ended
      (λ κs a r e. told r ≡ Q.consistent a.0)
  pub sequence-fixed-channel-sequence : Call sequences.fixed_channel_sequence.Symbol.name sequences.fixed_channel_sequence.Symbol.code sequences-said.fixed_channel_sequence.ended
      (λ κs a r e. told r ≡ Q.fixed a.0)
  pub sequence-to-simple : Call sequences.to_simple.Symbol.name sequences.to_simple.Symbol.code sequences-said.to_simple.ended
      (λ κs a r e. told r ≡ to_simple a.0)
  pub sequence-size : Call sequences.size.Symbol.name sequences.size.Symbol.code sequences-said.size.ended
      (λ κs a r e. told r ≡ Q.size_of a.0)
  pub sequence-written-size : Call sequences.written_size.Symbol.name sequences.written_size.Symbol.code sequences-said.written_size.ended
      (λ κs a r e. told r ≡ length_of (Q.bytes_of a.0))
  pub sequence-entry : Call sequences.entry.Symbol.name sequences.entry.Symbol.code sequences-said.entry.ended
      (λ κs a r e. said_entry r ≡ hop_at a.0 a.1.0)
  pub sequence-write : Call sequences.write.Symbol.name sequences.write.Symbol.code sequences-said.write.ended
      (λ κs a r e. Wrote a.1.0.now (Q.bytes_of a.0) (told r) e.1.0.now)
  pub judge : Call judges.judge.Symbol.name judges.judge.Symbol.code judges-said.judge.ended
      (λ κs a r e. told r ≡ judged a.0.now a.1.0.now a.1.1.0)
  pub own-proposal : Call judges.own_proposal.Symbol.name judges.own_proposal.Symbol.code judges-said.own_proposal.ended
      (λ κs a r e. told r ≡ proposed a.0.now a.1.0.now)
  pub channel-load : Call judges.channel_load.Symbol.name judges.channel_load.Symbol.code judges-said.channel_load.ended
      (λ κs a r e. told r ≡ load_in a.0.now a.1.0)
  pub channel-sequence-read : Call channel-sequences.read.Symbol.name channel-sequences.read.Symbol.code channel-sequences-said.read.ended
      (λ κs a r e. said r ≡ channel_sequence_record a.0.now a.1.0)
  pub channel-sequence-consistent : Call channel-sequences.consistent.Symbol.name channel-sequences.consistent.Symbol.code channel-sequences-said.consistent.ended
      (λ κs a r e. told r ≡ C.consistent a.0)
  pub channel-sequence-head : Call channel-sequences.head.Symbol.name channel-sequences.head.Symbol.code channel-sequences-said.head.ended
      (λ κs a r e. r ≡ C.head_bytes a.0)
  pub channel-sequence-write : Call channel-sequences.write.Symbol.name channel-sequences.write.Symbol.code channel-sequences-said.write.ended
      (λ κs a r e. Wrote a.1.0.now (C.bytes_of a.0) (told r) e.1.0.now)
  pub channel-sequence-size : Call channel-sequences.size.Symbol.name channel-sequences.size.Symbol.code channel-sequences-said.size.ended
      (λ κs a r e. told r ≡ C.size_of a.0)
  pub channel-sequence-written-size : Call channel-sequences.written_size.Symbol.name channel-sequences.written_size.Symbol.code channel-sequences-said.written_size.ended
      (λ κs a r e. told r ≡ length_of (C.bytes_of a.0))
  -- data path records and their words
  pub data-path-read : Call data-paths.read.Symbol.name data-paths.read.Symbol.code data-paths-said.read.ended
      (λ κs a r e. said r ≡ data_path a.0.now 0)
  pub data-path-consistent : Call data-paths.consistent.Symbol.name data-paths.consistent.Symbol.code data-paths-said.consistent.ended
      (λ κs a r e. r ≡ consistent a.0)
  pub data-path-size : Call data-paths.size.Symbol.name data-paths.size.Symbol.code data-paths-said.size.ended
      (λ κs a r e. told r ≡ D.size_of a.0)
  pub data-path-mend : Call data-paths.mend.Symbol.name data-paths.mend.Symbol.code data-paths-said.mend.ended
      (λ κs a r e. r ≡ mended a.0)
  pub data-path-write : Call data-paths.write.Symbol.name data-paths.write.Symbol.code data-paths-said.write.ended
      (λ κs a r e. Wrote a.1.0.now (D.bytes_of a.0) (told r) e.1.0.now)
  pub data-path-head : Call fields.read_head.Symbol.name fields.read_head.Symbol.code fields-said.read_head.ended
      (λ κs a r e. said r ≡ head a.0.now 0)
  pub data-path-body : Call fields.read_body.Symbol.name fields.read_body.Symbol.code fields-said.read_body.ended
      (λ κs a r e. said r ≡ body a.1.1.0 a.0.now a.1.0)
  pub country-read-at : Call countries.read_at.Symbol.name countries.read_at.Symbol.code countries-said.read_at.ended
      (λ κs a r e. said r ≡ country a.0.now a.1.0)
  pub country-put-at : Call countries.put_at.Symbol.name countries.put_at.Symbol.code countries-said.put_at.ended
      (λ κs a r e. Put a.1.0.now a.1.1.0 (country_bytes a.0) r e.1.0.now)
  pub infra-read-at : Call infras.read_at.Symbol.name infras.read_at.Symbol.code infras-said.read_at.ended
      (λ κs a r e. said r ≡ infra a.0.now a.1.0)
  pub infra-put-at : Call infras.put_at.Symbol.name infras.put_at.Symbol.code infras-said.put_at.ended
      (λ κs a r e. Put a.1.0.now a.1.1.0 (infra_bytes a.0) r e.1.0.now)
  pub word-has : Call bits.has.Symbol.name bits.has.Symbol.code bits-said.has.ended
      (λ κs a r e. r ≡ has_any a.0 a.1.0)
  pub channel-word-from-u16 : Call words.from.Symbol.name words.from.Symbol.code words-said.from.ended
      (λ κs a r e. r ≡ channel_of a.0)
  pub channel-word-as-u16 : Call words-of.from.Symbol.name words-of.from.Symbol.code words-of-said.from.ended
      (λ κs a r e. r ≡ word_of a.0)
  pub channel-word-default : Call no-words.default.Symbol.name no-words.default.Symbol.code no-words-said.default.ended
      (λ κs a r e. r ≡ zero_channel)
  pub unicast-options-from-bits : Call options.from_bits.Symbol.name options.from_bits.Symbol.code options-said.from_bits.ended
      (λ κs a r e. r.0 ≡ word_by options_kept a.0)
  pub extended-flags-from-bits : Call extended.from_bits.Symbol.name extended.from_bits.Symbol.code extended-said.from_bits.ended
      (λ κs a r e. r.0 ≡ word_by extended_kept a.0)
  pub channel-word-read-at : Call channel-words.read_at.Symbol.name channel-words.read_at.Symbol.code channel-words-said.read_at.ended
      (λ κs a r e. said r ≡ channel_word a.0.now a.1.0)
  pub channel-word-put-at : Call channel-words.put_at.Symbol.name channel-words.put_at.Symbol.code channel-words-said.put_at.ended
      (λ κs a r e. Put a.1.0.now a.1.1.0 (channel_bytes a.0) r e.1.0.now)
  pub unicast-options-read-at : Call option-words.read_at.Symbol.name option-words.read_at.Symbol.code option-words-said.read_at.ended
      (λ κs a r e. said r ≡ options_word a.0.now a.1.0)
  pub unicast-options-put-at : Call option-words.put_at.Symbol.name option-words.put_at.Symbol.code option-words-said.put_at.ended
      (λ κs a r e. Put a.1.0.now a.1.1.0 (options_bytes a.0) r e.1.0.now)
  pub extended-flags-read-at : Call extended-words.read_at.Symbol.name extended-words.read_at.Symbol.code extended-words-said.read_at.ended
      (λ κs a r e. said r ≡ extended_word a.0.now a.1.0)
  pub extended-flags-put-at : Call extended-words.put_at.Symbol.name extended-words.put_at.Symbol.code extended-words-said.put_at.ended
      (λ κs a r e. Put a.1.0.now a.1.1.0 (extended_bytes a.0) r e.1.0.now)
  pub stats-read-at : Call stat-words.read_at.Symbol.name stat-words.read_at.Symbol.code stat-words-said.read_at.ended
      (λ κs a r e. said r ≡ stats a.0.now a.1.0)
  pub stats-put-at : Call stat-words.put_at.Symbol.name stat-words.put_at.Symbol.code stat-words-said.put_at.ended
      (λ κs a r e. Put a.1.0.now a.1.1.0 (stats_bytes a.0) r e.1.0.now)
  -- synchronization records
  pub synchronization-read : Call synchronizations.read.Symbol.name synchronizations.read.Symbol.code synchronizations-said.read.ended
      (λ κs a r e. said r ≡ synchronization a.0.now 0)
  pub synchronization-consistent : Call synchronizations.consistent.Symbol.name synchronizations.consistent.Symbol.code synchronizations-said.consistent.ended
      (λ κs a r e. told r ≡ S.consistent a.0)
  pub synchronization-size : Call synchronizations.size.Symbol.name synchronizations.size.Symbol.code synchronizations-said.size.ended
      (λ κs a r e. told r ≡ S.size_of a.0)
  pub synchronization-written-size : Call synchronizations.written_size.Symbol.name synchronizations.written_size.Symbol.code synchronizations-said.written_size.ended
      (λ κs a r e. told r ≡ length_of (S.bytes_of a.0))
  pub synchronization-write : Call synchronizations.write.Symbol.name synchronizations.write.Symbol.code synchronizations-said.write.ended
      (λ κs a r e. Wrote a.1.0.now (S.bytes_of a.0) (told r) e.1.0.now)
  -- items: a step of the walk, an item's value, the end report, the search for the records of a type and the reader of its values, the writer
  pub step : Call items.step.Symbol.name items.step.Symbol.code items-said.step.ended
      (λ κs a r e. r ≡ step_at a.0.now a.1.0)
  pub step-with-value : Call tlvs.step_with_value.Symbol.name tlvs.step_with_value.Symbol.code tlvs-said.step_with_value.ended
      (λ κs a r e. (r.step ≡ step_at a.0.now a.1.0) × (r.value.now ≡ value_at a.0.now a.1.0) × (r.value.ref_ptr ≡ part_at (value_start_at a.0.now a.1.0) a.0.ref_ptr))
  pub value : Call items.value.Symbol.name items.value.Symbol.code items-said.value.ended
      (λ κs a r e. (r.now ≡ value_of a.0.now a.1.0) × (r.ref_ptr ≡ part_at (value_start a.0.now a.1.0) a.0.ref_ptr))
  pub end : Call items.end.Symbol.name items.end.Symbol.code items-said.end.ended
      (λ κs a r e. said_end r ≡ end_report (walk a.0.now))
  pub data-path-read-value : Call data-path-search.read_value.Symbol.name data-path-search.read_value.Symbol.code data-path-search-said.read_value.ended
      (λ κs a r e. said r ≡ data_path a.0.now 0)
  pub next-data-path : Call data-path-search.next.Symbol.name data-path-search.next.Symbol.code data-path-search-said.next.ended
      (λ κs a r e. said_found r ≡ next_data_path a.0.now a.1.0)
  pub first-data-path : Call data-path-search.first.Symbol.name data-path-search.first.Symbol.code data-path-search-said.first.ended
      (λ κs a r e. said_found r ≡ next_data_path a.0.now 0)
  pub synchronization-read-value : Call synchronization-search.read_value.Symbol.name synchronization-search.read_value.Symbol.code synchronization-search-said.read_value.ended
      (λ κs a r e. said r ≡ synchronization a.0.now 0)
  pub next-synchronization : Call synchronization-search.next.Symbol.name synchronization-search.next.Symbol.code synchronization-search-said.next.ended
      (λ κs a r e. said_found r ≡ next_synchronization a.0.now a.1.0)
  pub first-synchronization : Call synchronization-search.first.Symbol.name synchronization-search.first.Symbol.code synchronization-search-said.first.ended
      (λ κs a r e. said_found r ≡ next_synchronization a.0.now 0)
  pub channel-sequence-read-value : Call channel-sequence-search.read_value.Symbol.name channel-sequence-search.read_value.Symbol.code channel-sequence-search-said.read_value.ended
      (λ κs a r e. said r ≡ channel_sequence_record a.0.now 0)
  pub next-channel-sequence : Call channel-sequence-search.next.Symbol.name channel-sequence-search.next.Symbol.code channel-sequence-search-said.next.ended
      (λ κs a r e. said_found r ≡ next_channel_sequence a.0.now a.1.0)
  pub first-channel-sequence : Call channel-sequence-search.first.Symbol.name channel-sequence-search.first.Symbol.code channel-sequence-search-said.first.ended
      (λ κs a r e. said_found r ≡ next_channel_sequence a.0.now 0)
  pub write-item : Call items.write_item.Symbol.name items.write_item.Symbol.code items-said.write_item.ended
      (λ κs a r e. Wrote a.1.1.0.now (item_bytes a.0 a.1.0.now) (told r) e.1.1.0.now)
  -- the reader that keeps its bytes and its place together
  pub read-tlvs-new : Call readers.new.Symbol.name readers.new.Symbol.code readers-said.new.ended
      (λ κs a r e. (r.bytes ≡ a.0) × (r.at ≡ 0))
  pub read-tlvs-go-on : Call readers.go_on.Symbol.name readers.go_on.Symbol.code readers-said.go_on.ended
      (λ κs a r e. (r.bytes ≡ a.0.bytes) × (r.at ≡ a.1.0))
  pub read-tlvs-next : Call readers.next.Symbol.name readers.next.Symbol.code readers-said.next.ended
      (λ κs a r e. (r.step ≡ step_at a.0.bytes.now a.0.at) × (r.value.now ≡ value_at a.0.bytes.now a.0.at) × (r.value.ref_ptr ≡ part_at (value_start_at a.0.bytes.now a.0.at) a.0.bytes.ref_ptr))
  pub first-data-path-in : Call data-path-search.first_in.Symbol.name data-path-search.first_in.Symbol.code data-path-search-said.first_in.ended
      (λ κs a r e. said_found r ≡ next_data_path a.0.bytes.now a.0.at)
  pub first-synchronization-in : Call synchronization-search.first_in.Symbol.name synchronization-search.first_in.Symbol.code synchronization-search-said.first_in.ended
      (λ κs a r e. said_found r ≡ next_synchronization a.0.bytes.now a.0.at)
  pub first-channel-sequence-in : Call channel-sequence-search.first_in.Symbol.name channel-sequence-search.first_in.Symbol.code channel-sequence-search-said.first_in.ended
      (λ κs a r e. said_found r ≡ next_channel_sequence a.0.bytes.now a.0.at)
  -- frames: the header, the tail, offsets in the frame, the writer; the gap between the stamps
  pub frame-read : Call frames.read.Symbol.name frames.read.Symbol.code frames-said.read.ended
      (λ κs a r e. said r ≡ header a.0.now 0)
  pub frame-tail : Call frames.tail.Symbol.name frames.tail.Symbol.code frames-said.tail.ended
      (λ κs a r e. (r.now ≡ tail_of a.0.now) × (r.ref_ptr ≡ part_at (min 12 (length a.0.now)) a.0.ref_ptr))
  pub offset-in-frame : Call frames.offset_in_frame.Symbol.name frames.offset_in_frame.Symbol.code frames-said.offset_in_frame.ended
      (λ κs a r e. r ≡ offset_in_frame a.0.now a.1.0 a.1.1.0)
  pub frame-write : Call frames.write.Symbol.name frames.write.Symbol.code frames-said.write.ended
      (λ κs a r e. Wrote a.1.1.0.now (answer (F.bytes_of a.0 a.1.0.now)) (told r) e.1.1.0.now)
  pub tx-delta : Call stamps.tx_delta.Symbol.name stamps.tx_delta.Symbol.code stamps-said.tx_delta.ended
      (λ κs a r e. r ≡ delta a.0 a.1.0)
  -- the report: its first mark, and the line at a mark in the buffer that was lent
  pub report-dump-start : Call report.dump_start.Symbol.name report.dump_start.Symbol.code report-said.dump_start.ended
      (λ κs a r e. r ≡ first_mark a.0.now)
  pub report-next-line : Call report.next_line.Symbol.name report.next_line.Symbol.code report-said.next_line.ended
      (λ κs a r e. Shows a.1.1.0.now (stands_at a.0.now a.1.0) r e.1.1.0.now)
  -- the calls for other languages: what each lays down
  pub awdl-frame-read : Call exports.awdl_frame_read.Symbol.name exports.awdl_frame_read.Symbol.code exports-said.awdl_frame_read.ended
      (λ κs a r e. ToldReading frame_numbers (outcome F.zero_frame 0 (header a.0.now 0)) r e.1.0.now e.1.1.0.now e.1.1.1.0.now)
  pub awdl-frame-write : Call exports.awdl_frame_write.Symbol.name exports.awdl_frame_write.Symbol.code exports-said.awdl_frame_write.ended
      (λ κs a r e. ToldWriting a.1.1.0.now (frame_bytes a.0.now a.1.0.now) r e.1.1.1.0.now e.1.1.0.now)
  pub awdl-tx-delta : Call exports.awdl_tx_delta.Symbol.name exports.awdl_tx_delta.Symbol.code exports-said.awdl_tx_delta.ended
      (λ κs a r e. r ≡ delta (record { 0 = a.0 }) (record { 0 = a.1.0 }))
  pub awdl-write-item : Call exports.awdl_write_item.Symbol.name exports.awdl_write_item.Symbol.code exports-said.awdl_write_item.ended
      (λ κs a r e. ToldWriting a.1.1.0.now (item_bytes_in a.0 a.1.0.now) r e.1.1.1.0.now e.1.1.0.now)
  pub awdl-step : Call exports.awdl_step.Symbol.name exports.awdl_step.Symbol.code exports-said.awdl_step.ended
      (λ κs a r e. ToldStep (step_at a.0.now a.1.0) r e.1.1.0.now)
  pub awdl-next-data-path : Call exports.awdl_next_data_path.Symbol.name exports.awdl_next_data_path.Symbol.code exports-said.awdl_next_data_path.ended
      (λ κs a r e. ToldSearch data_path_numbers zero_data_path (next_data_path a.0.now a.1.0) r e.1.1.0.now e.1.1.1.0.now)
  pub awdl-first-data-path : Call exports.awdl_first_data_path.Symbol.name exports.awdl_first_data_path.Symbol.code exports-said.awdl_first_data_path.ended
      (λ κs a r e. ToldSearch data_path_numbers zero_data_path (next_data_path a.0.now 0) r e.1.0.now e.1.1.0.now)
  pub awdl-next-synchronization : Call exports.awdl_next_synchronization.Symbol.name exports.awdl_next_synchronization.Symbol.code exports-said.awdl_next_synchronization.ended
      (λ κs a r e. ToldSearch synchronization_numbers zero_synchronization (next_synchronization a.0.now a.1.0) r e.1.1.0.now e.1.1.1.0.now)
  pub awdl-first-synchronization : Call exports.awdl_first_synchronization.Symbol.name exports.awdl_first_synchronization.Symbol.code exports-said.awdl_first_synchronization.ended
      (λ κs a r e. ToldSearch synchronization_numbers zero_synchronization (next_synchronization a.0.now 0) r e.1.0.now e.1.1.0.now)
  pub awdl-next-channel-sequence : Call exports.awdl_next_channel_sequence.Symbol.name exports.awdl_next_channel_sequence.Symbol.code exports-said.awdl_next_channel_sequence.ended
      (λ κs a r e. ToldSearch X.channel_sequence_numbers C.zero_channel_sequence (next_channel_sequence a.0.now a.1.0) r e.1.1.0.now e.1.1.1.0.now)
  pub awdl-first-channel-sequence : Call exports.awdl_first_channel_sequence.Symbol.name exports.awdl_first_channel_sequence.Symbol.code exports-said.awdl_first_channel_sequence.ended
      (λ κs a r e. ToldSearch X.channel_sequence_numbers C.zero_channel_sequence (next_channel_sequence a.0.now 0) r e.1.0.now e.1.1.0.now)
  pub awdl-data-path-read : Call exports.awdl_data_path_read.Symbol.name exports.awdl_data_path_read.Symbol.code exports-said.awdl_data_path_read.ended
      (λ κs a r e. ToldReading data_path_numbers (outcome zero_data_path 0 (data_path a.0.now 0)) r e.1.0.now e.1.1.0.now e.1.1.1.0.now)
  pub awdl-data-path-consistent : Call exports.awdl_data_path_consistent.Symbol.name exports.awdl_data_path_consistent.Symbol.code exports-said.awdl_data_path_consistent.ended
      (λ κs a r e. ToldNumber (reply 0 (data_path_consistent a.0.now)) r e.1.0.now)
  pub awdl-data-path-mend : Call exports.awdl_data_path_mend.Symbol.name exports.awdl_data_path_mend.Symbol.code exports-said.awdl_data_path_mend.ended
      (λ κs a r e. ToldRecord data_path_numbers (reply zero_data_path (data_path_mended a.0.now)) r e.1.0.now)
  pub awdl-data-path-size : Call exports.awdl_data_path_size.Symbol.name exports.awdl_data_path_size.Symbol.code exports-said.awdl_data_path_size.ended
      (λ κs a r e. ToldNumber (reply 0 (data_path_size a.0.now)) r e.1.0.now)
  pub awdl-data-path-write : Call exports.awdl_data_path_write.Symbol.name exports.awdl_data_path_write.Symbol.code exports-said.awdl_data_path_write.ended
      (λ κs a r e. ToldWriting a.1.0.now (data_path_bytes a.0.now) r e.1.1.0.now e.1.0.now)
  pub awdl-synchronization-read : Call exports.awdl_synchronization_read.Symbol.name exports.awdl_synchronization_read.Symbol.code exports-said.awdl_synchronization_read.ended
      (λ κs a r e. ToldReading synchronization_numbers (outcome zero_synchronization 0 (synchronization a.0.now 0)) r e.1.0.now e.1.1.0.now e.1.1.1.0.now)
  pub awdl-synchronization-consistent : Call exports.awdl_synchronization_consistent.Symbol.name exports.awdl_synchronization_consistent.Symbol.code exports-said.awdl_synchronization_consistent.ended
      (λ κs a r e. ToldNumber (reply 0 (synchronization_consistent a.0.now)) r e.1.0.now)
  pub awdl-synchronization-size : Call exports.awdl_synchronization_size.Symbol.name exports.awdl_synchronization_size.Symbol.code exports-said.awdl_synchronization_size.ended
      (λ κs a r e. ToldNumber (reply 0 (synchronization_size a.0.now)) r e.1.0.now)
  pub awdl-synchronization-write : Call exports.awdl_synchronization_write.Symbol.name exports.awdl_synchronization_write.Symbol.code exports-said.awdl_synchronization_write.ended
      (λ κs a r e. ToldWriting a.1.0.now (synchronization_bytes a.0.now) r e.1.1.0.now e.1.0.now)
  pub awdl-channel-sequence-read : Call exports.awdl_channel_sequence_read.Symbol.name exports.awdl_channel_sequence_read.Symbol.code exports-said.awdl_channel_sequence_read.ended
      (λ κs a r e. ToldReading X.channel_sequence_numbers (outcome C.zero_channel_sequence a.1.0 (channel_sequence_record a.0.now a.1.0)) r e.1.1.0.now e.1.1.1.0.now e.1.1.1.1.0.now)
  pub awdl-channel-sequence-consistent : Call exports.awdl_channel_sequence_consistent.Symbol.name exports.awdl_channel_sequence_consistent.Symbol.code exports-said.awdl_channel_sequence_consistent.ended
      (λ κs a r e. ToldNumber (reply 0 (X.channel_sequence_consistent a.0.now)) r e.1.0.now)
  pub awdl-channel-sequence-size : Call exports.awdl_channel_sequence_size.Symbol.name exports.awdl_channel_sequence_size.Symbol.code exports-said.awdl_channel_sequence_size.ended
      (λ κs a r e. ToldNumber (reply 0 (X.channel_sequence_size a.0.now)) r e.1.0.now)
  pub awdl-channel-sequence-write : Call exports.awdl_channel_sequence_write.Symbol.name exports.awdl_channel_sequence_write.Symbol.code exports-said.awdl_channel_sequence_write.ended
      (λ κs a r e. ToldWriting a.1.0.now (X.channel_sequence_bytes a.0.now) r e.1.1.0.now e.1.0.now)
  pub awdl-sequence-read : Call exports.awdl_sequence_read.Symbol.name exports.awdl_sequence_read.Symbol.code exports-said.awdl_sequence_read.ended
      (λ κs a r e. ToldReading X.sequence_numbers (outcome Q.zero_sequence a.1.0 (X.sequence_read_in a.1.1.0 a.0.now a.1.0)) r e.1.1.1.0.now e.1.1.1.1.0.now e.1.1.1.1.1.0.now)
  pub awdl-sequence-consistent : Call exports.awdl_sequence_consistent.Symbol.name exports.awdl_sequence_consistent.Symbol.code exports-said.awdl_sequence_consistent.ended
      (λ κs a r e. ToldNumber (reply 0 (X.sequence_consistent a.0.now)) r e.1.0.now)
  pub awdl-sequence-size : Call exports.awdl_sequence_size.Symbol.name exports.awdl_sequence_size.Symbol.code exports-said.awdl_sequence_size.ended
      (λ κs a r e. ToldNumber (reply 0 (X.sequence_size a.0.now)) r e.1.0.now)
  pub awdl-sequence-write : Call exports.awdl_sequence_write.Symbol.name exports.awdl_sequence_write.Symbol.code exports-said.awdl_sequence_write.ended
      (λ κs a r e. ToldWriting a.1.0.now (X.sequence_bytes a.0.now) r e.1.1.0.now e.1.0.now)
  pub awdl-sequence-entry : Call exports.awdl_sequence_entry.Symbol.name exports.awdl_sequence_entry.Symbol.code exports-said.awdl_sequence_entry.ended
      (λ κs a r e. ToldHop (reply H.nothing (X.sequence_entry a.0.now a.1.0)) r e.1.1.0.now e.1.1.1.0.now)
  pub awdl-sequence-to-simple : Call exports.awdl_sequence_to_simple.Symbol.name exports.awdl_sequence_to_simple.Symbol.code exports-said.awdl_sequence_to_simple.ended
      (λ κs a r e. ToldRecord X.sequence_numbers (reply Q.zero_sequence (X.sequence_simple a.0.now)) r e.1.0.now)
  pub awdl-channel : Call exports.awdl_channel.Symbol.name exports.awdl_channel.Symbol.code exports-said.awdl_channel.ended
      (λ κs a r e. ToldNumber (reply 0 (X.corrected_of a.0.now)) r e.1.0.now)
  pub awdl-judge : Call exports.awdl_judge.Symbol.name exports.awdl_judge.Symbol.code exports-said.awdl_judge.ended
      (λ κs a r e. ToldPlaced (judged_reply (judged_in a.0.now a.1.0.now a.1.1.0)) r e.1.1.1.0.now e.1.1.1.1.0.now)
  pub awdl-own-proposal : Call exports.awdl_own_proposal.Symbol.name exports.awdl_own_proposal.Symbol.code exports-said.awdl_own_proposal.ended
      (λ κs a r e. ToldPlaced (reply 0 (proposed a.0.now a.1.0.now)) r e.1.1.0.now e.1.1.1.0.now)
  pub awdl-channel-load : Call exports.awdl_channel_load.Symbol.name exports.awdl_channel_load.Symbol.code exports-said.awdl_channel_load.ended
      (λ κs a r e. ToldPlaced (reply 0 (load_of a.0.now a.1.0)) r e.1.1.0.now e.1.1.1.0.now)

pub every_call : EveryCall
every_call =
    record {
      u8-read-at = λ M. u8s.read_at.Met.met;
      u16-read-at = λ M. u16s.read_at.Met.met;
      u32-read-at = λ M. u32s.read_at.Met.met;
      address-read-at = λ M. addresses.read_at.Met.met;
      u8-put-at = λ M. u8s.put_at.Met.met;
      u16-put-at = λ M. u16s.put_at.Met.met;
      u32-put-at = λ M. u32s.put_at.Met.met;
      address-put-at = λ M. addresses.put_at.Met.met;
      field_at = λ M. wire.field_at.Met.met;
      first-short = λ M. wire.first_short.Met.met;
      put-slice = λ M. wire.put_slice.Met.met;
      within = λ M. wire.within.Met.met;
      refusal-number = λ M. refusals.number.Met.met;
      refusal-offset = λ M. refusals.offset.Met.met;
      refusal-channel = λ M. refusals.channel.Met.met;
      text-put-decimal = λ M. text.put_decimal.Met.met;
      text-put-hex = λ M. text.put_hex.Met.met;
      text-decimal-of = λ M. text.decimal_of.Met.met;
      text-hex-into = λ M. text.hex_into.Met.met;
      text-repeat-into = λ M. text.repeat_into.Met.met;
      text_same = λ M. text.same.Met.met;
      encoding-try-from = λ M. encodings-named.try_from.Met.met;
      encoding-entry-size = λ M. encodings.entry_size.Met.met;
      encoding-corrected = λ M. encodings.corrected.Met.met;
      encoding-size = λ M. encodings.size.Met.met;
      legacy-flags-from-bits = λ M. flags.from_bits.Met.met;
      legacy-flags-support-channel = λ M. flags.support_channel.Met.met;
      legacy-flags-channel-bandwidth = λ M. flags.channel_bandwidth.Met.met;
      legacy-flags-band = λ M. flags.band.Met.met;
      corrected-channel = λ M. channels.channel.Met.met;
      sequence-read = λ M. sequences.read.Met.met;
      sequence-consistent = λ M. sequences.consistent.Met.met;
      sequence-fixed-channel-sequence = λ M. sequences.fixed_channel_sequence.Met.met;
      sequence-to-simple = λ M. sequences.to_simple.Met.met;
      sequence-size = λ M. sequences.size.Met.met;
      sequence-written-size = λ M. sequences.written_size.Met.met;
      sequence-entry = λ M. sequences.entry.Met.met;
      sequence-write = λ M. sequences.write.Met.met;
      judge = λ M. judges.judge.Met.met;
      own-proposal = λ M. judges.own_proposal.Met.met;
      channel-load = λ M. judges.channel_load.Met.met;
      channel-sequence-read = λ M. channel-sequences.read.Met.met;
      channel-sequence-consistent = λ M. channel-sequences.consistent.Met.met;
      channel-sequence-head = λ M. channel-sequences.head.Met.met;
      channel-sequence-write = λ M. channel-sequences.write.Met.met;
      channel-sequence-size = λ M. channel-sequences.size.Met.met;
      channel-sequence-written-size = λ M. channel-sequences.written_size.Met.met;
      data-path-read = λ M. data-paths.read.Met.met;
      data-path-consistent = λ M. data-paths.consistent.Met.met;
      data-path-size = λ M. data-paths.size.Met.met;
      data-path-mend = λ M. data-paths.mend.Met.met;
      data-path-write = λ M. data-paths.write.Met.met;
      data-path-head = λ M. fields.read_head.Met.met;
      data-path-body = λ M. fields.read_body.Met.met;
      country-read-at = λ M. countries.read_at.Met.met;
      country-put-at = λ M. countries.put_at.Met.met;
      infra-read-at = λ M. infras.read_at.Met.met;
      infra-put-at = λ M. infras.put_at.Met.met;
      word-has = λ M. bits.has.Met.met;
      channel-word-from-u16 = λ M. words.from.Met.met;
      channel-word-as-u16 = λ M. words-of.from.Met.met;
      channel-word-default = λ M. no-words.default.Met.met;
      unicast-options-from-bits = λ M. options.from_bits.Met.met;
      extended-flags-from-bits = λ M. extended.from_bits.Met.met;
      channel-word-read-at = λ M. channel-words.read_at.Met.met;
      channel-word-put-at = λ M. channel-words.put_at.Met.met;
      unicast-options-read-at = λ M. option-words.read_at.Met.met;
      unicast-options-put-at = λ M. option-words.put_at.Met.met;
      extended-flags-read-at = λ M. extended-words.read_at.Met.met;
      extended-flags-put-at = λ M. extended-words.put_at.Met.met;
      stats-read-at = λ M. stat-words.read_at.Met.met;
      stats-put-at = λ M. stat-words.put_at.Met.met;
      synchronization-read = λ M. synchronizations.read.Met.met;
      synchronization-consistent = λ M. synchronizations.consistent.Met.met;
      synchronization-size = λ M. synchronizations.size.Met.met;
      synchronization-written-size = λ M. synchronizations.written_size.Met.met;
      synchronization-write = λ M. synchronizations.write.Met.met;
      step = λ M. items.step.Met.met;
      step-with-value = λ M. tlvs.step_with_value.Met.met;
      value = λ M. items.value.Met.met;
      end = λ M. items.end.Met.met;
      data-path-read-value = λ M. data-path-search.read_value.Met.met;
      next-data-path = λ M. data-path-search.next.Met.met;
      first-data-path = λ M. data-path-search.first.Met.met;
      synchronization-read-value = λ M. synchronization-search.read_value.Met.met;
      next-synchronization = λ M. synchronization-search.next.Met.met;
      first-synchronization = λ M. synchronization-search.first.Met.met;
      channel-sequence-read-value = λ M. channel-sequence-search.read_value.Met.met;
      next-channel-sequence = λ M. channel-sequence-search.next.Met.met;
      first-channel-sequence = λ M. channel-sequence-search.first.Met.met;
      write-item = λ M. items.write_item.Met.met;
      read-tlvs-new = λ M. readers.new.Met.met;
      read-tlvs-go-on = λ M. readers.go_on.Met.met;
      read-tlvs-next = λ M. readers.next.Met.met;
      first-data-path-in = λ M. data-path-search.first_in.Met.met;
      first-synchronization-in = λ M. synchronization-search.first_in.Met.met;
      first-channel-sequence-in = λ M. channel-sequence-search.first_in.Met.met;
      frame-read = λ M. frames.read.Met.met;
      frame-tail = λ M. frames.tail.Met.met;
      offset-in-frame = λ M. frames.offset_in_frame.Met.met;
      frame-write = λ M. frames.write.Met.met;
      tx-delta = λ M. stamps.tx_delta.Met.met;
      report-dump-start = λ M. report.dump_start.Met.met;
      report-next-line = λ M. report.next_line.Met.met;
      awdl-frame-read = λ M. exports.awdl_frame_read.Met.met;
      awdl-frame-write = λ M. exports.awdl_frame_write.Met.met;
      awdl-tx-delta = λ M. exports.awdl_tx_delta.Met.met;
      awdl-write-item = λ M. exports.awdl_write_item.Met.met;
      awdl-step = λ M. exports.awdl_step.Met.met;
      awdl-next-data-path = λ M. exports.awdl_next_data_path.Met.met;
      awdl-first-data-path = λ M. exports.awdl_first_data_path.Met.met;
      awdl-next-synchronization = λ M. exports.awdl_next_synchronization.Met.met;
      awdl-first-synchronization = λ M. exports.awdl_first_synchronization.Met.met;
      awdl-next-channel-sequence = λ M. exports.awdl_next_channel_sequence.Met.met;
      awdl-first-channel-sequence = λ M. exports.awdl_first_channel_sequence.Met.met;
      awdl-data-path-read = λ M. exports.awdl_data_path_read.Met.met;
      awdl-data-path-consistent = λ M. exports.awdl_data_path_consistent.Met.met;
      awdl-data-path-mend = λ M. exports.awdl_data_path_mend.Met.met;
      awdl-data-path-size = λ M. exports.awdl_data_path_size.Met.met;
      awdl-data-path-write = λ M. exports.awdl_data_path_write.Met.met;
      awdl-synchronization-read = λ M. exports.awdl_synchronization_read.Met.met;
      awdl-synchronization-consistent = λ M. exports.awdl_synchronization_consistent.Met.met;
      awdl-synchronization-size = λ M. exports.awdl_synchronization_size.Met.met;
      awdl-synchronization-write = λ M. exports.awdl_synchronization_write.Met.met;
      awdl-channel-sequence-read = λ M. exports.awdl_channel_sequence_read.Met.met;
      awdl-channel-sequence-consistent = λ M. exports.awdl_channel_sequence_consistent.Met.met;
      awdl-channel-sequence-size = λ M. exports.awdl_channel_sequence_size.Met.met;
      awdl-channel-sequence-write = λ M. exports.awdl_channel_sequence_write.Met.met;
      awdl-sequence-read = λ M. exports.awdl_sequence_read.Met.met;
      awdl-sequence-consistent = λ M. exports.awdl_sequence_consistent.Met.met;
      awdl-sequence-size = λ M. exports.awdl_sequence_size.Met.met;
      awdl-sequence-write = λ M. exports.awdl_sequence_write.Met.met;
      awdl-sequence-entry = λ M. exports.awdl_sequence_entry.Met.met;
      awdl-sequence-to-simple = λ M. exports.awdl_sequence_to_simple.Met.met;
      awdl-channel = λ M. exports.awdl_channel.Met.met;
      awdl-judge = λ M. exports.awdl_judge.Met.met;
      awdl-own-proposal = λ M. exports.awdl_own_proposal.Met.met;
      awdl-channel-load = λ M. exports.awdl_channel_load.Met.met;
    }
