-- How the value of an item of type 0x12 is read. The same bytes stand behind the fixed part of a synchronization value.
use Rattle.std.specs.Prelude.{eqb}
use Rattle.wire.specs.declared.refusal.Refusal.TheVariants.{ChannelCount}
use Rattle.wire.specs.Reading.{Reader, give, ◌>>=◌}
use Rattle.wire.specs.Answer.{asked, require}
use Rattle.wire.specs.Numbers.{number}
use Rattle.channel_sequence_tlv.specs.declared.channel_sequence_tlv.ChannelSequenceTLV.{ChannelSequenceTLV}
use Rattle.channel_sequence.specs.SequenceReader.{sequence}

-- Six bytes, and behind them the entries in the encoding that they name; what follows these is not looked at. The count is that of
-- the entries less one; it is looked at when all six bytes are there, and before the encoding.
unfoldable pub channel_sequence_record : Reader ChannelSequenceTLV
channel_sequence_record = do
  count ← number 1
  encoding ← number 1
  duplicate_count ← number 1
  step_count ← number 1
  fill_channel ← number 2
  sixteen ← asked (require (eqb count 15) ChannelCount)
  channel_sequence ← sequence encoding
  give
      (record {
        duplicate_count = duplicate_count;
        step_count = step_count;
        fill_channel = fill_channel;
        channel_sequence = channel_sequence;
      })
