-- The entries of a sequence are one field: the reader is put together of it, and what it reads tells the encoding.
-- Assumes nothing.
use Prim.Native.Nat.{ℕ, ◌*◌}
use Rattle.wire.specs.Reading.{field}
use Rattle.wire.proofs.Gives.{gives-any, gives-give, gives-asked, gives-bind}
use Rattle.wire.proofs.Laid.{Laid, laid-asked, laid-bind, laid-made}
use Rattle.channel.specs.Channels.{encoding_of, entry_size}
use Rattle.channel_sequence.specs.SequenceReader.{sequence}
use Rattle.channel_sequence.specs.FieldWidths.{sequence_widths}
use Rattle.channel_sequence.proofs.RoundTrip.{encoding-lawful}

pub sequence-laid : (n : ℕ) → Laid (sequence n) sequence_widths
sequence-laid n =
    laid-bind _ (laid-asked (encoding_of n) (encoding-lawful n)) (λ s. gives-asked (encoding_of n)) (λ encoding. laid-made (16 * entry_size encoding) _)
    (λ s encoding q. gives-bind (gives-any (field (16 * entry_size encoding))) λ bytes _. gives-give _ (rw q))
