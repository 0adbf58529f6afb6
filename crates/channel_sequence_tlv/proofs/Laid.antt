-- The fields of a record stand one behind the other: the reader is put together of them, and what it reads tells the encoding.
-- Assumes nothing.
use native.Mathlib.Omega.{arith}
use mathlib.Core.Path.{refl}
use lib.Dec.{eqb}
use Rattle.wire.specs.declared.refusal.Refusal.TheVariants.{ChannelCount}
use Rattle.wire.specs.Answer.{asked, require}
use Rattle.wire.proofs.Lawful.{require-lawful}
use Rattle.wire.proofs.Gives.{gives-any}
use Rattle.wire.proofs.Laid.{Laid, laid-asked, laid-bind, laid-last, laid-number}
use Rattle.channel_sequence_tlv.specs.SequenceTLVReader.{channel_sequence_record}
use Rattle.channel_sequence_tlv.specs.FieldWidths.{field_widths}
use Rattle.channel_sequence.proofs.Laid.{sequence-laid}

pub channel-sequence-laid : Laid channel_sequence_record field_widths
unfolding channel_sequence_record
channel-sequence-laid =
    laid-number 1 λ count. laid-number 1 λ encoding. laid-number 1 λ _. laid-number 1 λ _. laid-number 2 λ _.
    laid-bind _ (laid-asked (require (eqb count 15) ChannelCount) (require-lawful (eqb count 15) ChannelCount (λ e. omega arith)))
    (λ s. gives-any (asked (require (eqb count 15) ChannelCount)))
    (λ _. laid-last _ (λ c. c.channel_sequence) (sequence-laid encoding) (λ q. refl))
    (λ s _ _. record { of = λ e. refl })
