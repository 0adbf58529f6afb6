-- The fields of a value stand one behind the other, and those of the sequence behind them: the reader is put together of them.
-- Assumes nothing.
use mathlib.Core.Path.{refl}
use Rattle.wire.specs.Numbers.{pair_of}
use Rattle.wire.specs.Addresses.{address_of}
use Rattle.wire.proofs.Laid.{Laid, laid-last, laid-field-on, laid-number}
use Rattle.channel_sequence_tlv.proofs.Laid.{channel-sequence-laid}
use Rattle.synchronization_parameters.specs.SynchronizationReader.{synchronization}
use Rattle.synchronization_parameters.specs.FieldWidths.{field_widths}

pub synchronization-laid : Laid synchronization field_widths
unfolding synchronization
synchronization-laid =
    laid-number 1 λ _. laid-number 2 λ _. laid-number 1 λ _. laid-number 1 λ _.
    laid-number 2 λ _. laid-number 2 λ _. laid-number 2 λ _. laid-number 2 λ _. laid-number 2 λ _. laid-number 2 λ _.
    laid-number 1 λ _. laid-number 1 λ _. laid-number 1 λ _. laid-number 1 λ _.
    laid-field-on 6 address_of λ _. laid-field-on 2 pair_of λ _.
    laid-number 2 λ _. laid-number 2 λ _. laid-last _ (λ p. p.channel_sequence) channel-sequence-laid (λ c. refl)
