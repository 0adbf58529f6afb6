-- The bounds that the types of a record's fields set; every record that code holds keeps them.
use Rattle.std.specs.Prelude.{ℕ, ◌<◌, get_or}
use Rattle.wire.specs.Numbers.{AllInWidth}
use Rattle.wire.specs.Addresses.{address_bytes}
use Rattle.channel_sequence.specs.Widths.{SequenceInWidth}
use Rattle.synchronization_parameters.specs.declared.synchronization_parameters_tlv.SynchronizationParametersTLV.{SynchronizationParametersTLV}
use Rattle.synchronization_parameters.specs.SynchronizationBytes.{numbers}

pub record SynchronizationInWidth (p : SynchronizationParametersTLV) : Type 0 where
  pub numbers : AllInWidth (numbers p)
  pub address : (i : ℕ) → get_or (address_bytes p.master_address) i 0 < 256
  pub sequence : SequenceInWidth p.channel_sequence.channel_sequence
