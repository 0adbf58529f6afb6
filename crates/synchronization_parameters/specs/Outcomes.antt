-- The number, the offset and the values that the answer of the reader stands for.
use Rattle.std.specs.Prelude.{ℕ, Result}
use Rattle.wire.specs.declared.refusal.Refusal.{Refusal}
use Rattle.wire.specs.Outcomes.{Outcome, outcome_of}
use Rattle.synchronization_parameters.specs.declared.synchronization_parameters_tlv.SynchronizationParametersTLV.{SynchronizationParametersTLV}
use Rattle.synchronization_parameters.specs.SynchronizationReader.{zero_synchronization}

-- the record starts at place 0, so that the place behind it is its size
abbrev pub outcome_synchronization : Result (SynchronizationParametersTLV × ℕ) Refusal → Outcome SynchronizationParametersTLV
outcome_synchronization r = outcome_of zero_synchronization 0 r
