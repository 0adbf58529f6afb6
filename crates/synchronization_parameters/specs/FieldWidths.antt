-- The fields of a value, by their widths in order: where one that is cut is short goes by these.
use Rattle.std.specs.Prelude.{ℕ, List, [], ◌∷◌, ◌++◌}
use Rattle.channel_sequence_tlv.specs.FieldWidths as C
use Rattle.synchronization_parameters.specs.declared.synchronization_parameters_tlv.SynchronizationParametersTLV.{SynchronizationParametersTLV}

-- in front of the sequence; the reserved byte belongs to the mode before it, and the two are a field of two bytes
abbrev pub fixed_widths : List ℕ
fixed_widths = 1 ∷ 2 ∷ 1 ∷ 1 ∷ 2 ∷ 2 ∷ 2 ∷ 2 ∷ 2 ∷ 2 ∷ 1 ∷ 1 ∷ 1 ∷ 1 ∷ 6 ∷ 2 ∷ 2 ∷ 2 ∷ []

abbrev pub field_widths : SynchronizationParametersTLV → List ℕ
field_widths p = fixed_widths ++ C.field_widths p.channel_sequence
