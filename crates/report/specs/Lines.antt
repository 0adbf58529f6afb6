-- The lines that are shown of an input. Places count from the frame's start.
use Rattle.std.specs.Prelude.{ℕ, ◌+◌, cond, List, [], ◌∷◌, ◌++◌, eqb, leb, length}
use Rattle.wire.specs.declared.refusal.Refusal.{Refusal}
use Rattle.wire.specs.Refusals.{number_of}
use Rattle.wire.specs.Reading.{Reading, read, refused}
use Rattle.data_path_state.specs.declared.data_path_state_tlv.DataPathStateTLV.{DataPathStateTLV}
use Rattle.data_path_state.specs.DataPath.{data_path}
use Rattle.synchronization_parameters.specs.declared.synchronization_parameters_tlv.SynchronizationParametersTLV.{SynchronizationParametersTLV}
use Rattle.synchronization_parameters.specs.SynchronizationReader.{synchronization}
use Rattle.tlv_items.specs.declared.item.Item.{Item}
use Rattle.tlv_items.specs.Items.{value_of}
use Rattle.tlv_items.specs.Walk.{Ending, whole, cut, Walk, walk}
use Rattle.action_frame.specs.declared.AWDLActionFrame.{AWDLActionFrame}
use Rattle.action_frame.specs.Frames.{header, tail_of}
use Rattle.action_frame.specs.Stamps.{delta}
use Rattle.text.specs.Text.{text, named}

abbrev pub refused_line : Refusal → List ℕ
refused_line why = named "refused " (number_of why) ++ text "\n"

abbrev pub header_fields : AWDLActionFrame → List ℕ
header_fields f =
    named "frame subtype=" f.subtype ++ named " phy=" f.phy_tx_time.0 ++ named " target=" f.target_tx_time.0

abbrev pub header_line : AWDLActionFrame → List ℕ
header_line f = header_fields f ++ named " delta=" (delta f.phy_tx_time f.target_tx_time) ++ text "\n"

abbrev pub item_line : Item → List ℕ
item_line it =
    named "item at=" (it.at + 12) ++ named " type=" it.tlv_type ++ named " length=" it.length ++ text "\n"

abbrev pub value_refused : Refusal → List ℕ
value_refused why = named "value refused " (number_of why) ++ text "\n"

abbrev pub data_line : Reading DataPathStateTLV → List ℕ
data_line (read p size) = named "data flags=" p.flags.0 ++ named " size=" size ++ text "\n"
data_line (refused why) = value_refused why

abbrev pub sync_line : Reading SynchronizationParametersTLV → List ℕ
sync_line (read p size) = named "sync seq=" p.aw_seq_number ++ text "\n"
sync_line (refused why) = value_refused why

-- a data path value and a synchronization value have a line, and any other has none, a channel sequence among them
abbrev pub value_lines : List ℕ → Item → List (List ℕ)
value_lines tail it =
    cond (eqb it.tlv_type 0x0C) (data_line (data_path (value_of tail it) 0) ∷ [])
    (cond (eqb it.tlv_type 0x04) (sync_line (synchronization (value_of tail it) 0) ∷ []) [])

abbrev pub items_lines : List ℕ → List Item → List (List ℕ)
items_lines tail [] = []
items_lines tail (it ∷ rest) = item_line it ∷ value_lines tail it ++ items_lines tail rest

abbrev pub end_line : ℕ → Ending → List ℕ
end_line items whole = named "end whole items=" items ++ text "\n"
end_line items (cut at) = named "end cut at=" (at + 12) ++ named " items=" items ++ text "\n"

abbrev pub tail_lines : List ℕ → Walk → List (List ℕ)
tail_lines tail w = items_lines tail w.items ++ (end_line (length w.items) w.ending ∷ [])

abbrev pub lines_of : List ℕ → Reading AWDLActionFrame → List (List ℕ)
lines_of frame (read f size) = header_line f ∷ tail_lines (tail_of frame) (walk (tail_of frame))
lines_of frame (refused why) = refused_line why ∷ []

-- a frame of any length
abbrev pub frame_lines : List ℕ → List (List ℕ)
frame_lines frame = lines_of frame (header frame 0)

abbrev pub too_long : List ℕ
too_long = text "input too long\n"

-- what the dump shows of its input
abbrev pub dump_lines : List ℕ → List (List ℕ)
dump_lines input = cond (leb (length input) 4096) (frame_lines input) (too_long ∷ [])
