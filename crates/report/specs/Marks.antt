-- The marks in a report: what stands at each, and the mark behind it.
use Rattle.std.specs.Prelude.{ℕ, ◌+◌, cond, List, [], ◌∷◌, ◌≡◌, eqb, leb, length}
use Rattle.wire.specs.Reading.{Reading, read, refused}
use Rattle.data_path_state.specs.DataPath.{data_path}
use Rattle.synchronization_parameters.specs.SynchronizationReader.{synchronization}
use Rattle.tlv_items.specs.declared.item.Item.{Item}
use Rattle.tlv_items.specs.declared.item.Step.{Step}
use Rattle.tlv_items.specs.Items.{step_at, value_of}
use Rattle.tlv_items.specs.Walk.{whole, cut}
use Rattle.action_frame.specs.declared.AWDLActionFrame.{AWDLActionFrame}
use Rattle.action_frame.specs.Frames.{header, tail_of}
use Rattle.report.specs.declared.marks.Mark.{Mark}
use Rattle.report.specs.Lines.{refused_line, header_line, item_line, data_line, sync_line, end_line, too_long}

-- a line and the mark behind it, or no line
pub data Stand : Type 0 where
  line : List ℕ → Mark → Stand
  nothing : Stand

abbrev pub at_header : Reading AWDLActionFrame → Stand
at_header (read f size) = line (header_line f) (Mark.Item 0 0)
at_header (refused why) = line (refused_line why) Mark.End

-- behind an item: its value where that has a line, or else what follows it
abbrev pub mark_behind : Item → ℕ → ℕ → Mark
mark_behind it next items =
    cond (eqb it.tlv_type 0x0C) (Mark.DataPath it next items)
    (cond (eqb it.tlv_type 0x04) (Mark.Synchronization it next items) (Mark.Item next items))

-- what the walk finds, with so many items before it
abbrev pub at_step : ℕ → Step → Stand
at_step items (Step.Item it next) = line (item_line it) (mark_behind it next (items + 1))
at_step items Step.Whole = line (end_line items whole) Mark.End
at_step items (Step.Cut at) = line (end_line items (cut at)) Mark.End

-- A place of the tail. One that lies outside it, or has more items than bytes before it, is no place of this walk: a caller
-- can make such a mark up, and its numbers need not fit.
abbrev pub at_place : List ℕ → ℕ → ℕ → Stand
at_place tail at items = cond (leb items at) (cond (leb at (length tail)) (at_step items (step_at tail at)) nothing) nothing

abbrev pub stands_at : List ℕ → Mark → Stand
stands_at frame Mark.TooLong = line too_long Mark.End
stands_at frame Mark.Frame = at_header (header frame 0)
stands_at frame (Mark.Item at items) = at_place (tail_of frame) at items
stands_at frame (Mark.DataPath it next items) = line (data_line (data_path (value_of (tail_of frame) it) 0)) (Mark.Item next items)
stands_at frame (Mark.Synchronization it next items) = line (sync_line (synchronization (value_of (tail_of frame) it) 0)) (Mark.Item next items)
stands_at frame Mark.End = nothing

-- the dump's first mark
abbrev pub first_mark : List ℕ → Mark
first_mark input = cond (leb (length input) 4096) Mark.Frame Mark.TooLong

-- the lines that a caller is given who goes on from a mark until there are none
pub data GivesLines (frame : List ℕ) : Mark → List (List ℕ) → Type 0 where
  done : {m : Mark} → stands_at frame m ≡ nothing → GivesLines frame m []
  more : {m next : Mark} {l : List ℕ} {rest : List (List ℕ)} → stands_at frame m ≡ line l next → GivesLines frame next rest → GivesLines frame m (l ∷ rest)
