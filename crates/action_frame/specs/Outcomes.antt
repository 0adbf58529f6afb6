-- The number, the offset and the values that an answer of the reader stands for.
use Rattle.std.specs.Prelude.{ℕ, Result}
use Rattle.wire.specs.declared.refusal.Refusal.{Refusal}
use Rattle.wire.specs.Outcomes.{Outcome, outcome_of}
use Rattle.action_frame.specs.declared.AWDLActionFrame.{AWDLActionFrame}
use Rattle.action_frame.specs.Frames.{zero_frame}

abbrev pub outcome_frame : Result (AWDLActionFrame × ℕ) Refusal → Outcome AWDLActionFrame
outcome_frame r = outcome_of zero_frame 0 r
