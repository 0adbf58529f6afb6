-- What was counted and what the walk still gives are together what it gives from the start.
-- Assumes nothing.
use Rattle.std.proofs.Common.{◌-◌, ◌≤◌, length}
use Rattle.tlv_items.proofs.Walks.{CountedTo}
use Rattle.tlv_items.proofs.walk.end.Given as goal

abbrev pub invariant-loop-behind_value : goal.invariant-loop-behind_value
invariant-loop-behind_value l = CountedTo l.tail l.at l.items × (l.at ≤ length l.tail) × (l.items ≤ l.at)

abbrev pub decreases-loop-behind_value : goal.decreases-loop-behind_value
decreases-loop-behind_value l = length l.tail - l.at
