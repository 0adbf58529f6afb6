-- What was read lies within the space, and each turn but the last leaves less of it.
-- Assumes nothing.
use Rattle.std.proofs.Common.{length, ◌-◌, ◌≤◌}
use Rattle.dump.proofs.read_input.Given as goal

abbrev pub invariant-loop-n : goal.invariant-loop-n
invariant-loop-n l = l.at ≤ length l.space

abbrev pub decreases-loop-n : goal.decreases-loop-n
decreases-loop-n l = length l.space - l.at
