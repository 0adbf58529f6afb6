-- Each line brings it nearer to the end of the report.
-- Assumes nothing.
use Rattle.report.proofs.Ends.{ahead}
use Rattle.ask.proofs.lines.lines.Given as goal

abbrev pub decreases-loop-length : goal.decreases-loop-length
decreases-loop-length l = ahead l.frame l.mark
