-- Each line brings it nearer to the end of the report.
-- Assumes nothing.
use Rattle.report.proofs.Ends.{ahead}
use Rattle.dump.proofs.show.Given as goal

abbrev pub decreases-loop-n : goal.decreases-loop-n
decreases-loop-n l = ahead l.input l.at
