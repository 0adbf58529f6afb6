-- A line that is shown is nearer to the end of the report.
-- Assumes nothing.
use Rattle.report.proofs.Ends.{line-nearer}
use Rattle.dump.proofs.show.Goals as goal

pub loop-n-smaller : goal.loop-n-smaller
loop-n-smaller c = line-nearer c.args.input.now c.loop-n.at c.next_line.ensures c.in-Some.is
