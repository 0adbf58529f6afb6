-- A line that is shown is nearer to the end of the report.
-- Assumes nothing.
use Rattle.report.proofs.Ends.{line-nearer}
use Rattle.ask.proofs.lines.lines.Goals as goal

pub loop-length-smaller : goal.loop-length-smaller
loop-length-smaller c = line-nearer c.args.frame.now c.loop-length.mark c.next_line.ensures c.in-Some.is
