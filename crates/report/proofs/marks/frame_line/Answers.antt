-- The header that was read has its line, and so has a refusal.
-- Assumes nothing.
use Rattle.std.proofs.Common.{sym, ap, ◌∙◌}
use Rattle.report.specs.Marks.{at_header}
use Rattle.report.proofs.Room.{shows-line}
use Rattle.report.proofs.marks.frame_line.Goals as goal

pub returns-in-Ok : goal.returns-in-Ok
returns-in-Ok c = shows-line (ap at_header (sym c.in-Ok.ensures)) c.header.ensures

pub returns-in-Err : goal.returns-in-Err
returns-in-Err c =
    shows-line (ap at_header (sym c.in-Err.ensures)) (rw (c.from.ensures ∙ c.number.ensures) at c.one_number-n.ensures)
