-- What is left of the widths decides, from the place behind those that fit.
-- Assumes nothing.
use Rattle.std.proofs.Common.{◌≡◌, drop}
use Rattle.wire.specs.ShortFields.{first_short}
use Rattle.wire.proofs.read.first_short.Given as goal

abbrev pub invariant-loop-width : goal.invariant-loop-width
invariant-loop-width l = first_short l.widths l.s l.at ≡ first_short (drop l.width-index l.widths) l.s l.place
