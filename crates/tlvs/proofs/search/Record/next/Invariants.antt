-- What is found from the place that was come to is what is found from the first one.
-- Assumes nothing.
use Rattle.std.proofs.Common.{length, ◌-◌, ◌≡◌}
use Rattle.tlvs.specs.Search.{next_from}
use Rattle.tlvs.proofs.search.Record.next.Given as goal

abbrev pub invariant-loop-item : goal.invariant-loop-item
invariant-loop-item g l =
    next_from g.Self.Record.TYPE_NUMBER g.Self.Record.format l.tail l.from ≡ next_from g.Self.Record.TYPE_NUMBER g.Self.Record.format l.tail l.at

abbrev pub decreases-loop-item : goal.decreases-loop-item
decreases-loop-item g l = length l.tail - l.at
