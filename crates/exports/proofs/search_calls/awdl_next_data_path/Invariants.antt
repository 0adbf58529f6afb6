-- What is found from the place that was come to is what is found from the first one.
-- Assumes nothing.
use Rattle.std.proofs.Common.{length, ◌-◌, ◌≡◌}
use Rattle.tlvs.specs.Search.{next_data_path}
use Rattle.exports.proofs.search_calls.awdl_next_data_path.Given as goal

abbrev pub invariant-loop-it : goal.invariant-loop-it
invariant-loop-it l = next_data_path l.tail l.at ≡ next_data_path l.tail l.place

abbrev pub decreases-loop-it : goal.decreases-loop-it
decreases-loop-it l = length l.tail - l.place
