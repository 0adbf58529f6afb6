-- What has been passed is kept, and the rest is still to be kept.
-- Assumes nothing.
use Rattle.std.proofs.Common.{length, ◌*◌, ◌≡◌, ◌++◌, take, drop}
use Rattle.channel_sequence.specs.SequenceReader.{kept_entries}
use Rattle.exports.proofs.sequence_calls.put_kept.Given as goal

abbrev pub invariant-loop-i : goal.invariant-loop-i
invariant-loop-i l = (length l.numbers ≡ 32) × (take (2 * l.i) l.numbers ++ kept_entries (drop (2 * l.i) l.part) ≡ kept_entries l.part)
