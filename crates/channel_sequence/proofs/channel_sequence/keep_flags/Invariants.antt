-- What has been passed is kept, and the rest is still to be kept.
-- Assumes nothing.
use Rattle.std.proofs.Common.{length, ◌*◌, ◌≡◌, ◌++◌, take, drop}
use Rattle.channel_sequence.specs.SequenceReader.{kept_entries}
use Rattle.channel_sequence.proofs.channel_sequence.keep_flags.Given as goal

abbrev pub invariant-loop-i : goal.invariant-loop-i
invariant-loop-i l = (length l.entries ≡ 32) × (take (2 * l.i) l.entries ++ kept_entries (drop (2 * l.i) l.entries) ≡ kept_entries l.initial.entries)
