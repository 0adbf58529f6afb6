-- What has been passed is corrected, and the rest is still to be corrected; the unused bytes stay 0.
-- Assumes nothing.
use Rattle.std.proofs.Common.{◌≡◌, drop}
use lib.ListN.{replicate}
use Rattle.channel_sequence.proofs.Corrections.{SoFar}
use Rattle.channel_sequence.proofs.conversion.simple_of.Given as goal

abbrev pub invariant-loop-i : goal.invariant-loop-i
invariant-loop-i l = (drop 16 l.bytes ≡ replicate 16 0) × SoFar l.entries l.i l.bytes
