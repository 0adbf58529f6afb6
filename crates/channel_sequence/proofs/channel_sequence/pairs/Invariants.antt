-- What has been passed is filled, and the rest is still to be filled.
-- Assumes nothing.
use Rattle.std.proofs.Common.{length, ◌-◌, ◌*◌, ◌≡◌, ◌++◌, ◌∷◌, [], take}
use Rattle.channel_sequence.specs.Sequences.{times}
use Rattle.channel_sequence.proofs.channel_sequence.pairs.Given as goal

abbrev pub invariant-loop-i : goal.invariant-loop-i
invariant-loop-i l = (length l.bytes ≡ 32)
    × (take (2 * l.i) l.bytes ++ times (16 - l.i) (l.first ∷ l.second ∷ []) ≡ times 16 (l.first ∷ l.second ∷ []))
