-- What has been counted and the sequences that the iterator has left make up all of them.
-- Assumes nothing.
use Rattle.std.proofs.Common.{◌≡◌}
use Rattle.std.specs.Slice.Iter.{chunks_exact_rest, chunks_exact_size}
use Rattle.channel_judge.proofs.Counters.{Passing}
use Rattle.channel_judge.proofs.loads.Loads.count_sequences.Given as goal

abbrev pub invariant-loop-sequence : goal.invariant-loop-sequence
invariant-loop-sequence l =
    (goal.iterator-loop-sequence).can_next l.sequence-iterator
    × (goal.iterator-loop-sequence).is_finite l.sequence-iterator
    × (chunks_exact_size l.sequence-iterator ≡ 33)
    × Passing l.sequences (chunks_exact_rest l.sequence-iterator) l.self
