-- A turn keeps one entry, and behind the last there is none.
-- Assumes nothing.
use Rattle.std.proofs.Common.{◌≡◌, sym, get_or, drop, ◌+◌, ◌*◌, length-set, arith}
use lib.ListN.{drop_of_length-le}
use lib.Seq.{take_all}
use mathlib.Core.List.{append-nil}
use Rattle.channel.specs.Channels.{kept_flags}
use Rattle.channel_sequence.specs.SequenceReader.{kept_entries}
use Rattle.channel_sequence.proofs.Entries.{two_at, entry-step}
use Rattle.exports.proofs.sequence_calls.put_kept.Goals as goal

pub loop-i-preserved : goal.loop-i-preserved
loop-i-preserved c =
    let part = c.args.part.now in
    let numbers = c.loop-i.numbers in
    let i = 2 * c.loop-i.i in
    let next : 2 * (c.loop-i.i + 1) ≡ i + 2 = omega arith in (
      simp length-set (omega arith),
      rw (
        next,
        c.from.ensures,
        c.from_bits.ensures,
        c.from-in-loop-i.ensures,
        entry-step numbers i (kept_flags (get_or part i 0)) (get_or part (i + 1) 0) (kept_entries (drop (i + 2) part)) (omega arith),
        ← c.loop-i.invariant.1,
        two_at part i (omega arith),
      ),
    )

pub returns : goal.returns
returns c =
    let part = c.args.part.now in
    let numbers = c.loop-i.numbers in
    let i = 2 * c.loop-i.i in
    rw (← c.loop-i.invariant.1, drop_of_length-le part {i = i} (omega arith), take_all i numbers (omega arith)) (sym (append-nil numbers))
