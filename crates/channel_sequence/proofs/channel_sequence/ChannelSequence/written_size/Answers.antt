-- A legacy sequence is refused, and what is written of any other has its size.
-- Assumes nothing.
use Rattle.std.proofs.Common.{sym, ◌∙◌, rules}
use borrow.Author.Tests.{eq-eqb, ne_eqb}
use Rattle.channel_sequence.proofs.Entries.{legacy-refused, size-length}
use Rattle.channel_sequence.proofs.channel_sequence.ChannelSequence.written_size.Goals as goal

pub returns-then-self-eq-LEGACY : goal.returns-then-self-eq-LEGACY
returns-then-self-eq-LEGACY c = let q = c.args.self in rw (legacy-refused q (eq-eqb q.encoding 1 c.if-self-eq-LEGACY.true))

pub returns : goal.returns
returns c =
    let q = c.args.self in
    c.size.ensures ∙ sym (size-length q (search rules) (ne_eqb q.encoding 1 c.if-self-eq-LEGACY.false))
