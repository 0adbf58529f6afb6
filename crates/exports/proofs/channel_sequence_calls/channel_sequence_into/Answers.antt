-- A wrong count is refused, and a head that is short by its first short field.
-- Assumes nothing.
use Rattle.std.proofs.Common.{get_or, ne_eqb}
use Rattle.wire.proofs.Bytes.{placed}
use Rattle.channel_sequence_tlv.proofs.SequenceTLVs.{head-refused, count-wrong}
use Rattle.exports.proofs.channel_sequence_calls.channel_sequence_into.Goals as goal

pub returns-in-Ok-2 : goal.returns-in-Ok-2
returns-in-Ok-2 c =
    let s = c.args.s.now in
    let part = placed 6 s c.args.at c.in-Ok.ensures in
    rw (count-wrong s c.args.at part.inside (ne_eqb (get_or s c.args.at 0) 15 c.if-s-at-eq15.false))

pub returns-in-Err : goal.returns-in-Err
returns-in-Err c = rw (head-refused c.args.s.now c.args.at c.in-Err.ensures, c.first_short-short.ensures)
