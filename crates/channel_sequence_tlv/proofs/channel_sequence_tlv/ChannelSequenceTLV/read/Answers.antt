-- Where the six bytes stand, the count is looked at, and where they do not, the first field that is short.
-- Assumes nothing.
use Rattle.std.proofs.Common.{◌≡◌, ◌+◌, ◌*◌, arith, get_or, ne_eqb, eq-eqb}
use Rattle.std.proofs.lemmas.Result.{err_from_is_err_and}
use Rattle.wire.proofs.Bytes.{placed}
use Rattle.channel_sequence_tlv.proofs.SequenceTLVs.{head-refused, count-wrong, count-right}
use Rattle.channel_sequence_tlv.proofs.channel_sequence_tlv.ChannelSequenceTLV.read.Goals as goal

pub returns-in-Err : goal.returns-in-Err
returns-in-Err c = rw (head-refused c.args.s.now c.args.at c.in-Err.ensures, c.first_short.ensures)

pub returns-then-s-at-ne-COUNT : goal.returns-then-s-at-ne-COUNT
returns-then-s-at-ne-COUNT c =
    let s = c.args.s.now in
    let at = c.args.at in
    let behind = placed 6 s at c.in-Ok.ensures in
    rw (count-wrong s at behind.inside (ne_eqb (get_or s at 0) 15 c.if-s-at-ne-COUNT.true))

pub returns-in_err-channel_sequence : goal.returns-in_err-channel_sequence
returns-in_err-channel_sequence c =
    let s = c.args.s.now in
    let at = c.args.at in
    let behind = placed 6 s at c.in-Ok.ensures in
    let right = count-right s at behind.inside (eq-eqb (get_or s at 0) 15 c.if-s-at-ne-COUNT.false) in
    let p = err_from_is_err_and c.from_residual.result c.from_residual.ensures.1 in
    let refused = rw behind.place at c.in_err-channel_sequence.ensures in
    rw (p.1, p.2, right, ← refused)

pub returns : goal.returns
returns c =
    let s = c.args.s.now in
    let at = c.args.at in
    let behind = placed 6 s at c.in-Ok.ensures in
    let right = count-right s at behind.inside (eq-eqb (get_or s at 0) 15 c.if-s-at-ne-COUNT.false) in
    let read = rw behind.place at c.in_ok-channel_sequence.ensures in
    let fill : c.from_le_bytes-fill_channel.result ≡ get_or s (at + 4) 0 + 256 * get_or s (at + 5) 0 = omega (arith, c.from_le_bytes-fill_channel.ensures) in
    rw (right, ← read, fill)
