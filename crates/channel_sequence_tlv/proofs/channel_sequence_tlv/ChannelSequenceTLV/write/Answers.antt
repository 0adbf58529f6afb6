-- The six bytes and then the entries are put, after the size and the room were settled.
-- Assumes nothing.
use Rattle.std.proofs.Common.{◌≡◌, length, rules}
use Rattle.std.proofs.lemmas.Result.{err_from_is_err_and}
use Rattle.wire.proofs.Stores.{◌also◌, room_for, wrote-sized, nothing-written}
use Rattle.channel_sequence_tlv.specs.SequenceTLVs.{bytes_of}
use Rattle.channel_sequence_tlv.proofs.SequenceTLVs.{channel-sequence-written}
use Rattle.channel_sequence_tlv.proofs.channel_sequence_tlv.ChannelSequenceTLV.write.Goals as goal

pub returns-in_err-n : goal.returns-in_err-n
returns-in_err-n c =
    let p = err_from_is_err_and c.from_residual.result c.from_residual.ensures.1 in
    let buf = c.args.buf.now in
    rw (p.1, p.2) (nothing-written buf (bytes_of c.args.self) c.in_err-n.ensures c.written_size.ensures)

pub returns : goal.returns
returns c =
    let self = c.args.self in
    let whole : length self.channel_sequence.bytes ≡ 32 = search rules in
    let settled = room_for c.written_size.ensures c.within.ensures c.in_ok-n.was in
    let written = channel-sequence-written self whole settled.0 in
    let both = (λ room. rw c.head-head.ensures at c.put_slice.ensures) also c.put_slice-2.ensures in
    wrote-sized (bytes_of self) written.bytes settled.0 both settled.1
