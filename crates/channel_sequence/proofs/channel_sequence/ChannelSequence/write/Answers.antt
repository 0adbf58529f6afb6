-- What is put is the bytes on the wire, after the size and the room were settled.
-- Assumes nothing.
use Rattle.std.proofs.Common.{◌≡◌, ◌≤◌, length, sym, arith, rules}
use Rattle.std.proofs.lemmas.Result.{err_from_is_err_and}
use lib.Seq.{length-take-le}
use Rattle.wire.proofs.Stores.{room_for, wrote-all, nothing-written}
use Rattle.channel_sequence.specs.Sequences.{bytes_of}
use Rattle.channel_sequence.proofs.Entries.{sequence-written}
use Rattle.channel_sequence.proofs.channel_sequence.ChannelSequence.write.Goals as goal

pub returns : goal.returns
returns c =
    let bytes = c.args.self.bytes in
    let whole : length bytes ≡ 32 = search rules in
    let settled = room_for c.written_size.ensures c.within.ensures c.in_ok-n.was in
    let written = sequence-written c.args.self whole settled.0 in
    let enough : c.in_ok-n.n ≤ length bytes = omega arith in
    rw written.bytes (wrote-all c.put_slice.ensures (length-take-le c.in_ok-n.n bytes enough) settled.1)

pub returns-in_err-n : goal.returns-in_err-n
returns-in_err-n c =
    let p = err_from_is_err_and c.from_residual.result c.from_residual.ensures.1 in
    let buf = c.args.buf.now in
    rw (p.1, p.2) (nothing-written buf (bytes_of c.args.self) c.in_err-n.ensures c.written_size.ensures)

pub slice_bounds-bytes-end : goal.slice_bounds-bytes-end
slice_bounds-bytes-end c =
    let whole : length c.args.self.bytes ≡ 32 = search rules in
    let settled = room_for c.written_size.ensures c.within.ensures c.in_ok-n.was in
    let written = sequence-written c.args.self whole settled.0 in
    omega arith

pub slice_bounds-put_slice-end : goal.slice_bounds-put_slice-end
slice_bounds-put_slice-end c =
    let bytes = c.args.self.bytes in
    let whole : length bytes ≡ 32 = search rules in
    let settled = room_for c.written_size.ensures c.within.ensures c.in_ok-n.was in
    let written = sequence-written c.args.self whole settled.0 in
    let enough : c.in_ok-n.n ≤ length bytes = omega arith in
    sym (length-take-le c.in_ok-n.n bytes enough)
