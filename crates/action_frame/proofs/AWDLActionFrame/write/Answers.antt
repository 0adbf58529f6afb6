-- What is put is the header and then the tail, after the room was settled.
-- Assumes nothing.
use Rattle.std.proofs.Common.{arith, ◌∙◌}
use Rattle.std.proofs.lemmas.Result.{err_from_is_err_and}
use Rattle.action_frame.proofs.Sizes.{length-header, length-bytes}
use Rattle.action_frame.specs.Frames.{bytes_of}
use Rattle.wire.proofs.Bytes.{known-room}
use Rattle.wire.proofs.Stores.{put_then, wrote-all, wrote_none}
use Rattle.wire.specs.Answer.{answer}
use Rattle.action_frame.proofs.AWDLActionFrame.write.Goals as goal

pub returns : goal.returns
returns c =
    let f = c.args.self in
    let room = known-room _ _ c.in_ok-size.ensures in
    let head = length-header f in
    wrote-all (put_then c.put_header-at.ensures c.put_slice.ensures (omega arith)) (length-bytes f c.args.tail.now ∙ room.0) room.1

pub returns-in_err-size : goal.returns-in_err-size
returns-in_err-size c =
    let p = err_from_is_err_and c.from_residual.result c.from_residual.ensures.1 in
    rw (p.1, p.2)
    (wrote_none c.args.buf.now (answer (bytes_of c.args.self c.args.tail.now))
    (rw (length-bytes c.args.self c.args.tail.now) c.in_err-size.ensures))
