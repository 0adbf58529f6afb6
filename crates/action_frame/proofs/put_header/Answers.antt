-- Each field is put behind the one before it, in a buffer with room for all.
-- Assumes nothing.
use Rattle.std.proofs.Common.{arith}
use Rattle.action_frame.specs.Frames.{header_bytes}
use Rattle.wire.proofs.Stores.{put_then}
use Rattle.action_frame.proofs.put_header.Goals as goal

pub returns : goal.returns
unfolding header_bytes
returns c =
    put_then
    (put_then
    (put_then
    (put_then (put_then c.put_at-at.ensures c.put_at-at-2.ensures (omega arith)) c.put_at-at-3.ensures (omega arith))
    c.put_at-at-4.ensures (omega arith))
    c.put_at-at-5.ensures (omega arith))
    c.put_at.ensures (omega arith)
