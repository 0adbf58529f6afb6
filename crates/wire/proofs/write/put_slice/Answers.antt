-- One more byte is stored where the next one of what is pasted stands.
-- Assumes nothing.
use Rattle.std.proofs.Common.{arith, length-set, add-one}
use lib.Seq.{paste-suc}
use Rattle.wire.proofs.write.put_slice.Goals as goal

pub loop-i-preserved : goal.loop-i-preserved
loop-i-preserved c =
    let i = c.loop-i.i in (
      simp length-set (omega arith),
      rw (c.loop-i.invariant.1, add-one i) (paste-suc c.args.buf.now c.args.at c.args.bytes.now i 0 (omega arith) (omega arith)),
    )
