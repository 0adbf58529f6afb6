-- The library's equality of slices is such a test.
-- Assumes nothing.
use Rattle.text.proofs.Once.{std_same}
use Rattle.text.proofs.hex.same.Goals as goal

pub returns : goal.returns
returns c = rw c.eq.ensures (std_same c.args.a.now c.args.b.now)
