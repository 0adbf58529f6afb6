-- Every counter of zeros is zero.
-- Assumes nothing.
use Rattle.std.proofs.Common.{arith}
use Rattle.channel_judge.proofs.Loaded.{zeros}
use Rattle.channel_judge.proofs.loads.Loads.new.Goals as goal

pub returns : goal.returns
returns c channel = omega (arith, zeros 256 channel)
