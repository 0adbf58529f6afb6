-- Numbers that fit fit one by one, and part by part.
-- Assumes nothing.
use Rattle.std.proofs.Common.{arith}
use Rattle.exports.proofs.DataPathFits.{held_at, held-part, held-channel}
use Rattle.exports.proofs.data_path_record.data_path_of.Goals as goal

pub take_optional-requires-2-clause-fit : goal.take_optional-requires-2-clause-fit
take_optional-requires-2-clause-fit c = let ns = c.args.numbers.now in (omega (arith, held_at ns c.requires 7), held-channel ns c.requires)

pub take_optional-requires-3-clause-fit : goal.take_optional-requires-3-clause-fit
take_optional-requires-3-clause-fit c = let ns = c.args.numbers.now in (held-part ns c.requires 9 6, omega (arith, held_at ns c.requires 15))

pub take_optional-requires-4-clause-fit : goal.take_optional-requires-4-clause-fit
take_optional-requires-4-clause-fit c = held-part c.args.numbers.now c.requires 17 6

pub take_optional-requires-5-clause-fit : goal.take_optional-requires-5-clause-fit
take_optional-requires-5-clause-fit c = held-part c.args.numbers.now c.requires 24 6

pub take_optional-requires-8-clause-fit : goal.take_optional-requires-8-clause-fit
take_optional-requires-8-clause-fit c = omega (arith, held_at c.args.numbers.now c.requires 35)

pub take_optional-requires-10-clause-fit : goal.take_optional-requires-10-clause-fit
take_optional-requires-10-clause-fit c = omega (arith, held_at c.args.numbers.now c.requires 39)
