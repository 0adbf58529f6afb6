-- The chain tests every byte.
-- Assumes nothing.
use Rattle.std.proofs.Common.{◌≡◌, ◌<◌, ℕ, true, length, get_or, rules}
use Rattle.std.proofs.iter.runs.Made.{chains}
use mathlib.Core.Logic.{◌↔◌}
use Rattle.channel_sequence.proofs.Tests.{zero-everywhere}
use Rattle.channel_sequence.proofs.channel_sequence.all_zero.Goals as goal

pub returns : goal.returns
returns c =
    let s = c.args.unused.now in
    let each : (c.all.result ≡ true) ↔ ((k : ℕ) → k < length s → get_or s k 0 ≡ 0) = search (rules, chains) in
    zero-everywhere c.all.result s each
