-- The chain tests every second byte.
-- Assumes nothing.
use Rattle.std.proofs.Common.{◌≡◌, ◌*◌, ◌<◌, ◌≤◌, ℕ, true, length, get_or, rules}
use Rattle.std.proofs.iter.runs.Made.{chains}
use mathlib.Core.Logic.{◌↔◌}
use Rattle.channel_sequence.proofs.Tests.{fits-everywhere}
use Rattle.channel_sequence.proofs.channel_sequence.all_flags_fit.Goals as goal

pub returns : goal.returns
returns c =
    let s = c.args.entries.now in
    let each : (c.all.result ≡ true) ↔ ((k : ℕ) → k * 2 < length s → get_or s (k * 2) 0 ≤ 0x3F) = search (rules, chains) in
    fits-everywhere c.all.result s each
