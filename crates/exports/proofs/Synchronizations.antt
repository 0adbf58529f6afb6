-- Numbers that fit a synchronization record fit it one by one.
-- Assumes nothing.
use Prim.Native.Nat.{ℕ, ◌≤◌}
use mathlib.Core.Path.{◌≡◌}
use mathlib.Core.Bool.{true}
use mathlib.Core.List.{List}
use lib.ListN.{get_or}
use Rattle.exports.specs.Held.{fits}
use Rattle.exports.specs.Synchronizations.{synchronization_largest}
use Rattle.exports.proofs.Fits.{fits-at}

pub small_synchronization : (ns : List ℕ) (i : ℕ) → fits ns synchronization_largest ≡ true → get_or ns i 0 ≤ get_or synchronization_largest i 0
small_synchronization ns i fit = fits-at ns synchronization_largest i fit
