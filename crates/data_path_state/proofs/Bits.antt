-- A presence bit of any value is that value times the bit.
-- Assumes nothing.
use Prim.Native.Nat.{ℕ, ◌*◌}
use native.Mathlib.Omega.{arith}
use mathlib.Core.Path.{◌≡◌}
use mathlib.Core.Bool.{Bool, true, false, cond}

pub valued : (b : Bool) (n : ℕ) → cond b n 0 ≡ cond b 1 0 * n
valued true n = omega arith
valued false n = omega arith
