-- Numbers that fit a data path record fit it one by one, part by part, and in their channel.
-- Assumes nothing.
use Prim.Native.Nat.{ℕ, ◌≤◌}
use mathlib.Core.Path.{◌≡◌}
use mathlib.Core.Bool.{Bool, true, false, ◌&&◌}
use mathlib.Core.List.{List}
use native.Mathlib.Omega.{arith}
use lib.ListN.{get_or, take, drop}
use Rattle.wire.specs.declared.refusal.Refusal.{Refusal}
use Rattle.wire.specs.declared.refusal.Refusal.TheVariants.{Inconsistent}
use Rattle.wire.specs.Answer.{refusal, require}
use Rattle.exports.specs.Held.{fits}
use Rattle.exports.specs.DataPaths.{channel_fits, data_path_fits, data_path_largest}
use Rattle.exports.proofs.Fits.{both, fits-at, fits-part}

module _ (ns : List ℕ) (fit : data_path_fits ns ≡ true) where
  all : fits ns data_path_largest ≡ true
  all = (both (fits ns data_path_largest) _ fit).0

  pub held_at : (i : ℕ) → get_or ns i 0 ≤ get_or data_path_largest i 0
  held_at i = fits-at ns data_path_largest i all

  pub held-part : (at k : ℕ) → fits (take k (drop at ns)) (take k (drop at data_path_largest)) ≡ true
  held-part at k = fits-part at k ns data_path_largest all

  pub held-channel : channel_fits (get_or ns 6 0) (get_or ns 7 0) ≡ true
  held-channel = (both (fits ns data_path_largest) _ fit).1

-- a test that fails settles that both hold
pub unfit : (a b : Bool) {why : Refusal} → refusal why ≡ require a Inconsistent → refusal why ≡ require (a && b) Inconsistent
unfit true b e = absurd (let z : ◌≡◌ {A = ℕ} 0 1 = cc in omega arith)
unfit false b e = e
