-- The gap leads from the hand-over stamp to the sending stamp: two numbers below 2 to the 32nd that do so are a multiple of it apart, hence one.
-- Assumes nothing.
use Rattle.std.proofs.Common.{◌≡◌, ℕ, ◌+◌, ◌-◌, ◌%◌, ◌^◌, ◌<◌, ◌≤◌, ◌↔◌, sym, refl, arith}
use Rattle.action_frame.specs.declared.PhyTxTime.{PhyTxTime}
use Rattle.action_frame.specs.declared.TargetTxTime.{TargetTxTime}
use Rattle.action_frame.specs.Stamps.{delta}

pub gap-exactly : (phy : PhyTxTime) (target : TargetTxTime) → phy.0 < 2 ^ 32 → target.0 < 2 ^ 32 → (gap : ℕ)
    → (gap ≡ delta phy target) ↔ ((gap < 2 ^ 32) × ((target.0 + gap) % 2 ^ 32 ≡ phy.0))
gap-exactly phy target p t gap = (λ e. omega arith, λ e. omega arith)

pub gap_same : (phy : PhyTxTime) (target : TargetTxTime) → phy.0 < 2 ^ 32 → target.0 ≤ phy.0 → delta phy target ≡ phy.0 - target.0
gap_same phy target p le = sym ((gap-exactly phy target p (omega arith) (phy.0 - target.0)).1 (omega arith))

rolled-over : delta (record { 0 = 5 }) (record { 0 = 4294967290 }) ≡ 11
rolled-over = refl
