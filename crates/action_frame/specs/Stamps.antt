-- The gap between the two stamps: how long the frame waited in the radio.
use Rattle.std.specs.Prelude.{ℕ, ◌+◌, ◌-◌, ◌%◌, ◌^◌}
use Rattle.action_frame.specs.declared.PhyTxTime.{PhyTxTime}
use Rattle.action_frame.specs.declared.TargetTxTime.{TargetTxTime}

-- the sending stamp less the hand-over stamp, on a clock of 32 bits that rolls over
abbrev pub delta : PhyTxTime → TargetTxTime → ℕ
delta phy target = (phy.0 + 2 ^ 32 - target.0) % 2 ^ 32
