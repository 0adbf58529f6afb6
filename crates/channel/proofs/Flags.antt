-- Legacy flags: keeping them is a mask.
-- Assumes nothing.
use Rattle.std.proofs.Common.{◌≡◌, ℕ, sym}
use lib.Bits.{bit_and, and_mask}
use Rattle.channel.specs.Channels.{kept_flags}

pub kept-mask : (flags : ℕ) → kept_flags flags ≡ bit_and flags 0x3F
kept-mask flags = sym (and_mask flags 6)
