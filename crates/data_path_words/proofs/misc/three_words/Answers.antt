-- Each word's bytes are those that `to_le_bytes` gives, which divides by a power where `little_bytes` divides step by step.
-- Assumes nothing.
use Rattle.std.proofs.Common.{◌≡◌, ℕ, ◌/◌, arith, refl}
use Rattle.data_path_words.proofs.misc.three_words.Goals as goal

twice : (v : ℕ) → v / 65536 ≡ v / 256 / 256
twice v = omega arith

thrice : (v : ℕ) → v / 16777216 ≡ v / 256 / 256 / 256
thrice v = omega arith

pub returns : goal.returns
returns c =
    rw (c.to_le_bytes.ensures, c.to_le_bytes-2.ensures, c.to_le_bytes-3.ensures)
    (simp (twice, thrice) refl)
