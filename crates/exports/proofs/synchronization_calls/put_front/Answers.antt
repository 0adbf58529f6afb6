-- Each byte that is stored is that of its field, since its number fits.
-- Assumes nothing.
use Rattle.std.proofs.Common.{ℕ, ◌%◌, ◌/◌, [], ◌∷◌, refl, arith, get_or}
use Rattle.synchronization_parameters.specs.SynchronizationBytes.{fixed_bytes}
use Rattle.wire.proofs.Octets.{byte}
use Rattle.wire.proofs.Stores.{put-stored}
use Rattle.exports.proofs.Synchronizations.{small_synchronization}
use Rattle.exports.proofs.synchronization_calls.put_front.Goals as goal

pub returns : goal.returns
unfolding fixed_bytes
returns c =
    let ns = c.args.numbers.now in
    let small = λ (k : ℕ). small_synchronization ns k c.requires.synchronization_largest_value in
    rw (c.to_le_bytes-tx_counter.ensures, c.to_le_bytes-aw_period.ensures, c.to_le_bytes-af_period.ensures, c.to_le_bytes-awdl_flags.ensures, c.to_le_bytes-aw_ext_length.ensures, c.to_le_bytes-aw_common_length.ensures, c.to_le_bytes-remaining_aw_length.ensures, byte (get_or ns 0 0) (omega (arith, small 0)), byte (get_or ns 2 0) (omega (arith, small 2)), byte (get_or ns 3 0) (omega (arith, small 3)))
    (put-stored 16 c.args.buffer.now 0
    (get_or ns 0 0 ∷ get_or ns 1 0 % 256 ∷ get_or ns 1 0 / 256 % 256 ∷ get_or ns 2 0 ∷ get_or ns 3 0 ∷ get_or ns 4 0 % 256 ∷
    get_or ns 4 0 / 256 % 256 ∷ get_or ns 5 0 % 256 ∷ get_or ns 5 0 / 256 % 256 ∷ get_or ns 6 0 % 256 ∷ get_or ns 6 0 / 256 % 256 ∷
    get_or ns 7 0 % 256 ∷ get_or ns 7 0 / 256 % 256 ∷ get_or ns 8 0 % 256 ∷ get_or ns 8 0 / 256 % 256 ∷ get_or ns 9 0 % 256 ∷
    get_or ns 9 0 / 256 % 256 ∷ [])
    refl (omega (arith, c.requires.in_bounds)))
