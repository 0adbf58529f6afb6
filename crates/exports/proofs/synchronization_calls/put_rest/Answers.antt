-- Each byte that is stored is that of its field, since its number fits.
-- Assumes nothing.
use Rattle.std.proofs.Common.{ℕ, ◌%◌, ◌/◌, [], ◌∷◌, refl, arith, get_or}
use lib.Seq.{get_or-drop}
use Rattle.synchronization_parameters.specs.SynchronizationBytes.{fixed_bytes}
use Rattle.wire.proofs.Octets.{byte}
use Rattle.wire.proofs.Stores.{put-stored}
use Rattle.exports.proofs.Synchronizations.{small_synchronization}
use Rattle.exports.proofs.synchronization_calls.put_rest.Goals as goal

pub returns : goal.returns
unfolding fixed_bytes
returns c =
    let ns = c.args.numbers.now in
    let small = λ (k : ℕ). small_synchronization ns k c.requires.synchronization_largest_value in
    rw (c.to_le_bytes-aw_seq_number.ensures, c.to_le_bytes-ap_beacon_alignment_delta.ensures, byte (get_or ns 10 0) (omega (arith, small 10)), byte (get_or ns 11 0) (omega (arith, small 11)), byte (get_or ns 12 0) (omega (arith, small 12)), byte (get_or ns 13 0) (omega (arith, small 13)), byte (get_or ns 20 0) (omega (arith, small 20)), byte (get_or ns 21 0) (omega (arith, small 21)), get_or-drop 14 ns 0 0, get_or-drop 14 ns 1 0, get_or-drop 14 ns 2 0, get_or-drop 14 ns 3 0, get_or-drop 14 ns 4 0, get_or-drop 14 ns 5 0)
    (put-stored 15 c.args.buffer.now 17
    (get_or ns 10 0 ∷ get_or ns 11 0 ∷ get_or ns 12 0 ∷ get_or ns 13 0 ∷ get_or ns 14 0 ∷ get_or ns 15 0 ∷ get_or ns 16 0 ∷
    get_or ns 17 0 ∷ get_or ns 18 0 ∷ get_or ns 19 0 ∷ get_or ns 20 0 ∷ get_or ns 21 0 ∷ get_or ns 22 0 % 256 ∷
    get_or ns 22 0 / 256 % 256 ∷ get_or ns 23 0 % 256 ∷ get_or ns 23 0 / 256 % 256 ∷ [])
    refl (omega (arith, c.requires.in_bounds)))
