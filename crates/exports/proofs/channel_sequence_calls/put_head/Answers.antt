-- The six bytes are those of the head, each a byte since its number fits.
-- Assumes nothing.
use Rattle.std.proofs.Common.{ℕ, [], ◌∷◌, ◌≤◌, refl, ap, arith, get_or}
use lib.Seq.{get_or-drop}
use Rattle.wire.proofs.Octets.{byte}
use Rattle.wire.proofs.Stores.{put-stored}
use Rattle.exports.specs.Sequences.{channel_sequence_largest}
use Rattle.exports.proofs.Fits.{fits-at}
use Rattle.exports.proofs.channel_sequence_calls.put_head.Goals as goal

pub returns : goal.returns
returns c =
    let ns = c.args.numbers.now in
    let small : (k : ℕ) → get_or ns k 0 ≤ get_or channel_sequence_largest k 0 = λ k. fits-at ns channel_sequence_largest k c.requires.largest_value in
    let fill = c.to_le_bytes.result in
    rw (
      get_or-drop 3 ns 0 0,
      byte (get_or ns 3 0) (omega (arith, small 3)),
      byte (get_or ns 0 0) (omega (arith, small 0)),
      byte (get_or ns 1 0) (omega (arith, small 1)),
      ← ap (λ l. get_or l 0 0) c.to_le_bytes.ensures,
      ← ap (λ l. get_or l 1 0) c.to_le_bytes.ensures,
    )
    (put-stored 5 c.args.buffer.now c.args.at
    (15 ∷ get_or ns 3 0 ∷ get_or ns 0 0 ∷ get_or ns 1 0 ∷ get_or fill 0 0 ∷ get_or fill 1 0 ∷ []) refl (omega (arith, c.requires.at_in_bounds)))
