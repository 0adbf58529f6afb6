-- The part that is laid down is the field, which stands within, and the encoding stands in front of it.
-- Assumes nothing.
use Rattle.std.proofs.Common.{◌*◌, [], ◌∷◌, sym, ◌≡◌, drop, refl, arith, length-drop}
use lib.Seq.{sets-eq}
use Rattle.channel.specs.Channels.{entry_size, encoding_of}
use Rattle.wire.specs.Answer.{answer, place_of}
use Rattle.wire.specs.Reading.{field}
use Rattle.wire.proofs.Bytes.{placed}
use Rattle.exports.proofs.Laid.{put-behind}
use Rattle.exports.proofs.sequence_calls.sequence_into.Goals as goal

pub returns : goal.returns
returns c =
    let ns = c.args.numbers.now in
    let v = c.from.result in
    let known : encoding_of c.args.encoding ≡ answer c.in_ok-known.known = sym c.in_ok-known.ensures in
    let place : answer c.in_ok-next.next ≡ place_of (field (16 * entry_size c.in_ok-known.known) c.args.s.now c.args.at) = rw c.entry_size.ensures at c.in_ok-next.ensures in
    let part = placed (16 * entry_size c.in_ok-known.known) c.args.s.now c.args.at place in
    rw (
      known,
      part.whole,
      put-behind (v ∷ []) (drop 1 ns) c.put_entries.new.numbers 1 32 refl (sets-eq (v ∷ []) ns 0 (omega arith)) (simp length-drop (omega arith)),
      c.from.ensures,
      c.put_entries.ensures,
    )
