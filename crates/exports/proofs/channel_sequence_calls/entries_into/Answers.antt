-- The entries are read behind six bytes, whose three numbers stand in front of theirs.
-- Assumes nothing.
use Rattle.std.proofs.Common.{◌≡◌, ◌+◌, ◌*◌, [], ◌∷◌, refl, arith, eq-eqb, get_or, drop, length-drop}
use lib.Seq.{sets-eq}
use Rattle.channel_sequence.specs.SequenceReader.{sequence}
use Rattle.channel_sequence_tlv.proofs.SequenceTLVs.{headed_by, count-right}
use Rattle.exports.specs.Sequences.{sequence_numbers, channel_sequence_numbers}
use Rattle.exports.proofs.Laid.{put-behind, laid-behind}
use Rattle.exports.proofs.channel_sequence_calls.entries_into.Goals as goal

pub returns : goal.returns
returns c =
    let s = c.args.s.now in
    let at = c.args.at in
    let ns = c.args.numbers.now in
    let front = c.from.result ∷ c.from-2.result ∷ c.from-3.result ∷ [] in
    let fill : c.from-3.result ≡ get_or s (at + 4) 0 + 256 * get_or s (at + 5) 0 = omega (arith, c.from-3.ensures, c.from_le_bytes.ensures) in
    rw (
      put-behind front (drop 3 ns) c.sequence_into.new.numbers 3 33 refl (sets-eq front ns 0 (omega arith)) (simp length-drop (omega arith)),
      count-right s at c.requires.at_in_bounds (eq-eqb (get_or s at 0) 15 c.requires.at_value),
      c.from.ensures,
      c.from-2.ensures,
      fill,
    )
    (laid-behind (get_or s (at + 2) 0 ∷ get_or s (at + 3) 0 ∷ (get_or s (at + 4) 0 + 256 * get_or s (at + 5) 0) ∷ []) sequence_numbers (headed_by s at) channel_sequence_numbers (λ q. refl) (sequence (get_or s (at + 1) 0) s (at + 6)) c.sequence_into.result _ c.sequence_into.ensures)
