-- A part of numbers that fit fits, too, and the rest of them is the sequence.
-- Assumes nothing.
use Rattle.std.proofs.Common.{◌≡◌, arith, take, drop, length-drop}
use lib.Seq.{take_all}
use Rattle.exports.proofs.Fits.{fits-part}
use Rattle.exports.specs.Sequences.{channel_sequence_largest}
use Rattle.exports.proofs.channel_sequence_calls.channel_sequence_of.Goals as goal

pub sequence_of-requires-clause-octets_value : goal.sequence_of-requires-clause-octets_value
sequence_of-requires-clause-octets_value c = fits-part 3 33 c.args.numbers.now channel_sequence_largest c.requires.largest_value

pub returns : goal.returns
returns c =
    let ns = c.args.numbers.now in
    let all : take 33 (drop 3 ns) ≡ drop 3 ns = take_all 33 (drop 3 ns) (simp length-drop (omega arith)) in
    rw (c.sequence_of.ensures, all)
