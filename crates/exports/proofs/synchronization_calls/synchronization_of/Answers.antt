-- A part of numbers that fit fits, too, and the rest of them is the channel sequence.
-- Assumes nothing.
use Rattle.std.proofs.Common.{◌≡◌, arith, rules, length, take, drop, length-drop}
use lib.Seq.{take_all}
use Rattle.exports.proofs.Fits.{fits-part}
use Rattle.exports.specs.Synchronizations.{synchronization_largest}
use Rattle.exports.proofs.synchronization_calls.synchronization_of.Goals as goal

pub channel_sequence_of-requires-clause-largest_value : goal.channel_sequence_of-requires-clause-largest_value
channel_sequence_of-requires-clause-largest_value c = fits-part 24 36 c.args.numbers.now synchronization_largest c.requires

pub returns : goal.returns
returns c =
    let ns = c.args.numbers.now in
    let long : length ns ≡ 60 = search rules in
    let all : take 36 (drop 24 ns) ≡ drop 24 ns = take_all 36 (drop 24 ns) (simp length-drop (omega arith)) in
    rw (c.address_from.ensures, c.channel_sequence_of.ensures, all)
