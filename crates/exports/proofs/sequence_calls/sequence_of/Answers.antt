-- A part of numbers that fit fits, too.
-- Assumes nothing.
use Rattle.exports.proofs.Fits.{fits-part}
use Rattle.exports.specs.Held.{octets}
use Rattle.exports.proofs.sequence_calls.sequence_of.Goals as goal

pub bytes_of-requires-clause-octets_value : goal.bytes_of-requires-clause-octets_value
bytes_of-requires-clause-octets_value c = fits-part 1 32 c.args.numbers.now (octets 33) c.requires.octets_value
