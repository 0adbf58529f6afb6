-- The numbers are laid down while the sequence is read.
-- Assumes nothing.
use Rattle.std.proofs.Common.{refl}
use Rattle.channel_sequence.specs.Sequences.{zero_sequence}
use Rattle.exports.specs.Sequences.{sequence_numbers, sequence_read_in}
use Rattle.exports.proofs.Laid.{read-told}
use Rattle.exports.proofs.sequence_calls.awdl_sequence_read.Goals as goal

pub returns : goal.returns
returns c =
    let a = c.args in
    read-told zero_sequence sequence_numbers a.at (sequence_read_in a.encoding a.bytes.now a.at) refl c.sequence_read_in-behind.ensures c.tell_read.ensures
