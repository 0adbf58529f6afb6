-- Six bytes more are written than of the sequence, or what refuses it refuses the record.
-- Assumes nothing.
use Rattle.std.proofs.Common.{sym, arith, rules}
use Rattle.std.proofs.lemmas.Result.{err_from_is_err_and}
use Rattle.channel_sequence.proofs.Entries.{sequence-written}
use Rattle.channel_sequence_tlv.proofs.SequenceTLVs.{length-written}
use Rattle.channel_sequence_tlv.proofs.channel_sequence_tlv.ChannelSequenceTLV.written_size.Goals as goal

pub overflow_add-result : goal.overflow_add-result
overflow_add-result c =
    omega (arith, (sequence-written c.args.self.channel_sequence (search rules) (sym c.in_ok-written_size.ensures)).few)

pub returns-in_err-written_size : goal.returns-in_err-written_size
returns-in_err-written_size c =
    let p = err_from_is_err_and c.from_residual.result c.from_residual.ensures.1 in
    rw (p.1, p.2) (sym (length-written c.args.self (sym c.in_err-written_size.ensures)))
