-- 33 bytes more are written than of the sequence, or what refuses it refuses the record.
-- Assumes nothing.
use Rattle.std.proofs.Common.{sym, arith, rules}
use Rattle.channel_sequence_tlv.proofs.SequenceTLVs.{channel-sequence-written}
use Rattle.synchronization_parameters.proofs.Sizes.{length-written}
use Rattle.synchronization_parameters.proofs.synchronization_parameters_tlv.SynchronizationParametersTLV.written_size.Goals as goal

pub returns-in-Ok : goal.returns-in-Ok
returns-in-Ok c = sym (length-written c.args.self (sym c.in-Ok.ensures))

pub overflow_add-result : goal.overflow_add-result
overflow_add-result c =
    omega (arith, (channel-sequence-written c.args.self.channel_sequence (search rules) (sym c.in-Ok.ensures)).few)

pub returns-in-Err : goal.returns-in-Err
returns-in-Err c = sym (length-written c.args.self (sym c.in-Err.ensures))
