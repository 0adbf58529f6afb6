-- No sequence takes more than 38 bytes.
-- Assumes nothing.
use Rattle.std.proofs.Common.{sym, arith}
use Rattle.channel_sequence_tlv.proofs.SequenceTLVs.{few_bytes}
use Rattle.synchronization_parameters.proofs.synchronization_parameters_tlv.SynchronizationParametersTLV.size.Goals as goal

pub overflow_add-result : goal.overflow_add-result
overflow_add-result c = omega (arith, few_bytes c.args.self.channel_sequence (sym c.in_ok-n.ensures))
