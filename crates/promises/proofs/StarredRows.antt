-- Every row holds: the definitions compute each answer.
-- Assumes nothing.
use mathlib.Core.Path.{refl}
use Rattle.channel.specs.Channels.{encoding_of}
use Rattle.channel_sequence.specs.Sequences.{times}
use Rattle.channel_sequence_tlv.specs.SequenceTLVReader.{channel_sequence_record}
use Rattle.data_path_state.specs.Consistent.{consistent}
use Rattle.data_path_state.specs.Bytes.{record_bytes}
use Rattle.tlv_items.specs.Items.{step_at}
use Rattle.tlv_items.specs.Walk.{walk_from}
use Rattle.action_frame.specs.Frames.{header_bytes}
use Rattle.synchronization_parameters.specs.SynchronizationReader.{synchronization}
use Rattle.synchronization_parameters.specs.SynchronizationBytes.{fixed_bytes}
use Rattle.promises.specs.Rows.{AllHold, rows, reserved_rows, legacy_rows, judge_rows}

pub starred-rows : AllHold rows
unfolding rows encoding_of consistent record_bytes step_at walk_from
starred-rows = (refl, (refl, (refl, (refl, (refl, (refl, (refl, (refl, (refl, (refl, (refl, (refl, (refl, (refl, (refl, (refl, (refl, (refl, tt))))))))))))))))))

pub reserved-rows : AllHold reserved_rows
unfolding reserved_rows encoding_of consistent record_bytes header_bytes synchronization fixed_bytes channel_sequence_record
reserved-rows = (refl, (refl, (refl, (refl, (refl, (refl, tt))))))

pub legacy-rows : AllHold legacy_rows
unfolding legacy_rows encoding_of synchronization fixed_bytes channel_sequence_record
legacy-rows = (refl, (refl, (refl, (refl, (refl, (refl, (refl, (refl, (refl, (refl, (refl, (refl, (refl, (refl, (refl, (refl, (refl, (refl, (refl, (refl, (refl, (refl, (refl, (refl, (refl, (refl, (refl, (refl, (refl, (refl, (refl, (refl, (refl, (refl, (refl, (refl, (refl, (refl, (refl, (refl, (refl, (refl, (refl, (refl, (refl, (refl, (refl, (refl, tt))))))))))))))))))))))))))))))))))))))))))))))))

pub judge-rows : AllHold judge_rows
unfolding judge_rows encoding_of times
judge-rows = (refl, (refl, (refl, (refl, (refl, (refl, (refl, (refl, (refl, (refl, (refl, (refl, (refl, (refl, (refl, (refl, (refl, (refl, (refl, (refl, (refl, (refl, (refl, (refl, (refl, (refl, (refl, (refl, (refl, (refl, (refl, (refl, (refl, (refl, (refl, (refl, tt))))))))))))))))))))))))))))))))))))
