-- One run is put behind the other, and that there is room is asked of all of them at once.
-- Assumes nothing.
use Rattle.wire.proofs.Stores.{◌and-then◌}
use Rattle.data_path_state.specs.Bytes.{record_bytes}
use Rattle.data_path_state.proofs.data_path_state_tlv.DataPathStateTLV.put_record.Goals as goal

pub returns : goal.returns
unfolding record_bytes
returns c =
    c.put_head-at.ensures and-then c.put_addresses-at.ensures and-then c.put_unicast-at.ensures and-then c.put_extended.ensures
