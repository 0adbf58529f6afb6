-- One run is put behind the other, and that there is room is asked of all of them at once.
-- Assumes nothing.
use Rattle.wire.proofs.Stores.{◌and-then◌}
use Rattle.data_path_state.proofs.data_path_state_tlv.DataPathStateTLV.put_addresses.Goals as goal

pub returns : goal.returns
returns c = (λ room. c.put_at-at.ensures) and-then (λ room. c.put_at-at-2.ensures) and-then (λ room. c.put_at.ensures)
