-- One run is put behind the other, and that there is room is asked of all of them at once.
-- Assumes nothing.
use Rattle.std.proofs.lemmas.Bool.{not-false}
use Rattle.wire.proofs.Stores.{◌and-then◌}
use Rattle.data_path_state.proofs.data_path_state_tlv.DataPathStateTLV.put_unicast.Goals as goal

pub returns : goal.returns
returns c =
    rw (not-false c.args.self.unicast_options.present c.if-not-self.false)
    ((λ room. rw c.unicast_length.ensures at c.put_at-at.ensures)
    and-then (λ room. c.put_at-at-2.ensures) and-then (λ room. c.put_at.ensures))
