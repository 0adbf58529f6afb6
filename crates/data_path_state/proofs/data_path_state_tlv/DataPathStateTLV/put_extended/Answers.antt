-- One run is put behind the other, and that there is room is asked of all of them at once.
-- Assumes nothing.
use Rattle.std.proofs.lemmas.Bool.{not-false}
use Rattle.wire.proofs.Stores.{◌and-then◌}
use Rattle.data_path_state.proofs.data_path_state_tlv.DataPathStateTLV.put_extended.Goals as goal

pub returns : goal.returns
returns c =
    rw (not-false c.args.self.extended_flags.present c.if-not-self.false)
    ((λ room. c.put_at-at.ensures) and-then (λ room. c.put_at-at-2.ensures)
    and-then (λ room. c.put_at-at-3.ensures) and-then (λ room. c.put_at.ensures))
