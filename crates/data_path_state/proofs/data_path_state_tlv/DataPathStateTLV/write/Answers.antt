-- What is put is the record laid down, after the size and the room were settled.
-- Assumes nothing.
use Rattle.std.proofs.Common.{sym, arith}
use Rattle.std.proofs.lemmas.Result.{err_from_is_err_and}
use Rattle.wire.proofs.Stores.{room_for, wrote-all, wrote-refused}
use Rattle.data_path_state.proofs.Sizes.{record-sized, size-length}
use Rattle.data_path_state.proofs.data_path_state_tlv.DataPathStateTLV.write.Goals as goal

pub returns-in_err-n : goal.returns-in_err-n
returns-in_err-n c =
    let p = err_from_is_err_and c.from_residual.result c.from_residual.ensures.1 in
    rw (p.1, p.2) (wrote-refused _ _ (size-length c.args.self) c.size.ensures c.within.ensures c.in_err-n.was)

pub returns : goal.returns
returns c =
    let settled = room_for c.size.ensures c.within.ensures c.in_ok-n.was in
    let w = record-sized c.args.self settled.0 in
    rw w.right (wrote-all (c.put_record.ensures (omega (arith, settled.1, w.size))) (sym w.size) settled.1)
