-- Numbers of which one does not fit are refused whatever the channel is.
-- Assumes nothing.
use Rattle.std.proofs.lemmas.Result.{err_from_is_err_and}
use Rattle.exports.proofs.DataPathFits.{unfit}
use Rattle.exports.proofs.data_path_record.fit_data_path.Goals as goal

pub returns-in_err-fit : goal.returns-in_err-fit
returns-in_err-fit c =
    let p = err_from_is_err_and c.from_residual.result c.from_residual.ensures.1 in
    rw (p.1, p.2) (unfit _ _ c.in_err-fit.ensures)
