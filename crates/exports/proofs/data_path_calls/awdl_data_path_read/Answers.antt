-- The numbers are laid down while the record is read.
-- Assumes nothing.
use Rattle.std.proofs.Common.{refl}
use Rattle.data_path_state.specs.DataPath.{data_path}
use Rattle.data_path_state.specs.Outcomes.{zero_data_path}
use Rattle.exports.specs.DataPaths.{data_path_numbers}
use Rattle.exports.proofs.Laid.{read-told}
use Rattle.exports.proofs.data_path_calls.awdl_data_path_read.Goals as goal

pub returns : goal.returns
returns c = read-told zero_data_path data_path_numbers 0 (data_path c.args.bytes.now 0) refl c.data_path_into-behind.ensures c.tell_read.ensures
