-- A value that is refused is passed over, and the numbers of one that is read are taken.
-- Assumes nothing.
use Rattle.std.proofs.Common.{refl}
use Rattle.data_path_state.specs.DataPath.{data_path}
use Rattle.tlvs.proofs.Searches.{passes-refused, takes-read}
use Rattle.exports.specs.DataPaths.{data_path_numbers}
use Rattle.exports.proofs.Laid.{laid-refused, laid-read}
use Rattle.exports.proofs.search_calls.awdl_next_data_path.Goals as goal

pub loop-it-preserved : goal.loop-it-preserved
loop-it-preserved c =
    passes-refused 0x0C data_path c.args.tail.now c.args.at c.loop-it.place c.in-Item.ensures c.loop-it.invariant c.if-it-ne-TLV_TYPE.false refl c.value.ensures.0
    (laid-refused data_path_numbers (data_path c.value.result.now 0) c.in_default-data_path_into.ensures)

pub returns-in-Item : goal.returns-in-Item
returns-in-Item c =
    let laid = laid-read data_path_numbers (data_path c.value.result.now 0) c.in-Ok.ensures in
    rw (← takes-read 0x0C data_path c.args.tail.now c.args.at c.loop-it.place c.in-Item.ensures c.loop-it.invariant c.if-it-ne-TLV_TYPE.false refl c.value.ensures.0 laid.reads)
    (record { number = refl; item = c.item_numbers.ensures; numbers = laid.numbers })
