-- A value that is refused is passed over, and the record of one that is read is taken.
-- Assumes nothing.
use Rattle.tlvs.proofs.Searches.{passes-refused, takes-read}
use Rattle.tlvs.proofs.search.Record.next.Goals as goal

pub loop-item-preserved : goal.loop-item-preserved
loop-item-preserved g c = search (passes-refused, c.in_default-read_value.ensures, c.in-Item.ensures)

pub returns-in-Item : goal.returns-in-Item
returns-in-Item g c = search (takes-read, c.in-Ok.ensures, c.in-Item.ensures)
