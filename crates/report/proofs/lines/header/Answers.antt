-- Each word and its number stand behind the one before, with room for all.
-- Assumes nothing.
use Rattle.std.proofs.Common.{◌∙◌}
use Rattle.report.proofs.Room.{room-then}
use Rattle.report.proofs.lines.header.Goals as goal

pub returns : goal.returns
returns c =
    let subtype = rw c.from.ensures at c.put_named-at.ensures.put_with_room in
    let phy = rw c.from-2.ensures at c.put_named-at-2.ensures.put_with_room in
    let target = rw c.from-3.ensures at c.put_named-at-3.ensures.put_with_room in
    let gap = rw (c.from-gap.ensures ∙ c.tx_delta.ensures) at c.put_named-at-4.ensures.put_with_room in
    room-then (room-then (room-then (room-then subtype phy) target) gap) c.put_text.ensures.put_with_room
