-- The words and their numbers stand behind each other, with room for all.
-- Assumes nothing.
use Rattle.report.proofs.Room.{room-then}
use Rattle.report.proofs.lines.item.Goals as goal

pub returns : goal.returns
returns c =
    room-then
    (room-then (room-then c.put_named-at.ensures.put_with_room c.put_named-at-2.ensures.put_with_room) c.put_named-at-3.ensures.put_with_room)
    c.put_text.ensures.put_with_room
