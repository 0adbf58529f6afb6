-- The word, and behind it no more than twenty digits.
-- Assumes nothing.
use Rattle.std.proofs.Common.{arith}
use Rattle.text.proofs.Digits.{twenty-digits}
use Rattle.report.proofs.Room.{room-then, room_next, room-kept, room-put}
use Rattle.report.proofs.put.put_named.Goals as goal

pub returns : goal.returns
returns c =
    let few = twenty-digits c.args.n (omega arith) in
    let word = room-put c.put_slice-behind_word.ensures (omega arith) in
    let next = room_next word in
    let kept = room-kept word in
    let digits = room-put c.put_decimal.ensures (omega arith) in
    let end = room_next digits in
    record { put_with_room = room-then word digits; upper_bound = omega arith }
