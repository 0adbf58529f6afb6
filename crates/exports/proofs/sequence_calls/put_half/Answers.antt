-- The zeros stand behind the sixteen bytes.
-- Assumes nothing.
use Rattle.std.proofs.Common.{◌≡◌, refl, arith, length, length-drop, drop}
use Rattle.exports.proofs.Laid.{put-behind}
use Rattle.exports.proofs.sequence_calls.put_half.Goals as goal

pub returns : goal.returns
returns c =
    let front = c.put_bytes.new.numbers in
    let sixteen : length front ≡ 16 = rw c.put_bytes.ensures (omega arith) in
    rw (put-behind front (drop 16 c.args.numbers.now) c.put_bytes-2.new.numbers 16 16 sixteen refl (simp length-drop (omega arith)), c.put_bytes.ensures, c.put_bytes-2.ensures, c.requires.part_len)
