-- Fewer than three bytes, a length above what follows, and an item: the step's answers in the words of the scope.
-- Assumes nothing.
use Rattle.std.proofs.Common.{◌+◌, ◌≡◌, sym, ◌∙◌, arith}
use Rattle.tlv_items.proofs.Plain.{length_at, used-up, few-left, cut-there, length_above, item-here}
use Rattle.tlv_items.proofs.walk.step.Goals as goal

pub returns-then-at-tail : goal.returns-then-at-tail
returns-then-at-tail c = sym (rw c.if-at-tail.true (used-up c.args.tail.now))

pub returns-then-left-lt3 : goal.returns-then-left-lt3
returns-then-left-lt3 c = cut-there (few-left c.args.tail.now c.args.at c.if-at-tail.false (omega arith)) (omega arith)

pub returns-else-left-length : goal.returns-else-left-length
returns-else-left-length c =
    let high : c.args.at + 1 + 1 ≡ c.args.at + 2 = omega arith in
    let read = c.from-length.ensures ∙ c.from_le_bytes.ensures in
    let same : length_at c.args.tail.now c.args.at ≡ c.from-length.result = rw high (omega (arith, read)) in
    rw (← same) (sym (item-here c.args.tail.now c.args.at (omega arith) (omega arith)))

pub returns-then-left-length : goal.returns-then-left-length
returns-then-left-length c =
    let high : c.args.at + 1 + 1 ≡ c.args.at + 2 = omega arith in
    let read = c.from-length.ensures ∙ c.from_le_bytes.ensures in
    let same : length_at c.args.tail.now c.args.at ≡ c.from-length.result = rw high (omega (arith, read)) in
    sym (length_above c.args.tail.now c.args.at (omega arith) (omega arith))
