-- The tests and the step that led to a line are those of `at_place`.
-- Assumes nothing.
use Rattle.std.proofs.Common.{sym, ◌∙◌}
use Rattle.tlv_items.proofs.Steps.{step-stands, step_cut}
use Rattle.report.specs.Lines.{item_line}
use Rattle.report.proofs.Room.{shows-line}
use Rattle.report.proofs.Places.{steps-to}
use Rattle.report.proofs.marks.item_line.Goals as goal

pub returns-in-Item : goal.returns-in-Item
returns-in-Item c =
    let a = c.args in
    let told = sym c.in-Item.ensures in
    let there = (step-stands a.tail.now a.at told).place in
    shows-line {l = item_line c.in-Item.item} (steps-to a.tail.now a.at a.items c.if-at-items.false c.if-tail-at.false told ∙ rw c.mark_behind.ensures)
    (rw there (rw (c.of_usize-place.ensures, c.from-tlv_type.ensures, c.of_usize.ensures) at c.item-n.ensures))

pub returns-in-Whole : goal.returns-in-Whole
returns-in-Whole c =
    let a = c.args in
    shows-line (steps-to a.tail.now a.at a.items c.if-at-items.false c.if-tail-at.false (sym c.in-Whole.ensures))
    (rw c.of_usize-count.ensures at c.one_number-n.ensures)

pub returns-in-Cut : goal.returns-in-Cut
returns-in-Cut c =
    let a = c.args in
    let told = sym c.in-Cut.ensures in
    let there = step_cut a.tail.now a.at told in
    shows-line (steps-to a.tail.now a.at a.items c.if-at-items.false c.if-tail-at.false told)
    (rw there (rw (c.of_usize-place.ensures, c.of_usize-count.ensures) at c.two_numbers-n.ensures))
