-- A step that finds an item counts it, at a place further on; one that ends the walk gives its report.
-- Assumes nothing.
use Rattle.std.proofs.Common.{arith, sym}
use Rattle.tlv_items.proofs.Steps.{step-stands}
use Rattle.tlv_items.proofs.Walks.{counted-item, counted-all}
use Rattle.tlv_items.specs.Walk.{whole, cut}
use Rattle.tlv_items.proofs.walk.end.Goals as goal

pub loop-behind_value-smaller : goal.loop-behind_value-smaller
loop-behind_value-smaller c = omega (arith, step-stands _ _ (sym c.in-Item.ensures))

pub loop-behind_value-preserved : goal.loop-behind_value-preserved
loop-behind_value-preserved c =
    let w = step-stands _ _ (sym c.in-Item.ensures) in
    (counted-item c.loop-behind_value.invariant.0 (sym c.in-Item.ensures), omega arith, omega arith)

pub returns-in-Whole : goal.returns-in-Whole
returns-in-Whole c = counted-all whole c.loop-behind_value.invariant.0 (sym c.in-Whole.ensures)

pub returns-in-Cut : goal.returns-in-Cut
returns-in-Cut c = counted-all (cut c.in-Cut.place) c.loop-behind_value.invariant.0 (sym c.in-Cut.ensures)
