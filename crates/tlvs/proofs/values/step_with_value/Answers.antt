-- The step was found at the place, so that its item's value lies within the tail, from behind the length to the place behind it.
-- Assumes nothing.
use Rattle.std.proofs.Common.{refl, sym, ◌∙◌, arith}
use Rattle.tlv_items.proofs.Steps.{step-stands, stands-value}
use Rattle.tlvs.proofs.values.step_with_value.Goals as goal

pub overflow_add-result : goal.overflow_add-result
overflow_add-result c = omega (arith, step-stands _ _ (sym c.step.ensures ∙ c.in-Item.is))

pub slice_bounds-result-count : goal.slice_bounds-result-count
slice_bounds-result-count c = omega (arith, step-stands _ _ (sym c.step.ensures ∙ c.in-Item.is))

pub slice_bounds-result-start : goal.slice_bounds-result-start
slice_bounds-result-start c = omega (arith, step-stands _ _ (sym c.step.ensures ∙ c.in-Item.is))

pub slice_bounds-result-end : goal.slice_bounds-result-end
slice_bounds-result-end c = omega (arith, step-stands _ _ (sym c.step.ensures ∙ c.in-Item.is))

pub returns-in-Item : goal.returns-in-Item
returns-in-Item c =
    let item = sym c.step.ensures ∙ c.in-Item.is in
    let w = step-stands _ _ item in
    (sym item, rw (item, stands-value w) refl, rw (item, stands-value w, w.place) refl)
