-- The value stands behind the type and the length.
-- Assumes nothing.
use Rattle.std.proofs.Common.{◌+◌, [], ◌∷◌, refl, sym, arith}
use Rattle.tlv_items.proofs.Steps.{step-stands}
use Rattle.exports.proofs.item_calls.awdl_step.Goals as goal

pub overflow_add-step : goal.overflow_add-step
overflow_add-step c =
    let stands = step-stands c.args.tail.now c.args.at (sym c.in-Item.ensures) in
    omega (arith, stands.behind, stands.inside)

pub returns-in-Item : goal.returns-in-Item
returns-in-Item c =
    let stands = step-stands c.args.tail.now c.args.at (sym c.in-Item.ensures) in
    let item = c.in-Item.item in
    rw (sym c.in-Item.ensures)
    (record {
      number = refl;
      numbers = λ i. item.at ∷ c.from.ensures i ∷ item.length ∷ ((sym stands.place) i + 3) ∷ c.in-Item.next ∷ [];
    })
