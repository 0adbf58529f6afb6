-- A step that is an item stands for bytes of the tail.
-- Assumes nothing.
use Rattle.std.proofs.Common.{sym, ◌∙◌}
use Rattle.tlvs.proofs.Searches.{step_less}
use Rattle.ask.proofs.items.walk.Goals as goal

pub loop-next-smaller : goal.loop-next-smaller
loop-next-smaller c = step_less _ _ (sym c.in-Item.is ∙ c.step_with_value-both.ensures.0)
