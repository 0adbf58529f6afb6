-- The lines of one frame, computed from their definition.
-- Assumes nothing.
use mathlib.Core.Path.{◌≡◌, refl}
use mathlib.Core.List.{[], ◌∷◌}
use Rattle.tlv_items.specs.Items.{step_at}
use Rattle.tlv_items.specs.Walk.{walk_from}
use Rattle.text.specs.Text.{text, spelled}
use Rattle.report.specs.Lines.{dump_lines}

example : dump_lines (0x08 ∷ 0x10 ∷ 0x03 ∷ 0 ∷ 0 ∷ 1 ∷ 0 ∷ 0 ∷ 0x10 ∷ 0 ∷ 0 ∷ 0 ∷ 0x0C ∷ 4 ∷ 0 ∷ 0 ∷ 2 ∷ 0x24 ∷ 0 ∷ [])
    ≡ text "frame subtype=3 phy=256 target=16 delta=240\n"
    ∷ text "item at=12 type=12 length=4\n"
    ∷ text "data flags=512 size=4\n"
    ∷ text "end whole items=1\n"
    ∷ []
unfolding spelled step_at walk_from
example = refl
