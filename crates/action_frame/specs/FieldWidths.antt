-- The fields of a header, by their widths in order: where one that is cut is short goes by these.
use Rattle.std.specs.Prelude.{ℕ, List, [], ◌∷◌}

-- the two fixed bytes, each by itself, the subtype with the reserved byte, and the two stamps
abbrev pub field_widths : List ℕ
field_widths = 1 ∷ 1 ∷ 2 ∷ 4 ∷ 4 ∷ []
