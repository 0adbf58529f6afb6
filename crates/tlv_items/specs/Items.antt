-- An item: how it is read, what a step of the walk finds at a place, and its value.
use Rattle.std.specs.Prelude.{ℕ, ◌+◌, cond, List, [], eqb, length}
use Rattle.wire.specs.Reading.{Reading, Reader, read, refused, field, give, ◌>>=◌}
use Rattle.wire.specs.Numbers.{number}
use Rattle.tlv_items.specs.declared.item.Item.{Item}
use Rattle.tlv_items.specs.declared.item.Step.{Step}

-- type (1), length (2), value; the item keeps the place at which its type stands
abbrev pub item : ℕ → Reader Item
item place = do
  type ← number 1
  size ← number 2
  value ← field size
  give (record { at = place; tlv_type = type; length = size })

abbrev pub step_of : ℕ → Reading Item → Step
step_of at (read it next) = Step.Item it next
step_of at (refused why) = Step.Cut at

-- Used up: whole. An item that is not all there: cut where it starts. A place past the end is cut too; no walk comes to one.
unfoldable pub step_at : List ℕ → ℕ → Step
step_at tail at = cond (eqb at (length tail)) Step.Whole (step_of at (item at tail at))

abbrev pub bytes_found : Reading (List ℕ) → List ℕ
bytes_found (read bytes next) = bytes
bytes_found (refused why) = []

-- an item's value stands behind its type and its length; numbers that do not lie within the tail have an empty one
abbrev pub value_of : List ℕ → Item → List ℕ
value_of tail it = bytes_found (field it.length tail (it.at + 3))

-- where it starts: behind the type and the length, or, where it is such an empty one, at the tail's start
abbrev pub start_found : ℕ → Reading (List ℕ) → ℕ
start_found at (read bytes next) = at
start_found at (refused why) = 0

abbrev pub value_start : List ℕ → Item → ℕ
value_start tail it = start_found (it.at + 3) (field it.length tail (it.at + 3))

-- the value of what stands at a place: that of the item; where there is none, an empty one at the tail's start
abbrev pub step_value : List ℕ → Step → List ℕ
step_value tail (Step.Item it next) = value_of tail it
step_value tail Step.Whole = []
step_value tail (Step.Cut at) = []

abbrev pub value_at : List ℕ → ℕ → List ℕ
value_at tail at = step_value tail (step_at tail at)

abbrev pub step_value_start : List ℕ → Step → ℕ
step_value_start tail (Step.Item it next) = value_start tail it
step_value_start tail Step.Whole = 0
step_value_start tail (Step.Cut at) = 0

abbrev pub value_start_at : List ℕ → ℕ → ℕ
value_start_at tail at = step_value_start tail (step_at tail at)
