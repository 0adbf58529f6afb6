-- Offsets of the frame.
use Rattle.std.specs.Prelude.{ℕ, ◌+◌, cond, ◌&&◌, List, length, nat_le, Option, Some, None}
use Rattle.tlv_items.specs.declared.item.Item.{Item}

-- where the value of an item starts in the frame: behind the 12 bytes of the header, what stands before the item in the tail, and the 3 bytes
-- of its type and its length
abbrev pub value_in_frame : Item → ℕ
value_in_frame it = 12 + it.at + 3

-- The frame's offset of what has an offset in an item's value. There is none where the item does not lie within the frame, or the offset neither
-- within its value nor at the end of it.
abbrev pub offset_in_frame : List ℕ → Item → ℕ → Option ℕ
offset_in_frame frame it offset =
    cond (nat_le (value_in_frame it + it.length) (length frame) && nat_le offset it.length) (Some (value_in_frame it + offset)) None
