-- What the tests tell of an offset in the frame: an item that lies outside has none, and in one that lies within the offset decides.
-- Assumes nothing.
use Rattle.std.proofs.Common.{◌≡◌, ℕ, ◌+◌, ◌<◌, ◌≤◌, List, length, Some, None, le-leb}
use borrow.Author.Tests.{lt-leb}
use Rattle.tlv_items.specs.declared.item.Item.{Item}
use Rattle.action_frame.specs.Offsets.{value_in_frame, offset_in_frame}

module _ (frame : List ℕ) (it : Item) (offset : ℕ) where
  pub item-outside : length frame < value_in_frame it + it.length → None ≡ offset_in_frame frame it offset
  item-outside h = rw (lt-leb (value_in_frame it + it.length) (length frame) h)

  module _ (inside : value_in_frame it + it.length ≤ length frame) where
    pub offset-outside : it.length < offset → None ≡ offset_in_frame frame it offset
    offset-outside h = rw (le-leb (value_in_frame it + it.length) (length frame) inside, lt-leb offset it.length h)

    pub offset-inside : offset ≤ it.length → Some (value_in_frame it + offset) ≡ offset_in_frame frame it offset
    offset-inside h = rw (le-leb (value_in_frame it + it.length) (length frame) inside, le-leb offset it.length h)
