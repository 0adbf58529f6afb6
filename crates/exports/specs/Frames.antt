-- The numbers of a header, and what is written of a frame and of an item.
use Rattle.std.specs.Prelude.{ℕ, List, [], ◌∷◌, get_or}
use Rattle.wire.specs.Answer.{Answer, answer, ◌>>=◌}
use Rattle.action_frame.specs.declared.AWDLActionFrame.{AWDLActionFrame}
use Rattle.action_frame.specs.Frames.{header_of, bytes_of}
use Rattle.tlv_items.specs.ItemBytes.{item_bytes}
use Rattle.exports.specs.Held.{u8, u32, fits, held, held_byte}

abbrev pub frame_numbers : AWDLActionFrame → List ℕ
frame_numbers f = f.subtype ∷ f.reserved ∷ f.phy_tx_time.0 ∷ f.target_tx_time.0 ∷ []

abbrev pub frame_largest : List ℕ
frame_largest = u8 ∷ u8 ∷ u32 ∷ u32 ∷ []

abbrev pub frame_of : List ℕ → AWDLActionFrame
frame_of ns = header_of (get_or ns 0 0) (get_or ns 1 0) (get_or ns 2 0) (get_or ns 3 0)

abbrev pub frame_in : List ℕ → Answer AWDLActionFrame
frame_in ns = held (fits ns frame_largest) (frame_of ns)

abbrev pub frame_bytes : List ℕ → List ℕ → Answer (List ℕ)
frame_bytes ns tail = frame_in ns >>= λ f. answer (bytes_of f tail)

abbrev pub item_bytes_in : ℕ → List ℕ → Answer (List ℕ)
item_bytes_in type value = held_byte type >>= λ t. item_bytes t value
