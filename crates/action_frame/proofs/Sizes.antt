-- The sizes of what is written of a frame.
-- Assumes nothing.
use Rattle.std.proofs.Common.{◌≡◌, ℕ, ◌+◌, List, length, refl, length-append}
use Rattle.action_frame.specs.declared.AWDLActionFrame.{AWDLActionFrame}
use Rattle.action_frame.specs.Frames.{header_bytes, bytes_of}

pub length-header : (f : AWDLActionFrame) → length (header_bytes f) ≡ 12
unfolding header_bytes
length-header f = refl

pub length-bytes : (f : AWDLActionFrame) (tail : List ℕ) → length (bytes_of f tail) ≡ 12 + length tail
length-bytes f tail = rw (length-append (header_bytes f) tail, length-header f)
