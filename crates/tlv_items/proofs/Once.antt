-- Only one answer meets the statement of `end`: what it says can be turned back into the answer. The other calls' statements are equations, or those of wire.
-- Assumes nothing.
use Prim.Native.Nat.{ℕ}
use mathlib.Core.Path.{◌≡◌, refl}
use Rattle.wire.proofs.Once.{only_one}
use Rattle.tlv_items.specs.declared.item.End.{End}
use Rattle.tlv_items.specs.Walk.{Ending, whole, cut, EndReport}
use Rattle.tlv_items.specs.Said.{said_end}

pub once_end : {m : EndReport} {a b : End} → said_end a ≡ m → said_end b ≡ m → a ≡ b
once_end = only_one said_end (λ m. undo m.count m.ending) (elim [ End.Whole items ↦ refl | End.Cut at items ↦ refl ])
  where
    undo : ℕ → Ending → End
    undo items whole = End.Whole items
    undo items (cut at) = End.Cut at items
