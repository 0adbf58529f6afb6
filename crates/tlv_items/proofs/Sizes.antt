-- An item whose size was given has a value that its length field can say, and its bytes are as many as the size says.
-- Assumes nothing.
use Prim.Native.Nat.{ℕ, ◌+◌, ◌≤◌}
use native.Mathlib.Omega.{arith}
use mathlib.Core.Path.{◌≡◌, refl, ap}
use mathlib.Core.Bool.{Bool, true, false}
use mathlib.Core.List.{List}
use lib.Dec.{leb}
use lib.ListN.{length}
use borrow.Author.Tests.{leb-true, le-leb}
use Rattle.wire.specs.Answer.{answer}
use Rattle.wire.specs.Writing.{length_of}
use Rattle.tlv_items.specs.ItemBytes.{type_length_value, item_bytes, item_size}

pub record ItemSized (size n : ℕ) : Type 0 where
  pub short : size ≤ 65535
  pub bytes : n ≡ 3 + size

pub item-sized : (size : ℕ) {n : ℕ} → item_size size ≡ answer n → ItemSized size n
item-sized size {n} e = go (leb size 65535) refl
  where
    go : (b : Bool) → leb size 65535 ≡ b → ItemSized size n
    go true q = let e' = rw q at e in record { short = leb-true size 65535 q; bytes = cc }
    go false q = let e' = rw q at e in cc

pub sized-bytes : (type : ℕ) (value : List ℕ) → length value ≤ 65535 → item_bytes type value ≡ answer (type_length_value type value)
sized-bytes type value h = rw (le-leb (length value) 65535 h)

-- the size is the number of bytes that are written
pub item-length : (type : ℕ) (value : List ℕ) → length (type_length_value type value) ≡ 3 + length value
item-length type value = omega arith

pub size-length : (type : ℕ) (value : List ℕ) → length_of (item_bytes type value) ≡ item_size (length value)
size-length type value = go (leb (length value) 65535) refl
  where
    go : (b : Bool) → leb (length value) 65535 ≡ b → length_of (item_bytes type value) ≡ item_size (length value)
    go true q = rw q (ap answer (item-length type value))
    go false q = rw q
