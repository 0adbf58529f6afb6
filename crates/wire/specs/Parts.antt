-- Parts of a slice.
use Rattle.std.specs.Prelude.{ℕ, ◌+◌, ◌-◌, List, take, drop}

-- Where a part lies that starts some bytes behind the start of a slice: a place in memory is a block and an offset in it.
abbrev pub part_at : ℕ → ℕ × ℕ → ℕ × ℕ
part_at from place = (place.0, from + place.1)

-- the bytes from one place up to another
abbrev pub between : List ℕ → ℕ → ℕ → List ℕ
between s at next = take (next - at) (drop at s)
