-- A record is lent as numbers, in the order of its fields; an address is six of them, and the bytes of a sequence 32.
use Rattle.std.specs.Prelude.{ℕ, Bool, true, false, cond, ◌&&◌, List, [], ◌∷◌, eqb, leb, replicate}
use Rattle.wire.specs.declared.refusal.Refusal.TheVariants.{Inconsistent}
use Rattle.wire.specs.Answer.{Answer, answer, require, ◌>>=◌, ◌>>◌}

-- the largest number that a field holds
abbrev pub u8 : ℕ
u8 = 255

abbrev pub u16 : ℕ
u16 = 65535

abbrev pub u32 : ℕ
u32 = 4294967295

-- a presence flag, and the kind of a channel
abbrev pub flag : ℕ
flag = 1

-- some fields of a byte each
abbrev pub octets : ℕ → List ℕ
octets n = replicate n u8

-- whether each number is one that its field holds, given the largest ones
abbrev pub fits : List ℕ → List ℕ → Bool
fits [] largest = true
fits (n ∷ ns) [] = false
fits (n ∷ ns) (most ∷ rest) = leb n most && fits ns rest

-- numbers that do not fit are refused before anything else is asked
abbrev pub held : {A : Type 0} → Bool → A → Answer A
held fit a = require fit Inconsistent >> answer a

-- a number that stands alone, in a field of a byte
abbrev pub held_byte : ℕ → Answer ℕ
held_byte n = held (leb n u8) n

abbrev pub flag_number : Bool → ℕ
flag_number there = cond there 1 0

-- an answer that is yes or no
abbrev pub flagged : Answer Bool → Answer ℕ
flagged a = a >>= λ b. answer (flag_number b)

abbrev pub is_there : ℕ → Bool
is_there n = eqb n 1
