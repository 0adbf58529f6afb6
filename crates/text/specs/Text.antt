-- Letters and digits.
use Rattle.std.specs.Prelude.{ℕ, zero, suc, ◌+◌, ◌-◌, ◌/◌, ◌%◌, cond, List, [], ◌∷◌, ◌++◌, ltb}
use Prim.Native.Char.{code}
use Prim.Native.String.{String, [] as none, ◌∷◌ as ◌then◌}

-- the letters of a text, a byte each
abbrev pub text : String → List ℕ
text none = []
text (letter then rest) = code letter ∷ text rest

-- the digits of a number, the highest first, in so many places at most
unfoldable pub spelled : ℕ → ℕ → List ℕ
spelled zero n = []
spelled (suc places) n = cond (ltb n 10) ((code "0" + n) ∷ []) (spelled places (n / 10) ++ ((code "0" + n % 10) ∷ []))

-- no number has more places than one more than its value
abbrev pub decimal : ℕ → List ℕ
decimal n = spelled (suc n) n

-- a word and the number behind it
abbrev pub named : String → ℕ → List ℕ
named word n = text word ++ decimal n

-- the digit of a number below sixteen
abbrev pub hex_digit : ℕ → ℕ
hex_digit d = cond (ltb d 10) (code "0" + d) (code "A" + (d - 10))

-- two digits for each byte, the higher first
unfoldable pub hex : List ℕ → List ℕ
hex [] = []
hex (b ∷ bs) = hex_digit (b / 16) ∷ hex_digit (b % 16) ∷ hex bs
