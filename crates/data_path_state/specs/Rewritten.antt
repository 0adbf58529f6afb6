-- What of a value comes back when its record is written again: its bytes in their order, each field as it stands. Only what a channel word
-- carries beside its channel, and the dropped bits of the options and of the extended word, come back as 0.
use Rattle.std.specs.Prelude.{ℕ, ◌%◌, ◌^◌, cond, List, [], ◌∷◌, ◌++◌, eqb, get_or, drop}
use Rattle.std.specs.Int.Bits.{bit_and}
use Rattle.wire.specs.Reading.{Reader, field, give, when, ◌>>=◌}
use Rattle.wire.specs.Numbers.{little, bit}

-- bytes that stand where a bit of a word is set
abbrev pub where_bit : ℕ → List ℕ → Reader (List ℕ) → Reader (List ℕ)
where_bit k word = when (bit k (little word)) []

-- a map, whose low byte is odd, keeps the low three bits of that byte, and a single channel all of it
abbrev pub channel_byte : ℕ → ℕ
channel_byte low = cond (bit 0 low) (low % 2 ^ 3) low

-- the high byte is 0
abbrev pub channel_again : Reader (List ℕ)
channel_again = do
  word ← field 2
  give (channel_byte (get_or word 0 0) ∷ 0 ∷ [])

-- the options keep 0xFFFFFE6A, lowest byte first
abbrev pub options_again : List ℕ → List ℕ
options_again options = bit_and (get_or options 0 0) 0x6A ∷ bit_and (get_or options 1 0) 0xFE ∷ drop 2 options

-- a second word follows the options where the length is 8
abbrev pub unicast_again : Reader (List ℕ)
unicast_again = do
  length ← field 2
  options ← field 4
  second ← when (eqb (little length) 8) [] (field 4)
  give (length ++ options_again options ++ second)

-- the extended word keeps 0xFF7F, lowest byte first
abbrev pub word_again : List ℕ → List ℕ
word_again word = bit_and (get_or word 0 0) 0x7F ∷ drop 1 word

abbrev pub extended_again : Reader (List ℕ)
extended_again = do
  word ← field 2
  trigger ← where_bit 0 word (field 2)
  rlfc ← where_bit 2 word (field 4)
  stats ← where_bit 5 word (field 12)
  give (word_again word ++ trigger ++ rlfc ++ stats)

abbrev pub rewritten : Reader (List ℕ)
rewritten = do
  flags ← field 2
  country ← where_bit 8 flags (field 3)
  channel ← where_bit 9 flags channel_again
  bssid ← where_bit 0 flags (field 8)
  infra ← where_bit 1 flags (field 6)
  awdl ← where_bit 2 flags (field 6)
  unicast ← where_bit 12 flags unicast_again
  extended ← where_bit 15 flags extended_again
  give (flags ++ country ++ channel ++ bssid ++ infra ++ awdl ++ unicast ++ extended)
