-- An action frame: its header, which is read and written, and the tail behind it.
use Rattle.std.specs.Prelude.{ℕ, ◌^◌, ◌<◌, List, [], ◌∷◌, ◌++◌, drop, ◌==◌}
use Rattle.wire.specs.declared.refusal.Refusal.{Refusal}
use Rattle.wire.specs.declared.refusal.Refusal.TheVariants.{NotAction, NotVersion}
use Rattle.wire.specs.Reading.{Reader, give, ◌>>=◌}
use Rattle.wire.specs.Answer.{asked, require}
use Rattle.wire.specs.Numbers.{number, little_bytes, with_reserved, pair_bytes}
use Rattle.action_frame.specs.declared.AWDLActionFrame.{AWDLActionFrame}

-- a byte that has to have a value
abbrev pub fixed_byte : ℕ → Refusal → Reader (Unit {0})
fixed_byte value why = do
  byte ← number 1
  asked (require (byte == value) why)

abbrev pub header_of : ℕ → ℕ → ℕ → ℕ → AWDLActionFrame
header_of subtype reserved phy target =
    record { subtype = subtype; reserved = reserved; phy_tx_time = record { 0 = phy }; target_tx_time = record { 0 = target } }

abbrev pub zero_frame : AWDLActionFrame
zero_frame = header_of 0 0 0 0

-- what stands behind the two fixed bytes: the subtype with its reserved byte, and the stamps
abbrev pub fields : Reader AWDLActionFrame
fields = do
  both ← with_reserved
  phy ← number 4
  target ← number 4
  give (header_of both.0 both.1 phy target)

abbrev pub header : Reader AWDLActionFrame
header = do
  _ ← fixed_byte 0x08 NotAction
  _ ← fixed_byte 0x10 NotVersion
  fields

-- a frame that is shorter than its header has none
abbrev pub tail_of : List ℕ → List ℕ
tail_of frame = drop 12 frame

unfoldable pub header_bytes : AWDLActionFrame → List ℕ
header_bytes f =
    (0x08 ∷ []) ++ (0x10 ∷ []) ++ pair_bytes f.subtype f.reserved
    ++ little_bytes 4 f.phy_tx_time.0 ++ little_bytes 4 f.target_tx_time.0

abbrev pub bytes_of : AWDLActionFrame → List ℕ → List ℕ
bytes_of f tail = header_bytes f ++ tail

-- the numbers of a header stand within their widths, as those of the code do
pub record InWidth (f : AWDLActionFrame) : Type 0 where
  pub subtype : f.subtype < 256
  pub reserved : f.reserved < 256
  pub phy : f.phy_tx_time.0 < 2 ^ 32
  pub target : f.target_tx_time.0 < 2 ^ 32
