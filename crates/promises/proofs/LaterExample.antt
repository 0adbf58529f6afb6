-- A frame and a later one, byte by byte: an item of type 5 is put in before the channel sequence item and the data path item, whose values get one more byte each.
-- Assumes nothing.
use Prim.Native.Nat.{ℕ, zero, suc, ◌<◌}
use native.Mathlib.Omega.{arith}
use mathlib.Core.Path.{◌≡◌, refl}
use mathlib.Core.List.{List, [], ◌∷◌, ◌++◌}
use lib.ListN.{get_or, replicate}
use Rattle.channel.specs.Channels.{encoding_of}
use Rattle.channel_sequence_tlv.specs.SequenceTLVReader.{channel_sequence_record}
use Rattle.tlv_items.specs.Items.{step_at}
use Rattle.tlv_items.specs.Walk.{walk_from}
use Rattle.action_frame.specs.Frames.{tail_of}
use Rattle.tlv_items.specs.Sent.{Sent}
use Rattle.promises.specs.Later.{as-data-path, as-channel-sequence, insert, grow, further, none, more, WholeFrame, Later, received}
use Rattle.promises.proofs.Demand3.{demand3}

abbrev head : List ℕ
head = 0x08 ∷ 0x10 ∷ 0x03 ∷ 0x00 ∷ 0x00 ∷ 0x01 ∷ 0x00 ∷ 0x00 ∷ 0x10 ∷ 0x00 ∷ 0x00 ∷ 0x00 ∷ []

-- 16 entries of one byte
abbrev channels : List ℕ
channels = 0x0F ∷ 0x00 ∷ 0x00 ∷ 0x03 ∷ 0x06 ∷ 0x00 ∷ replicate 16 0x06

abbrev pub before : List ℕ
before = head ++ (0x12 ∷ 0x16 ∷ 0x00 ∷ channels) ++ (0x0C ∷ 0x04 ∷ 0x00 ∷ 0x00 ∷ 0x02 ∷ 0x24 ∷ 0x00 ∷ [])

abbrev pub after : List ℕ
after = head ++ (0x05 ∷ 0x01 ∷ 0x00 ∷ 0xAA ∷ 0x12 ∷ 0x17 ∷ 0x00 ∷ channels) ++ (0xFF ∷ 0x0C ∷ 0x05 ∷ 0x00 ∷ 0x00 ∷ 0x02 ∷ 0x24 ∷ 0x00 ∷ 0xFF ∷ [])

-- each byte of a list, one by one
abbrev AllBytes : List ℕ → Type 0
AllBytes [] = Unit {0}
AllBytes (b ∷ rest) = (b < 256) × AllBytes rest

each : (s : List ℕ) → AllBytes s → (i : ℕ) → get_or s i 0 < 256
each [] h i = omega arith
each (b ∷ rest) h zero = h.0
each (b ∷ rest) h (suc i) = each rest h.1 i

pub whole_before : WholeFrame before
unfolding step_at walk_from
whole_before = record { bytes = each (tail_of before) (omega arith); long = omega arith; ending = refl }

pub later-after : Later before after
unfolding step_at walk_from channel_sequence_record encoding_of
later-after =
    let sequence : Sent = record { type = 0x12; value = channels } in
    let data-path : Sent = record { type = 0x0C; value = 0x00 ∷ 0x02 ∷ 0x24 ∷ 0x00 ∷ [] } in
    let new : Sent = record { type = 0x05; value = 0xAA ∷ [] } in
    record {
      items = _;
      changes =
          more (further sequence (grow data-path (0xFF ∷ []) (as-data-path refl refl) (omega arith)))
          (more (grow sequence (0xFF ∷ []) (as-channel-sequence refl refl) (omega arith)) (more (insert new (omega arith)) none));
      bytes = refl;
    }

pub same_received : received after ≡ received before
same_received = demand3.same before after whole_before later-after
