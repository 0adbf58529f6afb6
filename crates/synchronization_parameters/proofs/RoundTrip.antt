-- A consistent record whose numbers fit their fields has bytes that fill exactly its size and are read as itself, from any place and with anything behind; unless its sequence is a legacy one, they are written.
-- Assumes nothing.
use Prim.Native.Nat.{ℕ, ◌+◌}
use mathlib.Core.Path.{◌≡◌, sym, ap, ◌∙◌}
use mathlib.Core.Bool.{true, false}
use mathlib.Core.List.{List, [], ◌∷◌, ◌++◌}
use lib.ListN.{length, take, length-append}
use Rattle.wire.specs.Answer.{answer}
use Rattle.wire.specs.Numbers.{AllInWidth, one}
use Rattle.wire.proofs.ReadsBack.{Back, made-back, number-on, pair-on, address_on}
use Rattle.channel_sequence.specs.Sequences.{is_legacy}
use Rattle.channel_sequence_tlv.specs.SequenceTLVReader.{channel_sequence_record}
use Rattle.channel_sequence_tlv.proofs.SequenceTLVs as C
use Rattle.synchronization_parameters.specs.declared.synchronization_parameters_tlv.SynchronizationParametersTLV.{SynchronizationParametersTLV}
use Rattle.synchronization_parameters.specs.SynchronizationReader.{synchronization}
use Rattle.synchronization_parameters.specs.SynchronizationBytes.{consistent, size_of, fixed_bytes, bytes_of, numbers}
use Rattle.synchronization_parameters.proofs.Sizes.{length-fixed}

pub synchronization-back : (p : SynchronizationParametersTLV) {channels : List ℕ} → Back channel_sequence_record channels p.channel_sequence → AllInWidth (numbers p)
    → Back synchronization (fixed_bytes p ++ channels) p
unfolding synchronization fixed_bytes
synchronization-back p channels =
    number-on 1 _ (number-on 2 _ (number-on 1 _ (number-on 1 _
    (number-on 2 _ (number-on 2 _ (number-on 2 _
    (number-on 2 _ (number-on 2 _ (number-on 2 _
    (number-on 1 _ (number-on 1 _ (number-on 1 _ (number-on 1 _
    (address_on _ p.master_address (pair-on _ (number-on 2 _ (number-on 2 _ (λ rest. made-back _ channels))))))))))))))))))

-- the numbers of the sequence are the last ones
behind : (front : List (ℕ × ℕ)) {others : List (ℕ × ℕ)} → AllInWidth (front ++ others) → AllInWidth others
behind [] fit = fit
behind (n ∷ front) (one h fit) = behind front fit

pub channels-filled : (p : SynchronizationParametersTLV) → AllInWidth (numbers p) → length p.channel_sequence.channel_sequence.bytes ≡ 32
    → consistent p ≡ answer true → C.ChannelSequenceFilled p.channel_sequence
channels-filled p fit whole e = C.round_trip p.channel_sequence (behind (take 18 (numbers p)) fit) whole e

-- the bytes of a record: as many as its size says, and read as the record; one with a legacy sequence is not written
pub record SynchronizationFilled (p : SynchronizationParametersTLV) : Type 0 where
  pub bytes : List ℕ
  pub written : is_legacy p.channel_sequence.channel_sequence ≡ false → bytes_of p ≡ answer bytes
  pub size : size_of p ≡ answer (length bytes)
  pub back : Back synchronization bytes p

pub round_trip : (p : SynchronizationParametersTLV) → AllInWidth (numbers p) → length p.channel_sequence.channel_sequence.bytes ≡ 32
    → consistent p ≡ answer true → SynchronizationFilled p
round_trip p fit whole e =
    let w = channels-filled p fit whole e in
    let all : length (fixed_bytes p ++ w.bytes) ≡ 33 + length w.bytes =
    length-append (fixed_bytes p) w.bytes ∙ ap (λ (n : ℕ). n + length w.bytes) (length-fixed p) in
    record {
      bytes = fixed_bytes p ++ w.bytes;
      written = λ other. rw (w.written other);
      size = rw w.size (ap answer (sym all));
      back = synchronization-back p w.back fit;
    }
