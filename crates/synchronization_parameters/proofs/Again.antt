-- A record that was read, and whose sequence is no legacy one, is written again as it stood, and its fields are within their widths: each number gives back the bytes that it was read of.
-- Assumes nothing.
use Prim.Native.Nat.{ℕ, ◌≤◌, ◌<◌}
use native.Mathlib.Omega.{arith}
use mathlib.Core.Path.{◌≡◌, sym, ap, subst, ◌∙◌}
use mathlib.Core.Bool.{true, false}
use mathlib.Core.List.{List, ◌++◌}
use lib.ListN.{length, get_or, take}
use Rattle.wire.specs.Reading.{read}
use Rattle.wire.specs.Parts.{between}
use Rattle.wire.specs.Answer.{answer}
use Rattle.wire.specs.Numbers.{one}
use Rattle.wire.proofs.Bytes.{opened}
use Rattle.wire.proofs.Places.{between-both}
use Rattle.wire.proofs.Gives.{Gives, gives-give, gives-bind}
use Rattle.wire.proofs.Octets.{byte, low, high, Octets, gives-number, gives-pair, gives-address}
use Rattle.channel_sequence_tlv.specs.declared.channel_sequence_tlv.ChannelSequenceTLV.{ChannelSequenceTLV}
use Rattle.channel_sequence_tlv.specs.Widths.{ChannelSequenceInWidth}
use Rattle.channel_sequence_tlv.specs.SequenceTLVReader.{channel_sequence_record}
use Rattle.channel_sequence.specs.Sequences.{is_legacy}
use Rattle.channel_sequence_tlv.proofs.SequenceTLVs.{channel-sequence-lawful}
use Rattle.channel_sequence_tlv.proofs.ReadSequenceTLVs as C
use Rattle.synchronization_parameters.specs.declared.synchronization_parameters_tlv.SynchronizationParametersTLV.{SynchronizationParametersTLV}
use Rattle.synchronization_parameters.specs.SynchronizationReader.{synchronization}
use Rattle.synchronization_parameters.specs.SynchronizationBytes.{consistent, fixed_bytes, bytes_of}
use Rattle.synchronization_parameters.specs.Widths.{SynchronizationInWidth}
use Rattle.synchronization_parameters.proofs.Whole.{fields_of, fields-and-channels}

-- of a list of bytes, in which no element is 256 or more, the fixed part is what its fields are written as
fixed_same : (s : List ℕ) → ((i : ℕ) → get_or s i 0 < 256) → 33 ≤ length s → (c : ChannelSequenceTLV) → fixed_bytes (fields_of s c) ≡ take 33 s
unfolding fixed_bytes
fixed_same s small h c = subst (λ (l : List ℕ). fixed_bytes (fields_of l c) ≡ take 33 l) (opened 33 s h) (simp (byte, low, high, small))

pub fixed-again : (s : List ℕ) → ((i : ℕ) → get_or s i 0 < 256) → {p : SynchronizationParametersTLV} {size : ℕ} → synchronization s 0 ≡ read p size
    → fixed_bytes p ≡ take 33 s
fixed-again s small e = let w = fields-and-channels s e in ap fixed_bytes (sym w.made) ∙ fixed_same s small w.enough w.channels

pub written-again : (s : List ℕ) → ((i : ℕ) → get_or s i 0 < 256) → {p : SynchronizationParametersTLV} {size : ℕ} → synchronization s 0 ≡ read p size
    → is_legacy p.channel_sequence.channel_sequence ≡ false → bytes_of p ≡ answer (between s 0 size)
written-again s small {p} {size} e other =
    let w = fields-and-channels s e in
    let channels = C.written-again s small 33 w.entries (ap (λ (p : SynchronizationParametersTLV). is_legacy p.channel_sequence.channel_sequence) w.made ∙ other) in
    let ahead = channel-sequence-lawful.ahead w.enough w.entries in
    let fixed : fixed_bytes (fields_of s w.channels) ≡ between s 0 33 = fixed_same s small w.enough w.channels in
    let written : bytes_of (fields_of s w.channels) ≡ answer (fixed_bytes (fields_of s w.channels) ++ between s 33 size) = rw channels in
    ap bytes_of (sym w.made) ∙ written ∙ ap (λ (b : List ℕ). answer (b ++ between s 33 size)) fixed ∙ ap answer (between-both s 0 33 size (omega arith) ahead.0)

pub read-consistent : (s : List ℕ) {p : SynchronizationParametersTLV} {size : ℕ} → synchronization s 0 ≡ read p size
    → (length p.channel_sequence.channel_sequence.bytes ≡ 32) × (consistent p ≡ answer true)
read-consistent s e =
    let w = fields-and-channels s e in
    let c = C.read-consistent s 33 w.entries in
    (rw (← w.made) c.0, rw (← w.made) c.1)

-- the fields that were read of bytes are within their widths
channels-in-width : (s : List ℕ) → Octets s → Gives s channel_sequence_record ChannelSequenceInWidth
channels-in-width s p = record { of = λ {at} e. C.read-in-width s p.small at e }

in-width : (s : List ℕ) → Octets s → Gives s synchronization SynchronizationInWidth
unfolding synchronization
in-width s p =
    gives-bind (gives-number p 1) λ _ a. gives-bind (gives-number p 2) λ _ b. gives-bind (gives-number p 1) λ _ c. gives-bind (gives-number p 1) λ _ d.
    gives-bind (gives-number p 2) λ _ e. gives-bind (gives-number p 2) λ _ f. gives-bind (gives-number p 2) λ _ g.
    gives-bind (gives-number p 2) λ _ h. gives-bind (gives-number p 2) λ _ i. gives-bind (gives-number p 2) λ _ j.
    gives-bind (gives-number p 1) λ _ k. gives-bind (gives-number p 1) λ _ l. gives-bind (gives-number p 1) λ _ m. gives-bind (gives-number p 1) λ _ n.
    gives-bind (gives-address p) λ _ places.
    gives-bind (gives-pair p) λ _ o.
    gives-bind (gives-number p 2) λ _ t. gives-bind (gives-number p 2) λ _ u.
    gives-bind (channels-in-width s p) λ _ rest.
    gives-give _
    (record {
      numbers = one a (one b (one c (one d (one e (one f (one g (one h (one i (one j (one k (one l (one m (one n (one o.0 (one o.1 (one t (one u rest.numbers)))))))))))))))));
      address = places.small;
      sequence = rest.sequence;
    })

pub read-in-width : (s : List ℕ) → ((i : ℕ) → get_or s i 0 < 256) → (at : ℕ) {next : ℕ} {p : SynchronizationParametersTLV} → synchronization s at ≡ read p next
    → SynchronizationInWidth p
read-in-width s small at e = (in-width s (record { small = small })).of {at = at} e
