-- What is read is consistent, within its widths and, unless its sequence is a legacy one, written again as it stood, since its sequence is, and each of the six bytes is its number's.
-- Assumes nothing.
use Prim.Native.Nat.{ℕ, ◌+◌, ◌*◌, ◌<◌}
use native.Mathlib.Omega.{arith}
use mathlib.Core.Logic.{◌↔◌}
use mathlib.Core.Path.{◌≡◌, sym, ap, ◌∙◌}
use mathlib.Core.Bool.{true, false}
use mathlib.Core.List.{List, ◌∷◌, ◌++◌}
use lib.ListN.{length, get_or}
use Rattle.wire.specs.Reading.{read}
use Rattle.wire.specs.FromBytes.{ReadFromBytes}
use Rattle.wire.specs.Answer.{answer}
use Rattle.wire.specs.Numbers.{none, one}
use Rattle.wire.specs.Parts.{between}
use Rattle.wire.proofs.Bytes.{from, field-whole}
use Rattle.wire.proofs.Places.{field-between, between-both}
use Rattle.wire.proofs.Octets.{byte, low, high}
use Rattle.wire.proofs.ReadsBack.{from_bytes}
use Rattle.channel_sequence_tlv.specs.declared.channel_sequence_tlv.ChannelSequenceTLV.{ChannelSequenceTLV}
use Rattle.channel_sequence_tlv.specs.SequenceTLVs.{consistent, head_bytes, bytes_of}
use Rattle.channel_sequence_tlv.specs.SequenceTLVReader.{channel_sequence_record}
use Rattle.channel_sequence_tlv.specs.Widths.{ChannelSequenceInWidth}
use Rattle.channel_sequence.proofs.Again as Q
use Rattle.channel_sequence.proofs.ReadConsistent as Q'
use Rattle.channel_sequence.proofs.RoundTrip.{sequence-lawful}
use Rattle.channel_sequence.specs.Sequences.{is_legacy}
use Rattle.channel_sequence_tlv.proofs.SequenceTLVs.{headed_by, head-and-entries, round_trip}

pub read-consistent : (s : List ℕ) (at : ℕ) {c : ChannelSequenceTLV} {next : ℕ} → channel_sequence_record s at ≡ read c next
    → (length c.channel_sequence.bytes ≡ 32) × (consistent c ≡ answer true)
read-consistent s at e =
    let w = head-and-entries s at e in
    let q = Q'.read-consistent (get_or s (at + 1) 0) s (at + 6) w.entries in
    (rw (← w.made) q.1, rw (← w.made) q.2)

module _ (s : List ℕ) (small : (i : ℕ) → get_or s i 0 < 256) (at : ℕ) where
  pub read-in-width : {c : ChannelSequenceTLV} {next : ℕ} → channel_sequence_record s at ≡ read c next → ChannelSequenceInWidth c
  read-in-width e =
      let w = head-and-entries s at e in
      let q = Q'.read-consistent (get_or s (at + 1) 0) s (at + 6) w.entries in
      let fill : get_or s (at + 4) 0 + 256 * get_or s (at + 5) 0 < 65536 = omega (arith, small (at + 4), small (at + 5)) in
      let encoding : w.held.encoding < 256 = rw q.0 (small (at + 1)) in
      rw (← w.made) (record {
        numbers = one encoding (one (small (at + 2)) (one (small (at + 3)) (one fill none)));
        sequence = Q'.read-in-width (get_or s (at + 1) 0) (small (at + 1)) s (record { small = small }) (at + 6) w.entries;
      })

  pub written-again : {c : ChannelSequenceTLV} {next : ℕ} → channel_sequence_record s at ≡ read c next → is_legacy c.channel_sequence ≡ false
      → bytes_of c ≡ answer (between s at next)
  written-again {c} {next} e other =
      let w = head-and-entries s at e in
      let q = Q'.read-consistent (get_or s (at + 1) 0) s (at + 6) w.entries in
      let entries = Q.written-again (get_or s (at + 1) 0) s (at + 6) w.entries (ap (λ (c : ChannelSequenceTLV). is_legacy c.channel_sequence) w.made ∙ other) in
      let head : List ℕ = get_or s at 0 ∷ from s at 1 5 in
      let four = small (at + 4) in
      let five = small (at + 5) in
      let same : head_bytes (headed_by s at w.held) ≡ head =
      rw (
        q.0,
        w.count,
        byte _ (small (at + 1)),
        byte _ (small (at + 2)),
        byte _ (small (at + 3)),
        low _ (get_or s (at + 5) 0) four,
        high _ _ four five,
      ) in
      let here : head ≡ between s at (at + 6) = field-between 6 s at (field-whole 5 s at (omega (arith, w.inside))) in
      let ahead = (sequence-lawful (get_or s (at + 1) 0)).ahead w.inside w.entries in
      let written : bytes_of (headed_by s at w.held) ≡ answer (between s at (at + 6) ++ between s (at + 6) next) = rw entries (ap (λ (h : List ℕ). answer (h ++ between s (at + 6) next)) (same ∙ here)) in
      ap bytes_of (sym w.made) ∙ written ∙ ap answer (between-both s at (at + 6) next (omega arith) ahead.0)

consistent-read : (c : ChannelSequenceTLV) → ChannelSequenceInWidth c → consistent c ≡ answer true → ReadFromBytes channel_sequence_record c
consistent-read c fits e =
    let w = round_trip c fits.numbers fits.sequence.many e in
    from_bytes w.back (w.octets (record { small = fits.sequence.small })).small

pub consistent-exactly : (c : ChannelSequenceTLV) → ChannelSequenceInWidth c → (consistent c ≡ answer true) ↔ ReadFromBytes channel_sequence_record c
consistent-exactly c fits = (consistent-read c fits, λ r. (read-consistent r.bytes 0 r.reads).1)
