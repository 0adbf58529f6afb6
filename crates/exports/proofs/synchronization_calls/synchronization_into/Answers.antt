-- Where the fixed part is short its first short field is told, and else the sequence is read behind it.
-- Assumes nothing.
use Rattle.std.proofs.Common.{ℕ, List, ◌≡◌, ◌≤◌, ◌++◌, refl, ◌∙◌, arith, length, take, drop, length-drop}
use Rattle.std.specs.Prelude.{Result}
use Rattle.wire.specs.declared.refusal.Refusal.{Refusal}
use Rattle.wire.specs.Reading.{Reading, onward, read, refused}
use Rattle.channel_sequence_tlv.specs.declared.channel_sequence_tlv.ChannelSequenceTLV.{ChannelSequenceTLV}
use Rattle.channel_sequence_tlv.specs.SequenceTLVReader.{channel_sequence_record}
use Rattle.synchronization_parameters.specs.declared.synchronization_parameters_tlv.SynchronizationParametersTLV.{SynchronizationParametersTLV}
use Rattle.synchronization_parameters.specs.SynchronizationReader.{synchronization}
use Rattle.synchronization_parameters.proofs.Whole.{fields_of, all-fields, fixed-short}
use Rattle.exports.specs.Laid.{beside}
use Rattle.exports.specs.Sequences.{channel_sequence_numbers}
use Rattle.exports.specs.Synchronizations.{synchronization_numbers}
use Rattle.exports.proofs.Laid.{put-behind, onto}
use Rattle.exports.proofs.synchronization_calls.synchronization_into.Goals as goal

whole : (s fixed ns : List ℕ) (r : Result ℕ Refusal) → 33 ≤ length s → (m : Reading ChannelSequenceTLV) → channel_sequence_record s 33 ≡ m
    → ((p : SynchronizationParametersTLV) (next : ℕ) → synchronization s 0 ≡ read p next → fixed ≡ take 24 (synchronization_numbers p))
    → beside r ns ≡ onward m (λ c p. read (channel_sequence_numbers c) p)
    → beside r (fixed ++ ns) ≡ onward (onward m (λ c p. read (fields_of s c) p)) (λ q p. read (synchronization_numbers q) p)
whole s fixed ns r enough (read c p) e laid behind = onto fixed ns r behind ∙ rw (laid (fields_of s c) p (all-fields s enough ∙ rw e))
whole s fixed ns r enough (refused why) e laid behind = onto fixed ns r behind

pub returns-then-s-lt33 : goal.returns-then-s-lt33
returns-then-s-lt33 c = rw (fixed-short c.args.s.now (omega arith), c.first_short.ensures)

pub returns : goal.returns
returns c =
    let s = c.args.s.now in
    let ns = c.args.numbers.now in
    let enough : 33 ≤ length s = omega arith in
    let fixed = c.put_fixed.new.numbers in
    rw (
      put-behind fixed (drop 24 ns) c.channel_sequence_into.new.numbers 24 36 (omega arith) refl (simp length-drop (omega arith)),
      all-fields s enough,
    )
    (whole s fixed _ c.channel_sequence_into.result enough (channel_sequence_record s 33) refl c.put_fixed.ensures c.channel_sequence_into.ensures)
