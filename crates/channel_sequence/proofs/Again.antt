-- A sequence that was read, and is no legacy one, is written again as it stood: its field was kept whole.
-- Assumes nothing.
use Prim.Native.Nat.{ℕ, ◌-◌, ◌*◌}
use mathlib.Core.Path.{◌≡◌, refl, sym, ap, ◌∙◌}
use mathlib.Core.Bool.{Bool, true, false}
use mathlib.Core.List.{List}
use lib.Dec.{eqb}
use lib.ListN.{length, replicate}
use lib.Seq.{take_at}
use Rattle.wire.specs.Reading.{read}
use Rattle.wire.specs.Answer.{answer}
use Rattle.wire.specs.Parts.{between}
use Rattle.wire.proofs.Places.{field-between}
use Rattle.channel.specs.declared.channel.ChannelEncoding.{ChannelEncoding}
use Rattle.channel.specs.declared.channel.ChannelEncoding.TheVariants.{Simple, Legacy, OpClass}
use Rattle.channel.specs.Channels.{encoding_of, entry_size}
use Rattle.channel_sequence.specs.declared.channel_sequence.ChannelSequence.{ChannelSequence}
use Rattle.channel_sequence.specs.Sequences.{is_legacy, bytes_of}
use Rattle.channel_sequence.specs.SequenceReader.{kept_bytes, sequence}
use Rattle.channel_sequence.proofs.ReadConsistent.{sequence_in, sequence-field, padded-consistent}

not-legacy : (n : ℕ) → encoding_of n ≡ answer Legacy → eqb n 1 ≡ false → ⊥
unfolding encoding_of
not-legacy n found other = go (eqb n 0) (eqb n 3) refl refl
  where
    go : (b d : Bool) → eqb n 0 ≡ b → eqb n 3 ≡ d → ⊥
    go true d e f = cc (rw e at found)
    go false true e f = cc (rw (e, other, f) at found)
    go false false e f = cc (rw (e, other, f) at found)

-- only the flags of a legacy sequence lose bits
kept_whole : (n : ℕ) (encoding : ChannelEncoding) (bytes : List ℕ) → encoding_of n ≡ answer encoding → eqb n 1 ≡ false → kept_bytes encoding bytes ≡ bytes
kept_whole n Simple bytes found other = refl
kept_whole n Legacy bytes found other = absurd (not-legacy n found other)
kept_whole n OpClass bytes found other = refl

pub written-again : (n : ℕ) (s : List ℕ) (at : ℕ) {q : ChannelSequence} {next : ℕ} → sequence n s at ≡ read q next → is_legacy q ≡ false
    → bytes_of q ≡ answer (between s at next)
written-again n s at {q} {next} e other =
    let w = sequence-field n s at e in
    let kept : List ℕ = kept_bytes w.encoding w.bytes in
    let right = padded-consistent w.encoding w.bytes w.size in
    let number : is_legacy (sequence_in n w.encoding w.bytes) ≡ false = ap is_legacy w.made ∙ other in
    let written : bytes_of (sequence_in n w.encoding w.bytes) ≡ answer kept =
    rw (w.found, number, right) (ap answer (take_at kept (replicate (32 - length kept) 0) (16 * entry_size w.encoding) w.size)) in
    ap bytes_of (sym w.made) ∙ written ∙ ap answer (kept_whole n w.encoding w.bytes w.found number ∙ field-between _ s at w.field)
