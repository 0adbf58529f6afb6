-- What is read is consistent, since nothing but zeros stands behind it and its flags were kept; and what is consistent is read of its own 32 bytes.
-- Assumes nothing.
use Prim.Native.Nat.{ℕ, ◌-◌, ◌*◌, ◌≤◌, ◌<◌}
use native.Mathlib.Nat.{zero-add}
use native.Mathlib.Omega.{arith}
use mathlib.Core.Logic.{◌↔◌}
use mathlib.Core.Path.{◌≡◌, refl, ap, subst, ◌∙◌}
use mathlib.Core.Bool.{true}
use mathlib.Core.List.{List, [], ◌++◌}
use lib.ListN.{length, drop, replicate, length-append, length-replicate, take-append-drop}
use lib.Seq.{drop_at}
use Rattle.wire.specs.Reading.{read, field, give}
use Rattle.wire.specs.FromBytes.{ReadFromBytes}
use Rattle.wire.specs.Answer.{Answer, answer, refusal}
use Rattle.wire.proofs.Lawful.{never, steps}
use Rattle.wire.proofs.Octets.{Octets, octets-append, octets-zeros, gives-field}
use Rattle.wire.proofs.Places.{field-size}
use Rattle.channel.specs.declared.channel.ChannelEncoding.{ChannelEncoding}
use Rattle.channel.specs.declared.channel.ChannelEncoding.TheVariants.{Simple, Legacy, OpClass}
use Rattle.channel_sequence.specs.declared.channel_sequence.ChannelSequence.{ChannelSequence}
use Rattle.channel.specs.Channels.{encoding_of, entry_size}
use Rattle.channel_sequence.specs.Sequences.{consistent_bytes, consistent, padded}
use Rattle.channel_sequence.specs.SequenceReader.{kept_entries, kept_bytes, sequence}
use Rattle.channel_sequence.specs.Widths.{SequenceInWidth}
use Rattle.channel_sequence.proofs.Entries.{padded-full, size-most}
use Rattle.channel_sequence.proofs.KeptEntries.{length-kept, entries_fit, entries-octets}
use Rattle.channel_sequence.proofs.RoundTrip.{round_trip}

abbrev pub sequence_in : ℕ → ChannelEncoding → List ℕ → ChannelSequence
sequence_in n encoding bytes = record { encoding = n; bytes = padded (kept_bytes encoding bytes) }

-- what a sequence was read of: a listed encoding, and a field of its size
pub record SequenceField (n : ℕ) (s : List ℕ) (at : ℕ) (q : ChannelSequence) (next : ℕ) : Type 0 where
  pub encoding : ChannelEncoding
  pub found : encoding_of n ≡ answer encoding
  pub bytes : List ℕ
  pub field : field (16 * entry_size encoding) s at ≡ read bytes next
  pub size : length (kept_bytes encoding bytes) ≡ 16 * entry_size encoding
  pub made : sequence_in n encoding bytes ≡ q

length-kept-bytes : (encoding : ChannelEncoding) (bytes : List ℕ) → length (kept_bytes encoding bytes) ≡ length bytes
length-kept-bytes Simple bytes = refl
length-kept-bytes Legacy bytes = length-kept bytes
length-kept-bytes OpClass bytes = refl

pub sequence-field : (n : ℕ) (s : List ℕ) (at : ℕ) {q : ChannelSequence} {next : ℕ} → sequence n s at ≡ read q next → SequenceField n s at q next
sequence-field n s at {q} {next} e = go (encoding_of n) refl
  where
    go : (found : Answer ChannelEncoding) → encoding_of n ≡ found → SequenceField n s at q next
    go (answer encoding) f =
        let size = 16 * entry_size encoding in
        let w = steps (field size s at) (λ bytes place. give (sequence_in n encoding bytes) s place) (rw f at e) in
        let goes = w.goes in
        let ends : w.mid ≡ next = cc in
        record {
          encoding = encoding;
          found = f;
          bytes = w.first;
          field = w.begins ∙ ap (read w.first) ends;
          size = length-kept-bytes encoding w.first ∙ field-size size s at w.begins;
          made = cc;
        }
    go (refusal why) f = absurd (never (rw f at e))

-- behind the bytes of a simple sequence stand zeros, and the flags of a legacy one were kept
pub padded-consistent : (encoding : ChannelEncoding) (bytes : List ℕ) → length (kept_bytes encoding bytes) ≡ 16 * entry_size encoding
    → consistent_bytes encoding (padded (kept_bytes encoding bytes)) ≡ true
padded-consistent Simple bytes e = rw (drop_at bytes (replicate (32 - length bytes) 0) 16 e, e)
padded-consistent Legacy bytes e = rw (padded-full (kept_entries bytes) e) (entries_fit bytes)
padded-consistent OpClass bytes e = refl

pub length-padded : (bytes : List ℕ) → length bytes ≤ 32 → length (padded bytes) ≡ 32
length-padded bytes h = simp (length-append, length-replicate) (omega arith)

pub read-consistent : (n : ℕ) (s : List ℕ) (at : ℕ) {q : ChannelSequence} {next : ℕ} → sequence n s at ≡ read q next
    → (q.encoding ≡ n) × (length q.bytes ≡ 32) × (consistent q ≡ answer true)
read-consistent n s at e =
    let w = sequence-field n s at e in
    let most = size-most w.encoding in (
      rw (← w.made),
      rw (← w.made) (length-padded (kept_bytes w.encoding w.bytes) (omega (arith, w.size))),
      rw (← w.made, w.found) (ap answer (padded-consistent w.encoding w.bytes w.size)),
    )

-- of bytes, its 32 bytes are bytes
kept-octets : (encoding : ChannelEncoding) {bytes : List ℕ} → Octets bytes → Octets (kept_bytes encoding bytes)
kept-octets Simple p = p
kept-octets Legacy p = entries-octets p
kept-octets OpClass p = p

pub read-in-width : (n : ℕ) → n < 256 → (s : List ℕ) → Octets s → (at : ℕ) {q : ChannelSequence} {next : ℕ} → sequence n s at ≡ read q next → SequenceInWidth q
read-in-width n h s small at e =
    let w = sequence-field n s at e in
    let c = read-consistent n s at e in
    let field = (gives-field small (16 * entry_size w.encoding)).of w.field in
    record {
      encoding = rw c.0 h;
      many = c.1;
      small = rw (← w.made) (octets-append (kept-octets w.encoding field.octets) (octets-zeros (32 - length (kept_bytes w.encoding w.bytes)))).small;
    }

consistent-read : (q : ChannelSequence) → SequenceInWidth q → consistent q ≡ answer true → ReadFromBytes (sequence q.encoding) q
consistent-read q fits e =
    let w = round_trip q fits.many e in
    let n = length w.bytes in
    let behind : List ℕ = drop n q.bytes in
    let all : w.bytes ++ behind ≡ q.bytes = ap (λ (z : List ℕ). z ++ behind) w.front ∙ take-append-drop n q.bytes in
    record {
      bytes = q.bytes;
      small = fits.small;
      size = n;
      reads = subst (λ (s : List ℕ). sequence q.encoding s 0 ≡ read q n) all (w.back.back [] behind ∙ ap (read q) (zero-add n));
    }

pub consistent-exactly : (q : ChannelSequence) → SequenceInWidth q → (consistent q ≡ answer true) ↔ ReadFromBytes (sequence q.encoding) q
consistent-exactly q fits = (consistent-read q fits, λ r. (read-consistent q.encoding r.bytes 0 r.reads).2)
