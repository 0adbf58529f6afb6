-- A legacy sequence is refused before its bytes are looked at; a conversion goes entry by entry, and what it gives is a simple sequence of those channels.
-- Assumes nothing.
use Prim.Native.Nat.{ℕ, ◌+◌, ◌*◌, ◌≤◌, ◌<◌}
use native.Mathlib.Omega.{arith}
use native.Mathlib.Decide.{dec_le}
use mathlib.Core.Logic.{◌↔◌, ◌⊎◌, inl, inr, ⊎_elim, dite}
use mathlib.Core.Path.{◌≡◌, refl, sym, ap, ◌∙◌}
use mathlib.Core.Bool.{Bool, true, false}
use mathlib.Core.List.{List, [], ◌∷◌, ◌++◌}
use lib.ListN.{length, get_or, take, get_or-append}
use borrow.Author.Tests.{eqb-true, le-leb, lt-leb}
use Rattle.wire.specs.declared.refusal.Refusal.TheVariants.{LegacySequence}
use Rattle.wire.specs.Answer.{Answer, answer, refusal}
use Rattle.wire.specs.Numbers.{AllInWidth, one}
use Rattle.wire.specs.Reading.{read}
use Rattle.channel.specs.declared.channel.Channel.{Channel}
use Rattle.channel.specs.declared.channel.ChannelEncoding.TheVariants.{Simple}
use Rattle.channel.specs.Channels.{encoding_of}
use Rattle.channel_sequence.specs.declared.channel_sequence.ChannelSequence.{ChannelSequence}
use Rattle.channel_sequence.specs.Sequences as Q
use Rattle.channel_sequence.specs.Sequences.{is_legacy, all_flags_fit, padded}
use Rattle.channel_sequence.specs.Hops.{hop, hop_at}
use Rattle.channel_sequence.specs.Conversion.{corrected_inside, corrected_all, to_simple}
use Rattle.channel_sequence.specs.Widths.{SequenceInWidth}
use Rattle.channel_sequence.proofs.Entries.{single-channel, pair-channel, legacy-refused}
use Rattle.channel_sequence.proofs.ReadConsistent.{padded-consistent, length-padded}
use Rattle.channel_sequence.proofs.Corrections.{Stays, Leaves, stays-or-leaves, corrected-length, corrected-at, all-corrected}
use Rattle.channel_sequence_tlv.specs.declared.channel_sequence_tlv.ChannelSequenceTLV.{ChannelSequenceTLV}
use Rattle.channel_sequence_tlv.specs.SequenceTLVs as C
use Rattle.channel_sequence_tlv.specs.SequenceTLVReader.{channel_sequence_record}
use Rattle.channel_sequence_tlv.proofs.ReadSequenceTLVs as C'
use Rattle.synchronization_parameters.specs.declared.synchronization_parameters_tlv.SynchronizationParametersTLV.{SynchronizationParametersTLV}
use Rattle.synchronization_parameters.specs.SynchronizationBytes as S
use Rattle.synchronization_parameters.specs.SynchronizationReader.{synchronization}
use Rattle.synchronization_parameters.proofs.Again as S'
use Rattle.promises.specs.Formats.{Bytes, Format, Fills, sequences, channel_sequences, synchronizations}
use Rattle.promises.specs.Legacy.{NotWritten, with_sequence, with_its_sequence, StaysInside, Convertible, CorrectedEntry, Converted}
use Rattle.promises.proofs.RoundTrips.{sequence-round, channel-sequence-round, synchronization-round}

not_written : (F : Format) (r : F.Record) → F.bytes r ≡ refusal LegacySequence → NotWritten F r
not_written F r e s said after w = (w.size ∙ rw e, w.buffer ∙ rw e)

pub sequence-not-written : (q : ChannelSequence) → is_legacy q ≡ true → NotWritten sequences q
sequence-not-written q legacy = not_written sequences q (legacy-refused q legacy)

pub channel-sequence-not-written : (c : ChannelSequenceTLV) → is_legacy c.channel_sequence ≡ true → NotWritten channel_sequences c
channel-sequence-not-written c legacy = not_written channel_sequences c (rw (legacy-refused c.channel_sequence legacy))

pub synchronization-not-written : (p : SynchronizationParametersTLV) → is_legacy p.channel_sequence.channel_sequence ≡ true → NotWritten synchronizations p
synchronization-not-written p legacy = not_written synchronizations p (rw (legacy-refused p.channel_sequence.channel_sequence legacy))

abbrev simple_with : List ℕ → ChannelSequence
simple_with channels = record { encoding = 0; bytes = padded channels }

-- what a conversion was made of
record MadeOf (q simple : ChannelSequence) : Type 0 where
  pub legacy : is_legacy q ≡ true
  pub fit : all_flags_fit q.bytes ≡ true
  pub channels : List ℕ
  pub given : corrected_all q.bytes ≡ answer channels
  pub made : simple_with channels ≡ simple

made_of : (q : ChannelSequence) {simple : ChannelSequence} → to_simple q ≡ answer simple → MadeOf q simple
made_of q {simple} e = go (is_legacy q) (all_flags_fit q.bytes) (corrected_all q.bytes) refl refl refl
  where
    go : (b d : Bool) (found : Answer (List ℕ)) → is_legacy q ≡ b → all_flags_fit q.bytes ≡ d → corrected_all q.bytes ≡ found → MadeOf q simple
    go true true (answer channels) l f g =
        let e' = rw (l, f, g) at e in record { legacy = l; fit = f; channels = channels; given = g; made = cc }
    go true true (refusal why) l f g = absurd (cc (rw (l, f, g) at e))
    go true false found l f g = absurd (cc (rw (l, f) at e))
    go false d found l f g = absurd (cc (rw l at e))

-- a legacy sequence is consistent where its flags fit
fit-consistent : (q : ChannelSequence) → is_legacy q ≡ true → Q.consistent q ≡ answer (all_flags_fit q.bytes)
unfolding encoding_of
fit-consistent q legacy = rw (eqb-true q.encoding 1 legacy)

-- an entry of a legacy sequence, and of a simple one
abbrev legacy_entry : ChannelSequence → ℕ → Channel
legacy_entry q n = record { encoding = 1; first = get_or q.bytes (2 * n) 0; second = get_or q.bytes (2 * n + 1) 0 }

legacy-entry : (q : ChannelSequence) (n : ℕ) → is_legacy q ≡ true → n < 16 → hop_at q n ≡ answer (hop (legacy_entry q n))
unfolding encoding_of
legacy-entry q n legacy h = rw (eqb-true q.encoding 1 legacy, lt-leb 16 n h, pair-channel 1 q.bytes (2 * n))

simple-entry : (bytes : List ℕ) (n : ℕ) → n < 16 → hop_at (record { encoding = 0; bytes = bytes }) n ≡ answer (hop (record { encoding = 0; first = get_or bytes n 0; second = 0 }))
unfolding encoding_of
simple-entry bytes n h =
    let one : 1 * n ≡ n = omega arith in
    rw (lt-leb 16 n h, one, single-channel 0 bytes n)

module _ (q : ChannelSequence) (whole : length q.bytes ≡ 32) where
  sixteen-channels : {simple : ChannelSequence} (w : MadeOf q simple) → length w.channels ≡ 16
  sixteen-channels w = let many = corrected-length q.bytes w.given in omega arith

  simple-consistent : {simple : ChannelSequence} → MadeOf q simple → sequences.Consistent simple
  unfolding encoding_of
  simple-consistent w =
      let many = sixteen-channels w in
      rw (← w.made) (length-padded w.channels (omega arith), ap answer (padded-consistent Simple w.channels many), refl)

  -- the entry n that was corrected
  stays : {simple : ChannelSequence} (w : MadeOf q simple) (n : ℕ) → n < 16
      → Stays (get_or q.bytes (2 * n) 0) (get_or q.bytes (2 * n + 1) 0) (get_or w.channels n 0)
  stays w n h = go (stays-or-leaves flags channel)
    where
      flags : ℕ
      flags = get_or q.bytes (2 * n) 0

      channel : ℕ
      channel = get_or q.bytes (2 * n + 1) 0

      given : corrected_inside flags channel ≡ answer (get_or w.channels n 0)
      given = corrected-at q.bytes w.given n (omega arith)

      go : ((corrected : ℕ) × Stays flags channel corrected) ⊎ Leaves flags channel → Stays flags channel (get_or w.channels n 0)
      go (inl (corrected, inside)) = let same : corrected ≡ get_or w.channels n 0 = cc (inside.inside, given) in rw (← same) inside
      go (inr leaves) = absurd (cc (leaves.refused, given))

  sixteen-bytes : {simple : ChannelSequence} (w : MadeOf q simple) (right : sequences.Consistent simple) → length (sequence-round simple right).bytes ≡ 16
  unfolding encoding_of
  sixteen-bytes {simple} w right =
      let size : Q.size_of simple ≡ answer 16 = ap Q.size_of (sym w.made) ∙ rw (padded-consistent Simple w.channels (sixteen-channels w)) in
      let filled = (sequence-round simple right).size in
      cc

  corrected-entry : SequenceInWidth q → {simple : ChannelSequence} (w : MadeOf q simple) (n : ℕ) → n < 16 → CorrectedEntry q simple n
  unfolding encoding_of
  corrected-entry fits w n h =
      let many = sixteen-channels w in
      let there : get_or (padded w.channels) n 0 ≡ get_or w.channels n 0 = get_or-append w.channels _ 0 n (omega arith) in
      record {
        entry = legacy_entry q n;
        channel = get_or w.channels n 0;
        before = legacy-entry q n w.legacy h;
        is-corrected = ap answer ((stays w n h).same (fits.small (2 * n + 1)));
        after = rw (← w.made) (simple-entry (padded w.channels) n h ∙ rw there);
      }

  pub conversion : SequenceInWidth q → {simple : ChannelSequence} → to_simple q ≡ answer simple → Converted q simple
  conversion fits e =
      let w = made_of q e in
      let right = simple-consistent w in
      record {
        encoding = rw (← w.made);
        consistent = right;
        fills = sequence-round _ right;
        sixteen = sixteen-bytes w right;
        entries = λ n h. corrected-entry fits w n h;
      }

  pub exactly-convertible : ((simple : ChannelSequence) × (to_simple q ≡ answer simple)) ↔ Convertible q
  unfolding encoding_of
  exactly-convertible = (λ made. convertible made.1, converts)
    where
      outside : (n : ℕ) (entry : Channel) → is_legacy q ≡ true → 16 ≤ n → hop_at q n ≡ answer (hop entry) → ⊥
      outside n entry legacy h e =
          let e' = rw (eqb-true q.encoding 1 legacy, le-leb 16 n h) at e in
          cc

      inside : {simple : ChannelSequence} → MadeOf q simple → (n : ℕ) (entry : Channel) → hop_at q n ≡ answer (hop entry) → n < 16 → StaysInside entry
      inside w n entry e h =
          let s = stays w n h in
          let at = legacy-entry q n w.legacy h in
          let same : legacy_entry q n ≡ entry = cc in
          rw (← same) (record { below = s.below; above = s.above })

      convertible : {simple : ChannelSequence} → to_simple q ≡ answer simple → Convertible q
      convertible e =
          let w = made_of q e in
          record {
            legacy = w.legacy;
            consistent = fit-consistent q w.legacy ∙ ap answer w.fit;
            inside = λ n entry at. dite (dec_le 16 n) (λ past. absurd (outside n entry w.legacy past at)) (λ near. inside w n entry at (omega arith));
          }

      given : Convertible q → (n : ℕ) → 2 * n + 1 < length q.bytes
          → (channel : ℕ) × (corrected_inside (get_or q.bytes (2 * n) 0) (get_or q.bytes (2 * n + 1) 0) ≡ answer channel)
      given c n h =
          go (c.inside n (legacy_entry q n) (legacy-entry q n c.legacy (omega arith))) (stays-or-leaves (get_or q.bytes (2 * n) 0) (get_or q.bytes (2 * n + 1) 0))
        where
          go : StaysInside (legacy_entry q n)
              → ((corrected : ℕ) × Stays (get_or q.bytes (2 * n) 0) (get_or q.bytes (2 * n + 1) 0) corrected) ⊎ Leaves (get_or q.bytes (2 * n) 0) (get_or q.bytes (2 * n + 1) 0)
              → (channel : ℕ) × (corrected_inside (get_or q.bytes (2 * n) 0) (get_or q.bytes (2 * n + 1) 0) ≡ answer channel)
          go i (inl (corrected, s)) = (corrected, s.inside)
          go i (inr leaves) = absurd (⊎_elim (λ p. omega (arith, i.below p.0, p.1)) (λ p. omega (arith, i.above p.0, p.1)) leaves.passes)

      converts : Convertible q → (simple : ChannelSequence) × (to_simple q ≡ answer simple)
      converts c =
          let same : answer (all_flags_fit q.bytes) ≡ answer true = sym (fit-consistent q c.legacy) ∙ c.consistent in
          let fit : all_flags_fit q.bytes ≡ true = cc in
          let all = all-corrected q.bytes (given c) in
          (simple_with all.0, rw (c.legacy, fit, all.1))

-- the numbers of a record, with the encoding 0 in place of its own
simple-numbers : (c : ChannelSequenceTLV) (simple : ChannelSequence) → simple.encoding ≡ 0 → AllInWidth (C.numbers c) → AllInWidth (C.numbers (with_sequence c simple))
simple-numbers c simple zero (one encoding others) =
    let small : simple.encoding < 256 = omega arith in
    one small others

pub channel-sequence-converted : (s : List ℕ) → Bytes s → (at : ℕ) {next : ℕ} {c : ChannelSequenceTLV} → channel_sequence_record s at ≡ read c next
    → {simple : ChannelSequence} → to_simple c.channel_sequence ≡ answer simple → Fills channel_sequences (with_sequence c simple)
channel-sequence-converted s b at {c = c} e {simple} made =
    let fits = C'.read-in-width s b at e in
    let w = made_of c.channel_sequence made in
    let right = simple-consistent c.channel_sequence fits.sequence.many w in
    channel-sequence-round (with_sequence c simple) (simple-numbers c simple (ap (λ (q : ChannelSequence). q.encoding) (sym w.made)) fits.numbers, right.0, right.1, right.2)

-- those of a synchronization record end with these
its-numbers : (front : List (ℕ × ℕ)) {old new : List (ℕ × ℕ)} → (AllInWidth old → AllInWidth new) → AllInWidth (front ++ old) → AllInWidth (front ++ new)
its-numbers [] f fit = f fit
its-numbers (n ∷ front) f (one h fit) = one h (its-numbers front f fit)

pub synchronization-converted : (s : List ℕ) → Bytes s → (at : ℕ) {next : ℕ} {p : SynchronizationParametersTLV} → synchronization s at ≡ read p next
    → {simple : ChannelSequence} → to_simple p.channel_sequence.channel_sequence ≡ answer simple → Fills synchronizations (with_its_sequence p simple)
synchronization-converted s b at {p = p} e {simple} made =
    let fits = S'.read-in-width s b at e in
    let w = made_of p.channel_sequence.channel_sequence made in
    let right = simple-consistent p.channel_sequence.channel_sequence fits.sequence.many w in
    let numbers = its-numbers (take 18 (S.numbers p)) (simple-numbers p.channel_sequence simple (ap (λ (q : ChannelSequence). q.encoding) (sym w.made))) fits.numbers in
    synchronization-round (with_its_sequence p simple) (numbers, right.0, right.1, right.2)
