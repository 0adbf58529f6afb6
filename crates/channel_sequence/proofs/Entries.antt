-- How tests go over a list from the front, and how entries are put behind one another: what is left of the list decides, or is still to be put. When a sequence has a size, and what is written of it.
-- Assumes nothing.
use Prim.Native.Nat.{ℕ, suc, ◌+◌, ◌*◌, ◌≤◌, ◌<◌}
use native.Mathlib.Nat.{add-zero, add_assoc}
use native.Mathlib.Numerals.{add-one, add-two}
use native.Mathlib.Omega.{arith}
use mathlib.Core.Path.{◌≡◌, refl, sym, ap, ◌∙◌}
use mathlib.Core.Bool.{Bool, true, false, ◌&&◌, and-true}
use mathlib.Core.List.{List, [], ◌∷◌, ◌++◌, append_assoc, append-nil}
use lib.ListN.{length, get_or, take, drop, set, replicate, length-set, take-append-drop}
use borrow.Author.Tests.{eqb-true, le-leb, lt-leb}
use lib.Seq.{get_or-drop, drop-cons, drop-drop, take-suc-set, length-take-le}
use Rattle.wire.specs.declared.refusal.Refusal.TheVariants.{LegacySequence}
use Rattle.wire.specs.Answer.{Answer, answer, refusal}
use Rattle.wire.specs.Writing.{length_of}
use Rattle.channel.specs.declared.channel.ChannelEncoding.{ChannelEncoding}
use Rattle.channel.specs.declared.channel.ChannelEncoding.TheVariants.{Simple, Legacy, OpClass}
use Rattle.channel_sequence.specs.declared.channel_sequence.ChannelSequence.{ChannelSequence}
use Rattle.channel.specs.Channels.{encoding_of, entry_size}
use Rattle.channel_sequence.specs.Hops.{entry_channel}
use Rattle.channel_sequence.specs.Sequences.{flags_fit, all_flags_fit, padded, is_legacy, size_of, bytes_of, consistent_bytes}

-- what stands from a place on begins with the byte there, and with the two there
one_at : (s : List ℕ) (i : ℕ) → i < length s → drop i s ≡ get_or s i 0 ∷ drop (i + 1) s
one_at s i h = rw (drop-cons s i 0 h, add-one i)

pub two_at : (s : List ℕ) (i : ℕ) → i + 1 < length s → drop i s ≡ get_or s i 0 ∷ get_or s (i + 1) 0 ∷ drop (i + 2) s
two_at s i h =
    let second : drop (i + 1) s ≡ get_or s (i + 1) 0 ∷ drop (i + 2) s = rw (drop-cons s (i + 1) 0 h, add-one i, add-two i) in
    rw (one_at s i (omega arith), second)

-- and so for flags, in front of the entries behind their own
first-flags : (flags : ℕ) (behind : List ℕ) → all_flags_fit (flags ∷ behind) ≡ flags_fit flags && all_flags_fit (drop 1 behind)
first-flags flags [] = sym (and-true (flags_fit flags))
first-flags flags (channel ∷ rest) = refl

pub flags-step : (s : List ℕ) (i : ℕ) → i < length s → all_flags_fit (drop i s) ≡ flags_fit (get_or s i 0) && all_flags_fit (drop (i + 2) s)
flags-step s i h = rw (one_at s i h, first-flags (get_or s i 0) (drop (i + 1) s), drop-drop 1 (i + 1) s, add_assoc i 1 1)

pub flags_stop : (s : List ℕ) (i : ℕ) → i < length s → 0x3F < get_or s i 0 → all_flags_fit (drop i s) ≡ false
flags_stop s i h large = rw (flags-step s i h, lt-leb (get_or s i 0) 0x3F large)

pub flags_pass : (s : List ℕ) (i : ℕ) → i < length s → get_or s i 0 ≤ 0x3F → all_flags_fit (drop i s) ≡ all_flags_fit (drop (i + 2) s)
flags_pass s i h small = rw (flags-step s i h, le-leb (get_or s i 0) 0x3F small)

-- an entry of one byte or of two, as a channel
start : (s : List ℕ) (i : ℕ) → get_or (drop i s) 0 0 ≡ get_or s i 0
start s i = get_or-drop i s 0 0 ∙ rw (add-zero i)

front : (k : ℕ) (s : List ℕ) → get_or (take (suc k) s) 0 0 ≡ get_or s 0 0
front k [] = refl
front k (b ∷ s) = refl

second : (s : List ℕ) → get_or (take 2 s) 1 0 ≡ get_or s 1 0
second [] = refl
second (b ∷ []) = refl
second (b ∷ c ∷ s) = refl

no_second : (s : List ℕ) → get_or (take 1 s) 1 0 ≡ 0
no_second [] = refl
no_second (b ∷ s) = refl

pub single-channel : (encoding : ℕ) (s : List ℕ) (i : ℕ) → entry_channel encoding (take 1 (drop i s)) ≡ record { encoding = encoding; first = get_or s i 0; second = 0 }
single-channel encoding s i = rw (front 0 (drop i s), start s i, no_second (drop i s))

pub pair-channel : (encoding : ℕ) (s : List ℕ) (i : ℕ)
    → entry_channel encoding (take 2 (drop i s)) ≡ record { encoding = encoding; first = get_or s i 0; second = get_or s (i + 1) 0 }
pair-channel encoding s i = rw (front 1 (drop i s), start s i, second (drop i s), get_or-drop i s 1 0)

-- a turn puts one entry behind what has been passed, and leaves the rest
pub entry-step : (s : List ℕ) (i a b : ℕ) (rest : List ℕ) → i + 1 < length s
    → take (i + 2) (set (set s i a) (i + 1) b) ++ rest ≡ take i s ++ a ∷ b ∷ rest
entry-step s i a b rest h =
    let t : List ℕ = set s i a in
    let first : take (i + 1) t ≡ take i s ++ (a ∷ []) = rw (add-one i) (take-suc-set s i a (omega arith)) in
    let both : take (i + 2) (set t (i + 1) b) ≡ take (i + 1) t ++ (b ∷ []) =
    rw (add-two i, add-one i) (take-suc-set t (suc i) b (simp length-set (omega arith))) in
    rw (both, first) (simp append_assoc)

-- sixteen bytes in front of zeros are padded, and so are 32 bytes
pub padded-half : (bytes : List ℕ) → length bytes ≡ 32 → drop 16 bytes ≡ replicate 16 0 → padded (take 16 bytes) ≡ bytes
padded-half bytes whole zeros =
    let front : length (take 16 bytes) ≡ 16 = length-take-le 16 bytes (omega arith) in
    rw (front, ← zeros) (take-append-drop 16 bytes)

pub padded-full : (bytes : List ℕ) → length bytes ≡ 32 → padded bytes ≡ bytes
padded-full bytes e = rw e (append-nil bytes)

-- a size that can be had: the encoding is listed, the bytes are consistent, and the size is that of sixteen entries
pub record SequenceSized (q : ChannelSequence) (n : ℕ) : Type 0 where
  pub encoding : ChannelEncoding
  pub found : encoding_of q.encoding ≡ answer encoding
  pub consistent : consistent_bytes encoding q.bytes ≡ true
  pub size : n ≡ 16 * entry_size encoding

pub sequence-sized : (q : ChannelSequence) {n : ℕ} → size_of q ≡ answer n → SequenceSized q n
sequence-sized q {n} e = go (encoding_of q.encoding) refl
  where
    settle : (encoding : ChannelEncoding) → encoding_of q.encoding ≡ answer encoding
        → (b : Bool) → consistent_bytes encoding q.bytes ≡ b → SequenceSized q n
    settle encoding f true h =
        let e' = rw (f, h) at e in record { encoding = encoding; found = f; consistent = h; size = cc }
    settle encoding f false h = absurd (cc (rw (f, h) at e))

    go : (found : Answer ChannelEncoding) → encoding_of q.encoding ≡ found → SequenceSized q n
    go (answer encoding) f = settle encoding f (consistent_bytes encoding q.bytes) refl
    go (refusal why) f = absurd (cc (rw f at e))

-- no sequence takes more than its 32 bytes
pub size-most : (encoding : ChannelEncoding) → 16 * entry_size encoding ≤ 32
size-most Simple = omega arith
size-most Legacy = omega arith
size-most OpClass = omega arith

-- a legacy sequence is not written, whatever its bytes are
pub legacy-refused : (q : ChannelSequence) → is_legacy q ≡ true → bytes_of q ≡ refusal LegacySequence
unfolding encoding_of
legacy-refused q legacy = rw (eqb-true q.encoding 1 legacy)

-- the size of any other is the number of bytes that are written
pub size-length : (q : ChannelSequence) → length q.bytes ≡ 32 → is_legacy q ≡ false → length_of (bytes_of q) ≡ size_of q
size-length q whole other = go (encoding_of q.encoding) refl
  where
    settle : (encoding : ChannelEncoding) → encoding_of q.encoding ≡ answer encoding
        → (b : Bool) → consistent_bytes encoding q.bytes ≡ b → length_of (bytes_of q) ≡ size_of q
    settle encoding f true h =
        let most = size-most encoding in
        rw (f, other, h) (ap answer (length-take-le (16 * entry_size encoding) q.bytes (omega arith)))
    settle encoding f false h = rw (f, other, h)

    go : (found : Answer ChannelEncoding) → encoding_of q.encoding ≡ found → length_of (bytes_of q) ≡ size_of q
    go (answer encoding) f = settle encoding f (consistent_bytes encoding q.bytes) refl
    go (refusal why) f = rw f

wire-bytes : {q : ChannelSequence} {n : ℕ} → SequenceSized q n → is_legacy q ≡ false → bytes_of q ≡ answer (take n q.bytes)
wire-bytes w other = rw (w.found, other, w.consistent, w.size)

-- where so many bytes are written, they are the first ones of the sequence
pub record SequenceWritten (q : ChannelSequence) (n : ℕ) : Type 0 where
  pub few : n ≤ 32
  pub bytes : bytes_of q ≡ answer (take n q.bytes)

pub sequence-written : (q : ChannelSequence) → length q.bytes ≡ 32 → {n : ℕ} → length_of (bytes_of q) ≡ answer n → SequenceWritten q n
sequence-written q whole {n} e = go (is_legacy q) refl
  where
    go : (b : Bool) → is_legacy q ≡ b → SequenceWritten q n
    go true legacy = absurd (cc (rw (legacy-refused q legacy) at e))
    go false other =
        let w = sequence-sized q (sym (size-length q whole other) ∙ e) in
        let most = size-most w.encoding in
        record { few = omega (arith, w.size); bytes = wire-bytes w other }
