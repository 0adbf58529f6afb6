-- A consistent sequence has bytes that fill exactly its size and are read as itself, from any place and with anything behind; unless it is a legacy one, they are written. Its reader keeps the laws of every reader.
-- Assumes nothing.
use Prim.Native.Nat.{ℕ, ◌*◌}
use native.Mathlib.Omega.{arith}
use mathlib.Core.Path.{◌≡◌, refl, ap₂}
use mathlib.Core.Bool.{true, false}
use mathlib.Core.List.{List, [], ◌∷◌}
use lib.Dec.{eqb}
use lib.ListN.{length, take, drop, replicate, length-drop}
use lib.Seq.{length-take-le, take_all}
use borrow.Author.Tests.{eqb-true}
use Rattle.wire.specs.declared.refusal.Refusal.TheVariants.{Encoding}
use Rattle.wire.specs.Answer.{Answer, answer, refusal, asked}
use Rattle.wire.proofs.Lawful.{Lawful, give-lawful, refuse-lawful, bind-lawful, asked-lawful, made-lawful, field-lawful}
use Rattle.wire.proofs.Tests.{both}
use Rattle.wire.proofs.ReadsBack.{Back, bind-back, asked-back, made-back, field_back}
use Rattle.channel.specs.declared.channel.ChannelEncoding.{ChannelEncoding}
use Rattle.channel.specs.declared.channel.ChannelEncoding.TheVariants.{Simple, Legacy, OpClass}
use Rattle.channel_sequence.specs.declared.channel_sequence.ChannelSequence.{ChannelSequence}
use Rattle.channel.specs.Channels.{encoding_of, entry_size}
use Rattle.channel_sequence.specs.Sequences.{all_zero, consistent_bytes, consistent, is_legacy, size_of, bytes_of, padded}
use Rattle.channel_sequence.specs.SequenceReader.{kept_bytes, sequence}
use Rattle.channel_sequence.proofs.Entries.{padded-half, padded-full, size-most}
use Rattle.channel_sequence.proofs.KeptEntries.{entries-same}

all-zero : (s : List ℕ) → all_zero s ≡ true → s ≡ replicate (length s) 0
all-zero [] e = refl
all-zero (b ∷ rest) e =
    let p = both (eqb b 0) (all_zero rest) e in
    ap₂ (λ (x : ℕ) (xs : List ℕ). x ∷ xs) (eqb-true b 0 p.0) (all-zero rest p.1)

-- what is read of the bytes of a consistent sequence is its 32 bytes
restored : (encoding : ChannelEncoding) (bytes : List ℕ) → length bytes ≡ 32 → consistent_bytes encoding bytes ≡ true
    → padded (kept_bytes encoding (take (16 * entry_size encoding) bytes)) ≡ bytes
restored Simple bytes whole e =
    let rest : length (drop 16 bytes) ≡ 16 = simp length-drop (omega arith) in
    padded-half bytes whole (rw rest at (all-zero (drop 16 bytes) e))
restored Legacy bytes whole e =
    rw (take_all 32 bytes (omega arith), entries-same bytes e) (padded-full bytes whole)
restored OpClass bytes whole e = rw (take_all 32 bytes (omega arith)) (padded-full bytes whole)

-- the bytes of a sequence: its first ones, as many as its size says, and read as the sequence; a legacy one is not written
pub record SequenceFilled (q : ChannelSequence) : Type 0 where
  pub bytes : List ℕ
  pub front : bytes ≡ take (length bytes) q.bytes
  pub size : size_of q ≡ answer (length bytes)
  pub written : is_legacy q ≡ false → bytes_of q ≡ answer bytes
  pub back : Back (sequence q.encoding) bytes q

pub round_trip : (q : ChannelSequence) → length q.bytes ≡ 32 → consistent q ≡ answer true → SequenceFilled q
round_trip q whole e = go (encoding_of q.encoding) refl
  where
    go : (found : Answer ChannelEncoding) → encoding_of q.encoding ≡ found → SequenceFilled q
    go (answer encoding) f =
        let right : consistent_bytes encoding q.bytes ≡ true = let e' = rw f at e in cc in
        let most = size-most encoding in
        let size = 16 * entry_size encoding in
        let part = take size q.bytes in
        let many : length part ≡ size = length-take-le size q.bytes (omega arith) in
        let reads = made-back {B = ChannelSequence}
        (λ bytes. record { encoding = q.encoding; bytes = padded (kept_bytes encoding bytes) })
        (field_back size part many) in
        record {
          bytes = part;
          front = rw many;
          size = rw (f, right, many);
          written = λ other. rw (f, other, right);
          back = bind-back _ (asked-back f) (rw (restored encoding q.bytes whole right) at reads);
        }
    go (refusal why) f = absurd (cc (rw f at e))

pub encoding-lawful : (n : ℕ) → Lawful (asked (encoding_of n))
unfolding encoding_of
encoding-lawful n =
    asked-lawful (eqb n 0) _ _ (give-lawful Simple)
    (asked-lawful (eqb n 1) _ _ (give-lawful Legacy)
    (asked-lawful (eqb n 3) _ _ (give-lawful OpClass) (refuse-lawful Encoding (λ e. omega arith))))

pub sequence-lawful : (n : ℕ) → Lawful (sequence n)
sequence-lawful n = bind-lawful (encoding-lawful n) (λ encoding. made-lawful _ (field-lawful (16 * entry_size encoding)))
