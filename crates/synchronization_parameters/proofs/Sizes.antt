-- The size of a record is that of its sequence and 33 bytes more, and so is the number of bytes that are written.
-- Assumes nothing.
use Prim.Native.Nat.{ℕ, ◌+◌, ◌-◌, ◌≤◌}
use native.Mathlib.Omega.{arith}
use mathlib.Core.Logic.{◌⊎◌, inl, inr}
use mathlib.Core.Path.{◌≡◌, refl, ◌∙◌}
use mathlib.Core.List.{◌++◌}
use lib.ListN.{length, take}
use Rattle.wire.specs.Answer as A
use Rattle.wire.specs.Answer.{Answer, answer}
use Rattle.wire.specs.Writing.{length_of}
use Rattle.wire.proofs.Stores.{size-behind, length-behind, written_behind}
use Rattle.channel_sequence_tlv.specs.SequenceTLVs as C
use Rattle.channel_sequence_tlv.proofs.SequenceTLVs as C'
use Rattle.synchronization_parameters.specs.declared.synchronization_parameters_tlv.SynchronizationParametersTLV.{SynchronizationParametersTLV}
use Rattle.synchronization_parameters.specs.SynchronizationBytes.{size_of, fixed_bytes, bytes_of}

pub length-fixed : (p : SynchronizationParametersTLV) → length (fixed_bytes p) ≡ 33
unfolding fixed_bytes
length-fixed p = refl

-- 33 bytes more are written than of the sequence
pub length-written : (p : SynchronizationParametersTLV) {size : Answer ℕ} → length_of (C.bytes_of p.channel_sequence) ≡ size
    → length_of (bytes_of p) ≡ A.◌>>=◌ size (λ m. answer (33 + m))
length-written p e = length-behind (fixed_bytes p) (C.bytes_of p.channel_sequence) e ∙ rw (length-fixed p)

-- where so many bytes are written, the entries behind the 39 bytes are as many as that says
pub record SynchronizationWritten (p : SynchronizationParametersTLV) (n : ℕ) : Type 0 where
  pub head : 39 ≤ n
  pub few : n ≤ 71
  pub bytes : bytes_of p ≡ answer (fixed_bytes p ++ (C.head_bytes p.channel_sequence ++ take (n - 33 - 6) p.channel_sequence.channel_sequence.bytes))

pub synchronization-written : (p : SynchronizationParametersTLV) → length p.channel_sequence.channel_sequence.bytes ≡ 32 → {n : ℕ}
    → length_of (bytes_of p) ≡ answer n → SynchronizationWritten p n
synchronization-written p whole {n} e =
    let behind = written_behind (fixed_bytes p) (C.bytes_of p.channel_sequence) e in
    let w = C'.channel-sequence-written p.channel_sequence whole behind.1 in
    let front = length-fixed p in
    let rest : n - 33 ≡ behind.0 = omega (arith, behind.2) in
    record { head = omega (arith, behind.2, w.head); few = omega (arith, behind.2, w.few); bytes = rw (w.bytes, rest) }

pub two-sizes : (p : SynchronizationParametersTLV) {n : ℕ} → size_of p ≡ answer n → (n ≡ 55) ⊎ (n ≡ 71)
two-sizes p {n} e =
    let behind = size-behind 33 (C.size_of p.channel_sequence) e in
    go (C'.two-sizes p.channel_sequence behind.1) behind.2
  where
    go : {m : ℕ} → (m ≡ 22) ⊎ (m ≡ 38) → 33 + m ≡ n → (n ≡ 55) ⊎ (n ≡ 71)
    go (inl small) all = inl (omega arith)
    go (inr large) all = inr (omega arith)
