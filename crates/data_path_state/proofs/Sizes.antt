-- A consistent record takes as many bytes as the sum of its fields says: each field that is there counts its own bytes.
-- Assumes nothing.
use Prim.Native.Nat.{ℕ, ◌+◌, ◌≤◌}
use native.Mathlib.Omega.{arith}
use mathlib.Core.Path.{◌≡◌, refl, sym, ap, ◌∙◌}
use mathlib.Core.Bool.{Bool, true, false, not, cond, ◌&&◌, ◌||◌}
use mathlib.Core.List.{List, [], ◌++◌}
use lib.ListN.{length, length-append}
use Rattle.wire.specs.Answer.{answer}
use Rattle.wire.specs.Numbers.{little_bytes}
use Rattle.wire.specs.Writing.{length_of}
use Rattle.wire.proofs.Tests.{never_true, both, implied}
use Rattle.data_path_state.specs.declared.data_path_state_tlv.DataPathStateTLV.{DataPathStateTLV}
use Rattle.data_path_state.specs.Consistent.{consistent}
use Rattle.data_path_words.specs.Words.{stats_bytes}
use Rattle.data_path_state.specs.Bytes.{head_bytes, addresses_bytes, unicast_bytes, extended_bytes, record_bytes, bytes_of, counted, sum, size_of}
use Rattle.data_path_state.proofs.Right.{right}

length-cond : (b : Bool) (xs : List ℕ) → length (cond b xs []) ≡ counted b (length xs)
length-cond true xs = refl
length-cond false xs = refl

head-length : (r : DataPathStateTLV) → length (head_bytes r) ≡ 2 + counted r.country_code.present 3 + counted r.channel_map.present 2
head-length r = simp (length-append, length-cond) (omega arith)

addresses-length : (r : DataPathStateTLV) → length (addresses_bytes r)
    ≡ counted r.infra_bssid_channel.present 8 + counted r.infra_address.present 6 + counted r.awdl_address.present 6
addresses-length r = simp (length-append, length-cond) (omega arith)

-- the second word only with the first
two-words : (o x : Bool) (a b c : List ℕ) → length a ≡ 2 → length b ≡ 4 → length c ≡ 4 → (not x || o) ≡ true
    → length (cond o (a ++ b ++ cond x c []) []) ≡ counted o 6 + counted x 4
two-words true true a b c p q s e = simp length-append (omega arith)
two-words true false a b c p q s e = simp length-append (omega arith)
two-words false true a b c p q s e = absurd (never_true e)
two-words false false a b c p q s e = refl

-- the announced fields only with the word that announces them
announced : (w t f s : Bool) (a b c d : List ℕ) → length a ≡ 2 → length b ≡ 2 → length c ≡ 4 → length d ≡ 12
    → (not t || w) ≡ true → (not f || w) ≡ true → (not s || w) ≡ true
    → length (cond w (a ++ cond t b [] ++ cond f c [] ++ cond s d []) []) ≡ counted w 2 + counted t 2 + counted f 4 + counted s 12
announced true t f s a b c d pa pb pc pd et ef es =
    simp (length-append, length-cond, pa, pb, pc, pd) (omega arith)
announced false t f s a b c d pa pb pc pd et ef es =
    rw (implied t false et refl, implied f false ef refl, implied s false es refl)

pub length-record : (r : DataPathStateTLV) → consistent r ≡ true → length (record_bytes r) ≡ sum r
unfolding record_bytes sum
length-record r e =
    let x = r.unicast_options_ext.present in
    let o = r.unicast_options.present in
    let w = r.extended_flags.present in
    let stats = both ((not x || o) && (not r.log_trigger_id.present || w) && (not r.rlfc.present || w)) (not r.stats.present || w) (right r e).only in
    let rlfc = both ((not x || o) && (not r.log_trigger_id.present || w)) (not r.rlfc.present || w) stats.0 in
    let first = both (not x || o) (not r.log_trigger_id.present || w) rlfc.0 in
    let unicast : length (unicast_bytes r) ≡ counted o 6 + counted x 4 =
    two-words o x
    (little_bytes 2 (cond x 8 4))
    (little_bytes 4 r.unicast_options.value.0)
    (little_bytes 4 r.unicast_options_ext.value)
    refl refl refl first.0 in
    let extended : length (extended_bytes r)
    ≡ counted w 2 + counted r.log_trigger_id.present 2 + counted r.rlfc.present 4 + counted r.stats.present 12 =
    announced w r.log_trigger_id.present r.rlfc.present r.stats.present
    (little_bytes 2 r.extended_flags.value.0)
    (little_bytes 2 r.log_trigger_id.value)
    (little_bytes 4 r.rlfc.value)
    (stats_bytes r.stats.value)
    refl refl refl refl first.1 rlfc.1 stats.1 in
    omega (
      arith,
      length-append (head_bytes r ++ addresses_bytes r ++ unicast_bytes r) (extended_bytes r),
      length-append (head_bytes r ++ addresses_bytes r) (unicast_bytes r),
      length-append (head_bytes r) (addresses_bytes r),
      head-length r,
      addresses-length r,
    )

pub size-length : (r : DataPathStateTLV) → length_of (bytes_of r) ≡ size_of r
size-length r = go (consistent r) refl
  where
    go : (b : Bool) → consistent r ≡ b → length_of (bytes_of r) ≡ size_of r
    go true e = rw e (ap answer (length-record r e))
    go false e = rw e

-- a size that can be had: the record is consistent, and the size is the number of its bytes
pub record RecordSized (r : DataPathStateTLV) (n : ℕ) : Type 0 where
  pub right : consistent r ≡ true
  pub size : n ≡ length (record_bytes r)

pub record-sized : (r : DataPathStateTLV) {n : ℕ} → size_of r ≡ answer n → RecordSized r n
record-sized r {n} e = go (consistent r) refl
  where
    go : (b : Bool) → consistent r ≡ b → RecordSized r n
    go true h =
        let e' = rw h at e in
        let same : sum r ≡ n = cc in
        record { right = h; size = sym same ∙ sym (length-record r h) }
    go false h = absurd (let e' = rw h at e in let z : ◌≡◌ {A = ℕ} 0 1 = cc in omega arith)

-- at least the flags, and at most every field
few : (b : Bool) (n : ℕ) → counted b n ≤ n
few true n = omega arith
few false n = omega arith

pub size-range : (r : DataPathStateTLV) → (2 ≤ sum r) × (sum r ≤ 57)
unfolding sum
size-range r =
    let country = few r.country_code.present 3 in
    let channel = few r.channel_map.present 2 in
    let bssid = few r.infra_bssid_channel.present 8 in
    let infra = few r.infra_address.present 6 in
    let awdl = few r.awdl_address.present 6 in
    let options = few r.unicast_options.present 6 in
    let second = few r.unicast_options_ext.present 4 in
    let extended = few r.extended_flags.present 2 in
    let trigger = few r.log_trigger_id.present 2 in
    let rlfc = few r.rlfc.present 4 in
    let stats = few r.stats.present 12 in
    (omega arith, omega arith)
