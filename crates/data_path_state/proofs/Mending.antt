-- Mending makes a record consistent but for its channel, and leaves a consistent one as it is: each field by itself, and each word by its runs.
-- Assumes nothing.
use Prim.Native.Nat.{ℕ, ◌+◌, ◌^◌, ◌<◌}
use Rattle.data_path_state.proofs.Announced.{announced, word-spare, announced-same}
use Rattle.wire.proofs.Tests.{nth}
use Rattle.data_path_state.proofs.Facts.{◌and◌, adds_none, last_of, one_of, neither, number_same}
use Rattle.data_path_state.proofs.Optionals as O
use Rattle.data_path_state.specs.Bytes.{counted, sum}
use Rattle.data_path_state.specs.Consistent.{flags_match, extended_match, only_with, channel_right, words_kept, absent_zero, consistent, ChannelRight}
use Rattle.data_path_state.specs.Mended.{mended, has_options, has_extended, extended_runs, flags_runs}
use Rattle.data_path_words.specs.Words.{extended_kept, options_kept, zero_channel, zero_stats}
use Rattle.data_path_state.specs.declared.data_path_state_tlv.DataPathStateTLV.{DataPathStateTLV}
use Rattle.data_path_words.specs.declared.misc.DataPathChannel.{DataPathChannel}
use Rattle.data_path_fields.specs.declared.optional.Optional.{Optional}
use Rattle.data_path_fields.specs.Optional.{none}
use Rattle.data_path_fields.specs.Optional as F
use Rattle.data_path_fields.specs.Fields.{zero_country, zero_infra}
use Rattle.data_path_state.specs.Consistent.{is_zero_country, is_zero_channel, is_zero_infra, is_zero_address, is_zero_options, is_zero_extended, is_zero, is_zero_stats}
use Rattle.wire.specs.Addresses.{zero_address}
use Rattle.wire.proofs.Words.{word-twice}
use Rattle.wire.specs.Words.{word_by}
use borrow.Author.Tests.{eqb-true, eq-eqb}
use lib.Dec.{eqb}
use lib.ListN.{take, drop}
use mathlib.Core.Bool.{Bool, true, false, cond, not, ◌||◌, or-true}
use mathlib.Core.List.{List, [], ◌∷◌}
use mathlib.Core.Path.{◌≡◌, refl, ap, ◌∙◌}
use native.Mathlib.Omega.{arith}

-- a record that is consistent but for its channel
pub record Elsewhere (r : DataPathStateTLV) : Type 0 where
  pub flags : flags_match r ≡ true
  pub extended : extended_match r ≡ true
  pub only : only_with r ≡ true
  pub words : words_kept r ≡ true
  pub absent : absent_zero r ≡ true

pub consistent-elsewhere : (r : DataPathStateTLV) → consistent r ≡ true → Elsewhere r
unfolding consistent
consistent-elsewhere r e =
    let t =
    nth true
    (flags_match r ∷ extended_match r ∷ only_with r ∷ channel_right r.channel_map.value ∷ words_kept r ∷ absent_zero r ∷ [])
    e
    in
    record { flags = t 0; extended = t 1; only = t 2; words = t 4; absent = t 5 }

-- the tests of `only_with` and of `absent_zero`, one by one
abbrev only_tests : DataPathStateTLV → List Bool
only_tests r =
    (not r.unicast_options_ext.present || r.unicast_options.present)
    ∷ (not r.log_trigger_id.present || r.extended_flags.present)
    ∷ (not r.rlfc.present || r.extended_flags.present)
    ∷ (not r.stats.present || r.extended_flags.present)
    ∷ []

abbrev absent_tests : DataPathStateTLV → List Bool
absent_tests r =
    F.absent_zero is_zero_country r.country_code
    ∷ F.absent_zero is_zero_channel r.channel_map
    ∷ F.absent_zero is_zero_infra r.infra_bssid_channel
    ∷ F.absent_zero is_zero_address r.infra_address
    ∷ F.absent_zero is_zero_address r.awdl_address
    ∷ F.absent_zero is_zero_options r.unicast_options
    ∷ F.absent_zero is_zero r.unicast_options_ext
    ∷ F.absent_zero is_zero_extended r.extended_flags
    ∷ F.absent_zero is_zero r.rlfc
    ∷ F.absent_zero is_zero r.log_trigger_id
    ∷ F.absent_zero is_zero_stats r.stats
    ∷ []

-- what goes only with the options or with the extended word adds neither
options-there : (r : DataPathStateTLV) → only_with r ≡ true → has_options r ≡ r.unicast_options.present
options-there r t =
    adds_none r.unicast_options.present r.unicast_options_ext.present (nth true (only_tests r) t 0)

extended-there : (r : DataPathStateTLV) → only_with r ≡ true → has_extended r ≡ r.extended_flags.present
extended-there r t =
    let x = r.extended_flags.present in
    rw (
      adds_none x r.log_trigger_id.present (nth true (only_tests r) t 1),
      adds_none x r.rlfc.present (nth true (only_tests r) t 2),
      adds_none x r.stats.present (nth true (only_tests r) t 3),
    )

-- flags that say what is there are laid out as they are
flags-same : (r : DataPathStateTLV) → r.flags.0 < 2 ^ 16 → flags_match r ≡ true → only_with r ≡ true
    → word_by (flags_runs r) r.flags.0 ≡ r.flags.0
flags-same r h f t =
    announced-same (flags_runs r) r.flags.0 (rw (options-there r t, extended-there r t) f) (omega arith)

-- and so are kept words that are zero where they are missing
options-same : (w : ℕ) → word_by options_kept w ≡ w → (b : Bool) → (b || eqb w 0) ≡ true
    → cond b (word_by options_kept w) 0 ≡ w
options-same w e b t = ap (λ (n : ℕ). cond b n 0) e ∙ number_same b w t

extended-same : (r : DataPathStateTLV) → let x = r.extended_flags.value.0 in
    extended_match r ≡ true → word_by extended_kept x ≡ x → (r.extended_flags.present || eqb x 0) ≡ true
    → word_by (extended_runs r) (cond r.extended_flags.present x 0) ≡ x
extended-same r m e t =
    let x = r.extended_flags.value.0 in
    ap (λ (n : ℕ). word_by (extended_runs r) n) (number_same r.extended_flags.present x t)
    ∙ announced-same (extended_runs r) x m (rw e at (word-spare extended_kept x))

pub elsewhere-same : (r : DataPathStateTLV) → r.flags.0 < 2 ^ 16 → Elsewhere r → mended r ≡ r
unfolding mended
elsewhere-same r h e =
    let o = r.unicast_options.value.0 in
    let x = r.extended_flags.value.0 in
    let a = nth true (absent_tests r) e.absent in
    let w = nth true (eqb (word_by extended_kept x) x ∷ eqb (word_by options_kept o) o ∷ []) e.words in
    let options = options-same o (eqb-true (word_by options_kept o) o (w 1)) r.unicast_options.present (a 5) in
    let extended = extended-same r e.extended (eqb-true (word_by extended_kept x) x (w 0)) (a 7) in
    λ i.
    record {
      flags = record { 0 = flags-same r h e.flags e.only i };
      country_code = O.mend-same O.country-zero r.country_code (a 0) i;
      channel_map = O.mend-same O.channel-zero r.channel_map (a 1) i;
      infra_bssid_channel = O.mend-same O.infra-zero r.infra_bssid_channel (a 2) i;
      infra_address = O.mend-same O.address-zero r.infra_address (a 3) i;
      awdl_address = O.mend-same O.address-zero r.awdl_address (a 4) i;
      unicast_options = record { present = options-there r e.only i; value = record { 0 = options i } };
      unicast_options_ext = O.mend-same O.number-zero r.unicast_options_ext (a 6) i;
      extended_flags = record { present = extended-there r e.only i; value = record { 0 = extended i } };
      rlfc = O.mend-same O.number-zero r.rlfc (a 8) i;
      log_trigger_id = O.mend-same O.number-zero r.log_trigger_id (a 9) i;
      stats = O.mend-same O.stats-zero r.stats (a 10) i;
    }

pub mended-same : (r : DataPathStateTLV) → r.flags.0 < 2 ^ 16 → consistent r ≡ true → mended r ≡ r
mended-same r h c = elsewhere-same r h (consistent-elsewhere r c)

-- the presence bits of a mended record
mended-flags : (r : DataPathStateTLV) → flags_match (mended r) ≡ true
unfolding mended
mended-flags r =
    let f = flags_runs r in
    let w = r.flags.0 in
    rw (
      O.mend-there zero_infra r.infra_bssid_channel,
      O.mend-there zero_address r.infra_address,
      O.mend-there zero_address r.awdl_address,
      O.mend-there zero_country r.country_code,
      O.mend-there zero_channel r.channel_map,
    )
    (announced [] r.infra_bssid_channel.present (drop 1 f) w
    and announced (take 1 f) r.infra_address.present (drop 2 f) w
    and announced (take 2 f) r.awdl_address.present (drop 3 f) w
    and announced (take 4 f) r.country_code.present (drop 5 f) w
    and announced (take 5 f) r.channel_map.present (drop 6 f) w
    and announced (take 7 f) (has_options r) (drop 8 f) w
    and announced (take 9 f) (has_extended r) [] w)

-- the extended word that mending starts from
abbrev extended_word : DataPathStateTLV → ℕ
extended_word r = cond r.extended_flags.present r.extended_flags.value.0 0

mended-extended : (r : DataPathStateTLV) → extended_match (mended r) ≡ true
unfolding mended
mended-extended r =
    let x = extended_runs r in
    let w = extended_word r in
    rw (
      O.mend-there 0 r.log_trigger_id,
      O.mend-there 0 r.rlfc,
      O.mend-there zero_stats r.stats,
    )
    (announced [] r.log_trigger_id.present (drop 1 x) w
    and announced (take 2 x) r.rlfc.present (drop 3 x) w
    and announced (take 4 x) r.stats.present (drop 5 x) w)

mended-only : (r : DataPathStateTLV) → only_with (mended r) ≡ true
unfolding mended
mended-only r =
    let x = r.extended_flags.present in
    let t = r.log_trigger_id.present in
    let l = r.rlfc.present in
    let s = r.stats.present in
    rw (
      O.mend-there 0 r.unicast_options_ext,
      O.mend-there 0 r.log_trigger_id,
      O.mend-there 0 r.rlfc,
      O.mend-there zero_stats r.stats,
    )
    (last_of r.unicast_options.present r.unicast_options_ext.present
    and one_of (x || t || l) t s (one_of (x || t) t l (last_of x t))
    and one_of (x || t || l) l s (last_of (x || t) l)
    and last_of (x || t || l) s)

-- what is laid out by the runs of a mended extended word has no dropped bit
kept-extended : (r : DataPathStateTLV) (v : ℕ) → word_by extended_kept (word_by (extended_runs r) v) ≡ word_by (extended_runs r) v
kept-extended r v = announced-same extended_kept (word_by (extended_runs r) v) refl (word-spare (extended_runs r) v)

kept-options : (b : Bool) (w : ℕ) → word_by options_kept (cond b (word_by options_kept w) 0) ≡ cond b (word_by options_kept w) 0
kept-options true w = word-twice options_kept w
kept-options false w = refl

mended-words : (r : DataPathStateTLV) → words_kept (mended r) ≡ true
unfolding mended
mended-words r =
    let o = cond r.unicast_options.present (word_by options_kept r.unicast_options.value.0) 0 in
    let w = word_by (extended_runs r) (extended_word r) in
    eq-eqb (word_by extended_kept w) w (kept-extended r (extended_word r))
    and eq-eqb (word_by options_kept o) o (kept-options r.unicast_options.present r.unicast_options.value.0)

-- a word is there after mending, or zero
zero-options : (p e : Bool) (w : ℕ) → ((p || e) || eqb (cond p w 0) 0) ≡ true
zero-options true e w = refl
zero-options false e w = or-true e

zero_extended : (r : DataPathStateTLV) (b : Bool) → has_extended r ≡ b → (b || eqb (word_by (extended_runs r) (extended_word r)) 0) ≡ true
zero_extended r true e = refl
zero_extended r false e =
    let x = r.extended_flags.present in
    let t = r.log_trigger_id.present in
    let l = r.rlfc.present in
    let s = neither (x || t || l) r.stats.present e in
    let ls = neither (x || t) l s.0 in
    let ts = neither x t ls.0 in
    rw (ts.0, ts.1, ls.1, s.1)

mended-absent : (r : DataPathStateTLV) → absent_zero (mended r) ≡ true
unfolding mended
mended-absent r =
    O.mend-sound O.country-zero r.country_code
    and O.mend-sound O.channel-zero r.channel_map
    and O.mend-sound O.infra-zero r.infra_bssid_channel
    and O.mend-sound O.address-zero r.infra_address
    and O.mend-sound O.address-zero r.awdl_address
    and zero-options r.unicast_options.present r.unicast_options_ext.present (word_by options_kept r.unicast_options.value.0)
    and O.mend-sound O.number-zero r.unicast_options_ext
    and zero_extended r (has_extended r) refl
    and O.mend-sound O.number-zero r.rlfc
    and O.mend-sound O.number-zero r.log_trigger_id
    and O.mend-sound O.stats-zero r.stats

pub mended-elsewhere : (r : DataPathStateTLV) → Elsewhere (mended r)
mended-elsewhere r =
    record {
      flags = mended-flags r;
      extended = mended-extended r;
      only = mended-only r;
      words = mended-words r;
      absent = mended-absent r;
    }

mended-channel : (r : DataPathStateTLV) → ChannelRight r → channel_right (mended r).channel_map.value ≡ true
unfolding mended
mended-channel r h =
    O.passes (λ (c : Optional DataPathChannel). channel_right c.value) r.channel_map.present r.channel_map (none zero_channel) h refl

pub mended-consistent : (r : DataPathStateTLV) → ChannelRight r → consistent (mended r) ≡ true
unfolding consistent
mended-consistent r h =
    mended-flags r and mended-extended r and mended-only r and mended-channel r h and mended-words r and mended-absent r

pub mended-range : (r : DataPathStateTLV) → (mended r).flags.0 < 2 ^ 16
unfolding mended
mended-range r = omega (arith, word-spare (flags_runs r) r.flags.0)

-- whatever its channel is
pub mended-twice : (r : DataPathStateTLV) → mended (mended r) ≡ mended r
mended-twice r = elsewhere-same (mended r) (mended-range r) (mended-elsewhere r)

-- the options count under a lone second word, and the extended word where one of its fields is there
pub mended-size : (r : DataPathStateTLV)
    → sum (mended r)
    ≡ 2
    + counted r.country_code.present 3
    + counted r.channel_map.present 2
    + counted r.infra_bssid_channel.present 8
    + counted r.infra_address.present 6
    + counted r.awdl_address.present 6
    + counted (has_options r) 6
    + counted r.unicast_options_ext.present 4
    + counted (has_extended r) 2
    + counted r.log_trigger_id.present 2
    + counted r.rlfc.present 4
    + counted r.stats.present 12
unfolding sum mended
mended-size r =
    rw (
      O.mend-there zero_country r.country_code,
      O.mend-there zero_channel r.channel_map,
      O.mend-there zero_infra r.infra_bssid_channel,
      O.mend-there zero_address r.infra_address,
      O.mend-there zero_address r.awdl_address,
      O.mend-there 0 r.unicast_options_ext,
      O.mend-there 0 r.log_trigger_id,
      O.mend-there 0 r.rlfc,
      O.mend-there zero_stats r.stats,
    )

-- nothing is there but the second word
pub record LoneSecondWord (r : DataPathStateTLV) : Type 0 where
  pub second : r.unicast_options_ext.present ≡ true
  pub no-country : r.country_code.present ≡ false
  pub no-channel : r.channel_map.present ≡ false
  pub no-infra : r.infra_bssid_channel.present ≡ false
  pub no-infra-address : r.infra_address.present ≡ false
  pub no-awdl-address : r.awdl_address.present ≡ false
  pub no-options : r.unicast_options.present ≡ false
  pub no-extended : r.extended_flags.present ≡ false
  pub no-trigger-id : r.log_trigger_id.present ≡ false
  pub no-rlfc : r.rlfc.present ≡ false
  pub no-stats : r.stats.present ≡ false

-- two bytes of flags, and ten for the length and both words
pub lone-size : (r : DataPathStateTLV) → LoneSecondWord r → sum (mended r) ≡ 12
lone-size r l =
    mended-size r
    ∙ rw (
      l.second,
      l.no-country,
      l.no-channel,
      l.no-infra,
      l.no-infra-address,
      l.no-awdl-address,
      l.no-options,
      l.no-extended,
      l.no-trigger-id,
      l.no-rlfc,
      l.no-stats,
    )
