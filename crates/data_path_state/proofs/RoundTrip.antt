-- A consistent record's bytes read back as the record, from any place and with anything behind: each line of the reader reads back what its field wrote.
-- Assumes nothing.
use Prim.Native.Nat.{ℕ, ◌%◌, ◌^◌, ◌<◌, ◌≤◌}
use native.Mathlib.Nat.{zero-add}
use native.Mathlib.Omega.{arith}
use mathlib.Core.Path.{◌≡◌, refl, sym, ap, ◌∙◌, subst}
use mathlib.Core.Bool.{Bool, true, false, not, cond, ◌||◌}
use mathlib.Core.List.{List, [], ◌∷◌, ◌++◌, append_assoc}
use lib.Dec.{eqb, leb, lit<}
use lib.ListN.{length, drop}
use lib.Seq.{drop-append_seam}
use borrow.Author.Tests.{eqb-true, eq-eqb, ne_eqb, leb-true, le-leb}
use Rattle.wire.specs.Reading.{read, when}
use Rattle.wire.specs.Answer.{answer}
use Rattle.wire.specs.Numbers.{little_bytes, number, bit, bits}
use Rattle.wire.specs.Addresses.{zero_address, address, address_bytes}
use Rattle.wire.specs.Words.{word_by}
use Rattle.wire.specs.Writing.{within, length_of, afterwards}
use Rattle.wire.proofs.Tests.{both, each, implied}
use Rattle.wire.proofs.ReadsBack.{Back, bind-back, made-back, field_back, when-back, number-back, address-back}
use Rattle.data_path_words.specs.declared.misc.DataPathChannel.{DataPathChannel}
use Rattle.data_path_words.specs.declared.misc.UnicastOptions.{UnicastOptions}
use Rattle.data_path_words.specs.declared.flags.DataPathExtendedFlags.{DataPathExtendedFlags}
use Rattle.data_path_words.specs.Words.{extended_kept, options_kept, channel_of, word_of, zero_channel, channel_word, channel_bytes, options_word, options_bytes, extended_word, zero_stats, stats, stats_bytes}
use Rattle.data_path_words.specs.Words as W
use Rattle.data_path_fields.specs.declared.fields.CountryCode.{CountryCode}
use Rattle.data_path_fields.specs.declared.fields.InfraBssidChannel.{InfraBssidChannel}
use Rattle.data_path_fields.specs.declared.optional.Optional.{Optional}
use Rattle.data_path_fields.specs.declared.read.Unicast.{Unicast}
use Rattle.data_path_fields.specs.declared.read.Extended.{Extended}
use Rattle.data_path_fields.specs.Optional.{none, optional, optional_bytes}
use Rattle.data_path_fields.specs.Fields.{zero_country, country, country_bytes, head, zero_infra, infra, infra_bytes, addresses}
use Rattle.data_path_fields.specs.Fields.{options_and, options_of, no_unicast, unicast, no_extended, extended_of, extended}
use Rattle.data_path_state.specs.declared.data_path_state_tlv.DataPathStateTLV.{DataPathStateTLV}
use Rattle.data_path_state.specs.DataPath.{data_path}
use Rattle.data_path_state.specs.Consistent.{channel_right, consistent}
use Rattle.data_path_state.specs.Bytes.{head_bytes, addresses_bytes, unicast_bytes, extended_bytes, record_bytes, bytes_of, size_of}
use Rattle.data_path_state.proofs.Optionals.{optional-back}
use Rattle.data_path_state.proofs.Right.{Right, right, presence-announced, gone}
use Rattle.data_path_state.specs.Ranges.{Ranges}
use Rattle.data_path_state.proofs.Sizes.{length-record}

country-back : (c : CountryCode) → Back country (country_bytes c) c
country-back c = made-back _ (field_back 3 (country_bytes c) refl)

-- the channel word of a right channel is that channel again
channel-same : (c : DataPathChannel) → channel_right c ≡ true → channel_of (word_of c) ≡ c
channel-same (DataPathChannel.SingleChannel channel) e =
    let z = both (eqb (channel % 2) 0) (leb channel 254) e in
    let even = eqb-true (channel % 2) 0 z.0 in
    let small = leb-true channel 254 z.1 in
    rw (ne_eqb (bits 0 1 channel) 1 (omega arith)) (ap DataPathChannel.SingleChannel (omega arith))
channel-same (DataPathChannel.ChannelMap map) e =
    let z = both (eqb (map.0 % 2) 1) (leb map.0 7) e in
    let odd = eqb-true (map.0 % 2) 1 z.0 in
    let small = leb-true map.0 7 z.1 in
    let same : map.0 % 2 ^ 3 ≡ map.0 = omega arith in
    rw (eq-eqb (bits 0 1 map.0) 1 (omega arith)) (ap DataPathChannel.ChannelMap (λ i. record { 0 = same i }))

channel-back : (c : DataPathChannel) → channel_right c ≡ true → word_of c < 256 ^ 2 → Back channel_word (channel_bytes c) c
channel-back c e h =
    subst (λ (x : DataPathChannel). Back channel_word (channel_bytes c) x) (channel-same c e) (made-back _ (number-back 2 (word_of c) h))

head-back : (r : DataPathStateTLV) → Ranges r → Right r
    → Back head (head_bytes r) (record { flags = r.flags.0; country = r.country_code; channel = r.channel_map })
head-back r h w =
    let a = presence-announced w in
    let g = gone w in
    let country' : Back (optional (bit 8 r.flags.0) zero_country country) (optional_bytes country_bytes r.country_code) r.country_code =
    rw a.country (optional-back zero_country r.country_code (country-back r.country_code.value) g.country) in
    let channel' : Back (optional (bit 9 r.flags.0) zero_channel channel_word) (optional_bytes channel_bytes r.channel_map) r.channel_map =
    rw a.channel (optional-back zero_channel r.channel_map (channel-back r.channel_map.value w.channel h.channel) g.channel) in
    rw (append_assoc (little_bytes 2 r.flags.0) (optional_bytes country_bytes r.country_code) (optional_bytes channel_bytes r.channel_map))
    (bind-back _ (number-back 2 r.flags.0 h.flags) (bind-back _ country' (made-back _ channel')))

infra-back : (i : InfraBssidChannel) → i.channel < 256 ^ 2 → Back infra (infra_bytes i) i
infra-back i h = bind-back _ (address-back i.bssid) (made-back _ (number-back 2 i.channel h))

addresses-back : (r : DataPathStateTLV) → Ranges r → Right r → Back (addresses r.flags.0) (addresses_bytes r)
    (record { bssid = r.infra_bssid_channel; infra = r.infra_address; awdl = r.awdl_address })
addresses-back r h w =
    let a = presence-announced w in
    let g = gone w in
    let bssid : Back (optional (bit 0 r.flags.0) zero_infra infra) (optional_bytes infra_bytes r.infra_bssid_channel) r.infra_bssid_channel =
    rw a.infra (optional-back zero_infra r.infra_bssid_channel (infra-back r.infra_bssid_channel.value h.infra) g.infra) in
    let infra' : Back (optional (bit 1 r.flags.0) zero_address address) (optional_bytes address_bytes r.infra_address) r.infra_address =
    rw a.address (optional-back zero_address r.infra_address (address-back r.infra_address.value) g.address) in
    let awdl : Back (optional (bit 2 r.flags.0) zero_address address) (optional_bytes address_bytes r.awdl_address) r.awdl_address =
    rw a.awdl (optional-back zero_address r.awdl_address (address-back r.awdl_address.value) g.awdl) in
    rw (append_assoc (optional_bytes infra_bytes r.infra_bssid_channel) (optional_bytes address_bytes r.infra_address) (optional_bytes address_bytes r.awdl_address))
    (bind-back _ bssid (bind-back _ infra' (made-back _ awdl)))

number-there : (n : ℕ) (o : Optional ℕ) → o.value < 256 ^ n → (o.present ≡ false → o ≡ none 0)
    → Back (optional o.present 0 (number n)) (optional_bytes (little_bytes n) o) o
number-there n o h = optional-back 0 o (number-back n o.value h)

options-back : (o : UnicastOptions) → o.0 < 256 ^ 4 → word_by options_kept o.0 ≡ o.0 → Back options_word (options_bytes o) o
options-back o h kept =
    subst (λ (x : UnicastOptions). Back options_word (options_bytes o) x) (λ i. record { 0 = kept i }) (made-back _ (number-back 4 o.0 h))

options-and-back : (o : Optional UnicastOptions) (x : Optional ℕ) → o.value.0 < 256 ^ 4 → x.value < 256 ^ 4 → o.present ≡ true
    → word_by options_kept o.value.0 ≡ o.value.0 → (x.present ≡ false → x ≡ none 0)
    → Back (options_and x.present) (options_bytes o.value ++ optional_bytes (little_bytes 4) x) (record { options = o; ext = x })
options-and-back o x ho hx p kept gone' =
    subst (λ (y : Optional UnicastOptions). Back (options_and x.present) (options_bytes o.value ++ optional_bytes (little_bytes 4) x) (record { options = y; ext = x }))
    (λ i. record { present = sym p i; value = o.value })
    (bind-back _ (options-back o.value ho kept) (made-back {B = Unicast} _ (number-there 4 x hx gone')))

-- the length tells whether the second word follows
length-tells : (second : Bool) → options_of (cond second 8 4) ≡ options_and second
length-tells true = refl
length-tells false = refl

length-small : (second : Bool) → cond second 8 4 < 256 ^ 2
length-small true = lit< tt
length-small false = lit< tt

-- what is said of fields that stand only with others
record Only (r : DataPathStateTLV) : Type 0 where
  ext : r.unicast_options.present ≡ false → r.unicast_options_ext.present ≡ false
  trigger : r.extended_flags.present ≡ false → r.log_trigger_id.present ≡ false
  rlfc : r.extended_flags.present ≡ false → r.rlfc.present ≡ false
  stats : r.extended_flags.present ≡ false → r.stats.present ≡ false

only : {r : DataPathStateTLV} → Right r → Only r
only {r} w =
    let x = r.extended_flags.present in
    let z = each (not r.unicast_options_ext.present || r.unicast_options.present)
    ((not r.log_trigger_id.present || x) ∷ (not r.rlfc.present || x) ∷ (not r.stats.present || x) ∷ []) w.only in
    record {
      ext = implied r.unicast_options_ext.present r.unicast_options.present z.0;
      trigger = implied r.log_trigger_id.present x z.1.0;
      rlfc = implied r.rlfc.present x z.1.1.0;
      stats = implied r.stats.present x z.1.1.1.0;
    }

record Kept (r : DataPathStateTLV) : Type 0 where
  extended : word_by extended_kept r.extended_flags.value.0 ≡ r.extended_flags.value.0
  options : word_by options_kept r.unicast_options.value.0 ≡ r.unicast_options.value.0

kept : {r : DataPathStateTLV} → Right r → Kept r
kept {r} w =
    let x = r.extended_flags.value.0 in
    let o = r.unicast_options.value.0 in
    let z = both (eqb (word_by extended_kept x) x) (eqb (word_by options_kept o) o) w.words in
    record { extended = eqb-true (word_by extended_kept x) x z.0; options = eqb-true (word_by options_kept o) o z.1 }

unicast-back : (r : DataPathStateTLV) → Ranges r → Right r
    → Back (when (bit 12 r.flags.0) no_unicast unicast) (unicast_bytes r)
    (record { options = r.unicast_options; ext = r.unicast_options_ext })
unicast-back r h w =
    let g = gone w in
    let o = r.unicast_options in
    let x = r.unicast_options_ext in
    let there : o.present ≡ true
    → Back unicast (little_bytes 2 (cond x.present 8 4) ++ options_bytes o.value ++ optional_bytes (little_bytes 4) x) (record { options = o; ext = x }) =
    λ p. rw (append_assoc (little_bytes 2 (cond x.present 8 4)) (options_bytes o.value) (optional_bytes (little_bytes 4) x))
    (bind-back _ (number-back 2 (cond x.present 8 4) (length-small x.present))
    (rw (length-tells x.present) (options-and-back o x h.options h.ext p (kept w).options g.ext))) in
    let gone' : o.present ≡ false → ◌≡◌ {A = Unicast} (record { options = o; ext = x }) no_unicast =
    λ p. λ i. record { options = g.options p i; ext = g.ext ((only w).ext p) i } in
    rw (presence-announced w).unicast (when-back o.present no_unicast there gone')

stats-back : (r : DataPathStateTLV) → Ranges r → Back stats (stats_bytes r.stats.value) r.stats.value
stats-back r h =
    let s = r.stats.value in
    rw (append_assoc (little_bytes 4 s.msec_since_activation) (little_bytes 4 s.aw_seq_counter) (little_bytes 4 s.pay_update_coutner))
    (bind-back _ (number-back 4 s.msec_since_activation h.msec)
    (bind-back _ (number-back 4 s.aw_seq_counter h.aw) (made-back _ (number-back 4 s.pay_update_coutner h.pay))))

-- what stands behind the extended word
abbrev announced_bytes : DataPathStateTLV → List ℕ
announced_bytes r =
    optional_bytes (little_bytes 2) r.log_trigger_id ++ (optional_bytes (little_bytes 4) r.rlfc ++ optional_bytes stats_bytes r.stats)

abbrev extended_part : DataPathStateTLV → Extended
extended_part r = record { flags = r.extended_flags; trigger = r.log_trigger_id; rlfc = r.rlfc; stats = r.stats }

extended-of-back : (r : DataPathStateTLV) → Ranges r → Right r → r.extended_flags.present ≡ true
    → Back (extended_of r.extended_flags.value) (announced_bytes r) (extended_part r)
extended-of-back r h w p =
    let a = presence-announced w in
    let g = gone w in
    let x = r.extended_flags.value.0 in
    let trigger : Back (optional (bit 0 x) 0 (number 2)) (optional_bytes (little_bytes 2) r.log_trigger_id) r.log_trigger_id =
    rw a.trigger (number-there 2 r.log_trigger_id h.trigger g.trigger) in
    let rlfc : Back (optional (bit 2 x) 0 (number 4)) (optional_bytes (little_bytes 4) r.rlfc) r.rlfc =
    rw a.rlfc (number-there 4 r.rlfc h.rlfc g.rlfc) in
    let stats' : Back (optional (bit 5 x) zero_stats stats) (optional_bytes stats_bytes r.stats) r.stats =
    rw a.stats (optional-back zero_stats r.stats (stats-back r h) g.stats) in
    subst (λ (y : Extended). Back (extended_of r.extended_flags.value) (announced_bytes r) y)
    (λ i. record { flags = record { present = sym p i; value = r.extended_flags.value }; trigger = r.log_trigger_id; rlfc = r.rlfc; stats = r.stats })
    (bind-back _ trigger (bind-back _ rlfc (made-back _ stats')))

word-back : (e : DataPathExtendedFlags) → e.0 < 256 ^ 2 → word_by extended_kept e.0 ≡ e.0 → Back extended_word (W.extended_bytes e) e
word-back e h kept =
    subst (λ (x : DataPathExtendedFlags). Back extended_word (W.extended_bytes e) x) (λ i. record { 0 = kept i }) (made-back _ (number-back 2 e.0 h))

extended-back : (r : DataPathStateTLV) → Ranges r → Right r
    → Back (when (bit 15 r.flags.0) no_extended extended) (extended_bytes r) (extended_part r)
extended-back r h w =
    let g = gone w in
    let x = W.extended_bytes r.extended_flags.value in
    let t = optional_bytes (little_bytes 2) r.log_trigger_id in
    let l = optional_bytes (little_bytes 4) r.rlfc in
    let s = optional_bytes stats_bytes r.stats in
    let there : r.extended_flags.present ≡ true → Back extended (x ++ t ++ l ++ s) (extended_part r) =
    λ p. rw (append_assoc (x ++ t) l s, append_assoc x t (l ++ s))
    (bind-back _ (word-back r.extended_flags.value h.extended (kept w).extended) (extended-of-back r h w p)) in
    let gone' : r.extended_flags.present ≡ false → ◌≡◌ {A = Extended} (extended_part r) no_extended =
    λ p. λ i. record {
      flags = g.extended p i;
      trigger = g.trigger ((only w).trigger p) i;
      rlfc = g.rlfc ((only w).rlfc p) i;
      stats = g.stats ((only w).stats p) i;
    } in
    rw (presence-announced w).extended (when-back r.extended_flags.present no_extended there gone')

pub record-back : (r : DataPathStateTLV) → Ranges r → consistent r ≡ true → Back data_path (record_bytes r) r
unfolding record_bytes
record-back r h e =
    let w = right r e in
    rw (
      append_assoc (head_bytes r ++ addresses_bytes r) (unicast_bytes r) (extended_bytes r),
      append_assoc (head_bytes r) (addresses_bytes r) (unicast_bytes r ++ extended_bytes r),
    )
    (bind-back _ (head-back r h w)
    (made-back _ (bind-back _ (addresses-back r h w) (bind-back _ (unicast-back r h w) (made-back _ (extended-back r h w))))))

-- a consistent record: as many bytes as its size says, written into enough room and read back as itself, with what stood behind still there
pub round_trip : (r : DataPathStateTLV) (s : List ℕ) → Ranges r → consistent r ≡ true → length (record_bytes r) ≤ length s →
    let after : List ℕ = afterwards s (bytes_of r) (within (length s) (length_of (bytes_of r))) in
    (size_of r ≡ answer (length (record_bytes r)))
    × (data_path after 0 ≡ read r (length (record_bytes r)))
    × (drop (length (record_bytes r)) after ≡ drop (length (record_bytes r)) s)
round_trip r s h e fits =
    let room : leb (length (record_bytes r)) (length s) ≡ true = le-leb (length (record_bytes r)) (length s) fits in
    let rest = drop (length (record_bytes r)) s in (
      rw (e, length-record r e),
      rw (e, room) ((record-back r h e).back [] rest ∙ ap (read r) (zero-add (length (record_bytes r)))),
      rw (e, room) (drop-append_seam (record_bytes r) rest),
    )
