-- A record is within its bounds and consistent exactly where bytes are read as it: its own bytes are, and what is read of bytes keeps every bound, field by field.
-- Assumes nothing.
use Prim.Native.Nat.{ℕ, ◌%◌, ◌^◌, ◌<◌}
use native.Mathlib.Omega.{arith}
use mathlib.Core.Path.{◌≡◌}
use mathlib.Core.Bool.{Bool, true, false, cond}
use mathlib.Core.Logic.{◌↔◌}
use mathlib.Core.List.{List}
use lib.Dec.{eqb, lit<}
use lib.ListN.{get_or}
use Rattle.wire.specs.declared.refusal.Refusal.TheVariants.{UnicastLength}
use Rattle.wire.specs.Reading.{read}
use Rattle.wire.specs.FromBytes.{ReadFromBytes}
use Rattle.wire.specs.Numbers.{little_bytes, number, bit}
use Rattle.wire.specs.Addresses.{address_bytes, zero_address}
use Rattle.wire.proofs.Octets.{Octets, octets-none, octets-cons, octets-append, octets-cond, octets-little, gives-field, gives-number, gives-address}
use Rattle.wire.proofs.ReadsBack.{from_bytes}
use Rattle.wire.proofs.Gives.{Gives, gives-any, gives-give, gives-refuse, gives-bind, gives-group, gives-when, gives-cond, gives-optional}
use Rattle.data_path_words.specs.declared.misc.DataPathChannel.{DataPathChannel}
use Rattle.data_path_words.specs.Words.{channel_of, word_of, channel_word, zero_stats, stats}
use Rattle.data_path_fields.specs.declared.optional.Optional.{Optional}
use Rattle.data_path_fields.specs.declared.read.Extended.{Extended}
use Rattle.data_path_fields.specs.Optional.{none, optional, optional_bytes}
use Rattle.data_path_fields.specs.Fields.{no_country, country, no_channel, no_infra, infra, no_address, addresses, options_and, no_unicast, unicast, no_extended, extended}
use Rattle.data_path_state.proofs.Optionals.{there-gives}
use Rattle.data_path_state.specs.declared.data_path_state_tlv.DataPathStateTLV.{DataPathStateTLV}
use Rattle.data_path_state.specs.DataPath.{data_path}
use Rattle.data_path_state.specs.Ranges.{Ranges}
use Rattle.data_path_state.specs.Bytes.{head_bytes, addresses_bytes, unicast_bytes, extended_bytes, record_bytes}
use Rattle.data_path_state.specs.Consistent.{consistent}
use Rattle.data_path_state.proofs.RoundTrip.{record-back}
use Rattle.data_path_state.proofs.ReadConsistent.{read-consistent}

number-octets : (n : ℕ) (o : Optional ℕ) → Octets (optional_bytes (little_bytes n) o)
number-octets n o = octets-cond o.present (octets-little n o.value)

head-octets : (r : DataPathStateTLV) → Ranges r → Octets (head_bytes r)
head-octets r h =
    octets-append
    (octets-append (octets-little 2 r.flags.0)
    (octets-cond r.country_code.present (octets-cons h.first (octets-cons h.second (octets-cons h.pad octets-none)))))
    (octets-cond r.channel_map.present (octets-little 2 (word_of r.channel_map.value)))

addresses-octets : (r : DataPathStateTLV) → Ranges r → Octets (addresses_bytes r)
addresses-octets r h =
    let b = r.infra_bssid_channel in
    let bssid : Octets (address_bytes b.value.bssid) = record { small = h.bssid } in
    let address : Octets (address_bytes r.infra_address.value) = record { small = h.address } in
    let awdl : Octets (address_bytes r.awdl_address.value) = record { small = h.awdl } in
    octets-append
    (octets-append (octets-cond b.present (octets-append bssid (octets-little 2 b.value.channel))) (octets-cond r.infra_address.present address))
    (octets-cond r.awdl_address.present awdl)

unicast-octets : (r : DataPathStateTLV) → Octets (unicast_bytes r)
unicast-octets r =
    let o = r.unicast_options in
    let x = r.unicast_options_ext in
    octets-cond o.present
    (octets-append (octets-append (octets-little 2 (cond x.present 8 4)) (octets-little 4 o.value.0)) (number-octets 4 x))

extended-octets : (r : DataPathStateTLV) → Octets (extended_bytes r)
extended-octets r =
    let x = r.extended_flags in
    let s = r.stats.value in
    octets-cond x.present
    (octets-append
    (octets-append (octets-append (octets-little 2 x.value.0) (number-octets 2 r.log_trigger_id)) (number-octets 4 r.rlfc))
    (octets-cond r.stats.present
    (octets-append (octets-append (octets-little 4 s.msec_since_activation) (octets-little 4 s.aw_seq_counter)) (octets-little 4 s.pay_update_coutner))))

record-octets : (r : DataPathStateTLV) → Ranges r → Octets (record_bytes r)
unfolding record_bytes
record-octets r h =
    octets-append (octets-append (octets-append (head-octets r h) (addresses-octets r h)) (unicast-octets r)) (extended-octets r)

channel-range : (w : ℕ) → word_of (channel_of w) < 256 ^ 2
channel-range w = go (bit 0 w)
  where
    go : (b : Bool) → word_of (cond b (DataPathChannel.ChannelMap (record { 0 = w % 2 ^ 3 })) (DataPathChannel.SingleChannel (w % 2 ^ 8))) < 256 ^ 2
    go true = omega arith
    go false = omega arith

no-address : Octets (address_bytes zero_address)
no-address = octets-little 6 0

record ExtendedRanges (x : Extended) : Type 0 where
  flags : x.flags.value.0 < 256 ^ 2
  trigger : x.trigger.value < 256 ^ 2
  rlfc : x.rlfc.value < 256 ^ 4
  msec : x.stats.value.msec_since_activation < 256 ^ 4
  aw : x.stats.value.aw_seq_counter < 256 ^ 4
  pay : x.stats.value.pay_update_coutner < 256 ^ 4

-- what each field is, read of octets
module _ {s : List ℕ} (octets : Octets s) where
  country-ranges : Gives s country (λ c. (c.first < 256) × (c.second < 256) × (c.pad < 256))
  country-ranges = gives-bind (gives-field octets 3) λ bytes p. gives-give _ (p.octets.small 0, p.octets.small 1, p.octets.small 2)

  channel-ranges : Gives s channel_word (λ c. word_of c < 256 ^ 2)
  channel-ranges = gives-bind (gives-any (number 2)) λ word _. gives-give _ (channel-range word)

  infra-ranges : Gives s infra (λ i. Octets (address_bytes i.bssid) × (i.channel < 256 ^ 2))
  infra-ranges =
      gives-bind (gives-address octets) λ bssid b. gives-bind (gives-number octets 2) λ channel c. gives-give _ (b, c)

  number-ranges : (b : Bool) (n : ℕ) → 0 < 256 ^ n → Gives s (optional b 0 (number n)) (λ o. o.value < 256 ^ n)
  number-ranges b n h = gives-when b (none 0) (λ e. there-gives (gives-number octets n)) (λ e. h)

  options-ranges : (second : Bool) → Gives s (options_and second) (λ u. (u.options.value.0 < 256 ^ 4) × (u.ext.value < 256 ^ 4))
  options-ranges second =
      gives-bind {Q = λ o. o.0 < 256 ^ 4} (gives-bind (gives-any (number 4)) λ w _. gives-give _ (omega arith)) λ options o.
      gives-bind (number-ranges second 4 (lit< tt)) λ ext x. gives-give _ (o, x)

  unicast-ranges : Gives s unicast (λ u. (u.options.value.0 < 256 ^ 4) × (u.ext.value < 256 ^ 4))
  unicast-ranges =
      gives-bind (gives-any (number 2)) λ length _.
      gives-cond (eqb length 4) (options-ranges false) (gives-cond (eqb length 8) (options-ranges true) (gives-refuse UnicastLength))

  stats-ranges : Gives s stats (λ x. (x.msec_since_activation < 256 ^ 4) × (x.aw_seq_counter < 256 ^ 4) × (x.pay_update_coutner < 256 ^ 4))
  stats-ranges = gives-bind (gives-number octets 4) λ msec m. gives-bind (gives-number octets 4) λ aw a. gives-bind (gives-number octets 4) λ pay p. gives-give _ (m, a, p)

  extended-ranges : Gives s extended ExtendedRanges
  extended-ranges =
      gives-bind {Q = λ e. e.0 < 256 ^ 2} (gives-bind (gives-any (number 2)) λ word _. gives-give _ (omega arith)) λ flags e.
      gives-bind (number-ranges (bit 0 flags.0) 2 (lit< tt)) λ trigger t.
      gives-bind (number-ranges (bit 2 flags.0) 4 (lit< tt)) λ rlfc f.
      gives-bind (gives-when (bit 5 flags.0) (none zero_stats) (λ e. there-gives stats-ranges) (λ e. (lit< tt, lit< tt, lit< tt))) λ stats x.
      gives-give _ (record { flags = e; trigger = t; rlfc = f; msec = x.0; aw = x.1; pay = x.2 })

  data-path-ranges : Gives s data_path Ranges
  data-path-ranges =
      gives-group (number 2) _ _ (gives-bind (gives-number octets 2) λ flags f.
      gives-optional (bit 8 flags) no_country _ _ (there-gives country-ranges) (lit< tt, lit< tt, lit< tt) λ country c.
      gives-optional (bit 9 flags) no_channel _ _ (there-gives channel-ranges) (lit< tt) λ channel w.
      gives-group (addresses flags) _ _
      (gives-optional (bit 0 flags) no_infra _ _ (there-gives infra-ranges) (no-address, lit< tt) λ bssid b.
      gives-optional (bit 1 flags) no_address _ _ (there-gives (gives-address octets)) no-address λ infra i.
      gives-optional (bit 2 flags) no_address _ _ (there-gives (gives-address octets)) no-address λ awdl a.
      gives-optional (bit 12 flags) no_unicast _ _ unicast-ranges (lit< tt, lit< tt) λ unicast u.
      gives-optional (bit 15 flags) no_extended _ _ extended-ranges
      (record { flags = lit< tt; trigger = lit< tt; rlfc = lit< tt; msec = lit< tt; aw = lit< tt; pay = lit< tt }) λ extended x.
      gives-give _ (record {
        flags = f;
        first = c.0;
        second = c.1;
        pad = c.2;
        channel = w;
        bssid = b.0.small;
        infra = b.1;
        address = i.small;
        awdl = a.small;
        options = u.0;
        ext = u.1;
        extended = x.flags;
        rlfc = x.rlfc;
        trigger = x.trigger;
        msec = x.msec;
        aw = x.aw;
        pay = x.pay;
      })))

pub read-ranges : (s : List ℕ) → ((i : ℕ) → get_or s i 0 < 256) → (at : ℕ) {next : ℕ} {r : DataPathStateTLV} → data_path s at ≡ read r next → Ranges r
read-ranges s small at e = (data-path-ranges {s = s} (record { small = small })).of {at = at} e

pub read-exactly : (r : DataPathStateTLV) → (Ranges r × (consistent r ≡ true)) ↔ ReadFromBytes data_path r
read-exactly r = (
  λ p. from_bytes (record-back r p.0 p.1) (record-octets r p.0).small,
  λ p. (read-ranges p.bytes p.small 0 p.reads, read-consistent p.bytes 0 p.reads),
)
