-- What is read is consistent: each line of the reader gives a field that is there as its bit says, right, and zero where it is not there.
-- Assumes nothing.
use Prim.Native.Nat.{ℕ, ◌%◌, ◌^◌}
use native.Mathlib.Omega.{arith}
use mathlib.Core.Path.{◌≡◌, refl}
use mathlib.Core.Bool.{Bool, true, false, not, cond, ◌||◌}
use mathlib.Core.List.{List, [], ◌∷◌}
use lib.Dec.{eqb}
use borrow.Author.Tests.{eq-eqb, eqb-true, eqb-false, le-leb}
use Rattle.wire.specs.declared.refusal.Refusal.TheVariants.{UnicastLength}
use Rattle.wire.specs.Reading.{Reader, read, when}
use Rattle.wire.specs.Numbers.{number, bit, bits}
use Rattle.wire.specs.Addresses.{address}
use Rattle.wire.specs.Words.{word_by}
use Rattle.wire.proofs.Gives.{Gives, gives-any, gives-give, gives-refuse, gives-bind, gives-when, gives-cond}
use Rattle.wire.proofs.Tests.{joined, same-as}
use Rattle.wire.proofs.Words.{word-twice}
use Rattle.data_path_words.specs.declared.flags.DataPathExtendedFlags.{DataPathExtendedFlags}
use Rattle.data_path_words.specs.declared.misc.DataPathChannel.{DataPathChannel}
use Rattle.data_path_words.specs.Words.{extended_kept, options_kept, channel_of, stats}
use Rattle.data_path_fields.specs.declared.optional.Optional.{Optional}
use Rattle.data_path_fields.specs.declared.read.Head.{Head}
use Rattle.data_path_fields.specs.declared.read.Addresses.{Addresses}
use Rattle.data_path_fields.specs.declared.read.Unicast.{Unicast}
use Rattle.data_path_fields.specs.declared.read.Extended.{Extended}
use Rattle.data_path_fields.specs.declared.read.Body.{Body}
use Rattle.data_path_fields.specs.Optional as F
use Rattle.data_path_fields.specs.Fields.{country, head, infra, addresses, options_and, no_unicast, unicast, no_extended, extended_of, extended, body}
use Rattle.data_path_state.proofs.Optionals as O
use Rattle.data_path_state.specs.declared.data_path_state_tlv.DataPathStateTLV.{DataPathStateTLV}
use Rattle.data_path_state.specs.DataPath.{record_of, data_path}
use Rattle.data_path_state.specs.Consistent.{is_zero_country, is_zero_channel, is_zero_infra, is_zero_address, is_zero_options, is_zero_extended, is_zero, is_zero_stats, channel_right, consistent}

-- there exactly where the bit is set, and zero elsewhere
abbrev Is : {A : Type 0} → Bool → (A → Bool) → Optional A → Type 0
Is b test o = (b ≡ o.present) × (F.absent_zero test o ≡ true)

optional-is : {A : Type 0} {s : List ℕ} {zero : A} {test : A → Bool} (b : Bool) (format : Reader A) → O.Zero zero test
    → Gives s (F.optional b zero format) (Is b test)
optional-is b format z = record { of = λ {at} e. let w = (O.optional-gives z b (gives-any format) tt).of {at = at} e in (w.0, w.1) }

right-channel : (w : ℕ) → channel_right (channel_of w) ≡ true
right-channel w = go (bit 0 w) refl
  where
    go : (b : Bool) → bit 0 w ≡ b
        → channel_right (cond b (DataPathChannel.ChannelMap (record { 0 = w % 2 ^ 3 })) (DataPathChannel.SingleChannel (w % 2 ^ 8))) ≡ true
    go true e =
        let odd = eqb-true (bits 0 1 w) 1 e in
        rw (eq-eqb (w % 2 ^ 3 % 2) 1 (omega arith), le-leb (w % 2 ^ 3) 7 (omega arith))
    go false e =
        let even = eqb-false (bits 0 1 w) 1 e in
        rw (eq-eqb (w % 2 ^ 8 % 2) 0 (omega arith), le-leb (w % 2 ^ 8) 254 (omega arith))

record HeadRight (h : Head) : Type 0 where
  country : Is (bit 8 h.flags) is_zero_country h.country
  channel : Is (bit 9 h.flags) is_zero_channel h.channel
  right : channel_right h.channel.value ≡ true

head-gives : {s : List ℕ} → Gives s head HeadRight
head-gives =
    gives-bind (gives-any (number 2)) λ flags _.
    gives-bind (optional-is (bit 8 flags) country O.country-zero) λ country c.
    gives-bind (O.optional-gives O.channel-zero {P = λ c. channel_right c ≡ true} (bit 9 flags) (gives-bind (gives-any (number 2)) λ word _. gives-give _ (right-channel word)) refl) λ channel w.
    gives-give _ (record { country = c; channel = (w.0, w.1); right = w.2 })

record AddressesRight (flags : ℕ) (a : Addresses) : Type 0 where
  bssid : Is (bit 0 flags) is_zero_infra a.bssid
  infra : Is (bit 1 flags) is_zero_address a.infra
  awdl : Is (bit 2 flags) is_zero_address a.awdl

addresses-gives : {s : List ℕ} (flags : ℕ) → Gives s (addresses flags) (AddressesRight flags)
addresses-gives flags =
    gives-bind (optional-is (bit 0 flags) infra O.infra-zero) λ bssid b.
    gives-bind (optional-is (bit 1 flags) address O.address-zero) λ infra i.
    gives-bind (optional-is (bit 2 flags) address O.address-zero) λ awdl a.
    gives-give _ (record { bssid = b; infra = i; awdl = a })

record UnicastRight (b : Bool) (u : Unicast) : Type 0 where
  options : Is b is_zero_options u.options
  kept : eqb (word_by options_kept u.options.value.0) u.options.value.0 ≡ true
  ext : F.absent_zero is_zero u.ext ≡ true
  only : (not u.ext.present || u.options.present) ≡ true

or-true : (b : Bool) → (b || true) ≡ true
or-true true = refl
or-true false = refl

options-gives : {s : List ℕ} (b second : Bool) → b ≡ true → Gives s (options_and second) (UnicastRight b)
options-gives b second e =
    gives-bind {Q = λ o. eqb (word_by options_kept o.0) o.0 ≡ true}
    (gives-bind (gives-any (number 4)) λ word _. gives-give _ (eq-eqb (word_by options_kept (word_by options_kept word)) (word_by options_kept word) (word-twice options_kept word))) λ options o.
    gives-bind (optional-is second (number 4) O.number-zero) λ ext x.
    gives-give _ (record {
      options = (e, refl);
      kept = o;
      ext = x.1;
      only = or-true (not ext.present);
    })

unicast-gives : {s : List ℕ} (b : Bool) → Gives s (when b no_unicast unicast) (UnicastRight b)
unicast-gives b =
    gives-when b no_unicast
    (λ e. gives-bind (gives-any (number 2)) λ length _.
    gives-cond (eqb length 4) (options-gives b false e) (gives-cond (eqb length 8) (options-gives b true e) (gives-refuse UnicastLength)))
    (λ e. record { options = (e, refl); kept = refl; ext = refl; only = refl })

record ExtendedRight (b : Bool) (x : Extended) : Type 0 where
  flags : Is b is_zero_extended x.flags
  kept : eqb (word_by extended_kept x.flags.value.0) x.flags.value.0 ≡ true
  trigger : Is (bit 0 x.flags.value.0) is_zero x.trigger
  rlfc : Is (bit 2 x.flags.value.0) is_zero x.rlfc
  stats : Is (bit 5 x.flags.value.0) is_zero_stats x.stats
  trigger-only : (not x.trigger.present || x.flags.present) ≡ true
  rlfc-only : (not x.rlfc.present || x.flags.present) ≡ true
  stats-only : (not x.stats.present || x.flags.present) ≡ true

extended-of-gives : {s : List ℕ} (b : Bool) (flags : DataPathExtendedFlags) → b ≡ true → eqb (word_by extended_kept flags.0) flags.0 ≡ true
    → Gives s (extended_of flags) (ExtendedRight b)
extended-of-gives b flags e kept =
    gives-bind (optional-is (bit 0 flags.0) (number 2) O.number-zero) λ trigger t.
    gives-bind (optional-is (bit 2 flags.0) (number 4) O.number-zero) λ rlfc f.
    gives-bind (optional-is (bit 5 flags.0) stats O.stats-zero) λ stats s.
    gives-give _ (record {
      flags = (e, refl);
      kept = kept;
      trigger = t;
      rlfc = f;
      stats = s;
      trigger-only = or-true (not trigger.present);
      rlfc-only = or-true (not rlfc.present);
      stats-only = or-true (not stats.present);
    })

extended-gives : {s : List ℕ} (b : Bool) → Gives s (when b no_extended extended) (ExtendedRight b)
extended-gives b =
    gives-when b no_extended
    (λ e. gives-bind {Q = λ x. eqb (word_by extended_kept x.0) x.0 ≡ true}
    (gives-bind (gives-any (number 2)) λ word _. gives-give _ (eq-eqb (word_by extended_kept (word_by extended_kept word)) (word_by extended_kept word) (word-twice extended_kept word)))
    λ flags kept. extended-of-gives b flags e kept)
    (λ e. record {
      flags = (e, refl);
      kept = refl;
      trigger = (refl, refl);
      rlfc = (refl, refl);
      stats = (refl, refl);
      trigger-only = refl;
      rlfc-only = refl;
      stats-only = refl;
    })

record BodyRight (flags : ℕ) (b : Body) : Type 0 where
  addresses : AddressesRight flags b.addresses
  unicast : UnicastRight (bit 12 flags) b.unicast
  extended : ExtendedRight (bit 15 flags) b.extended

body-gives : {s : List ℕ} (flags : ℕ) → Gives s (body flags) (BodyRight flags)
body-gives flags =
    gives-bind (addresses-gives flags) λ addresses a.
    gives-bind (unicast-gives (bit 12 flags)) λ unicast u.
    gives-bind (extended-gives (bit 15 flags)) λ extended x.
    gives-give _ (record { addresses = a; unicast = u; extended = x })

whole-right : (h : Head) (b : Body) → HeadRight h → BodyRight h.flags b → consistent (record_of h b) ≡ true
unfolding consistent
whole-right h b p q =
    let a = q.addresses in
    let u = q.unicast in
    let x = q.extended in
    let matches = joined _ (_ ∷ _ ∷ _ ∷ _ ∷ _ ∷ _ ∷ []) (
      same-as _ _ a.bssid.0,
      (
        same-as _ _ a.infra.0,
        (
          same-as _ _ a.awdl.0,
          (
            same-as _ _ p.country.0,
            (same-as _ _ p.channel.0, (same-as _ _ u.options.0, (same-as _ _ x.flags.0, tt))),
          ),
        ),
      ),
    ) in
    let extended = joined _ (_ ∷ _ ∷ []) (same-as _ _ x.trigger.0, (same-as _ _ x.rlfc.0, (same-as _ _ x.stats.0, tt))) in
    let only = joined _ (_ ∷ _ ∷ _ ∷ []) (u.only, (x.trigger-only, (x.rlfc-only, (x.stats-only, tt)))) in
    let words = joined _ (_ ∷ []) (x.kept, (u.kept, tt)) in
    let absent = joined _ (_ ∷ _ ∷ _ ∷ _ ∷ _ ∷ _ ∷ _ ∷ _ ∷ _ ∷ _ ∷ []) (
      p.country.1,
      (p.channel.1, (a.bssid.1, (a.infra.1, (a.awdl.1, (u.options.1, (u.ext, (x.flags.1, (x.rlfc.1, (x.trigger.1, (x.stats.1, tt)))))))))),
    ) in
    joined _ (_ ∷ _ ∷ _ ∷ _ ∷ _ ∷ []) (matches, (extended, (only, (p.right, (words, (absent, tt))))))

data-path-gives : {s : List ℕ} → Gives s data_path (λ r. consistent r ≡ true)
data-path-gives =
    gives-bind head-gives λ h p.
    gives-bind (body-gives h.flags) λ b q.
    gives-give _ (whole-right h b p q)

pub read-consistent : (s : List ℕ) (at : ℕ) {next : ℕ} {r : DataPathStateTLV} → data_path s at ≡ read r next → consistent r ≡ true
read-consistent s at e = (data-path-gives {s = s}).of {at = at} e
