-- To lay the numbers of a data path record down while it is read is to read it and then to take its numbers: after each part they are those of a
-- record that has the parts read so far and no others.
-- Assumes nothing.
use Prim.Native.Nat.{ℕ, ◌+◌}
use mathlib.Core.Path.{◌≡◌, refl}
use mathlib.Core.Bool.{Bool, true, false, cond}
use mathlib.Core.List.{List}
use lib.Dec.{eqb}
use lib.ListN.{set, replicate}
use Rattle.wire.specs.declared.refusal.Refusal.TheVariants.{UnicastLength}
use Rattle.wire.specs.declared.value.MACAddress.{MACAddress}
use Rattle.wire.specs.Reading.{Reader, give, refuse, when, ◌>>=◌}
use Rattle.wire.specs.Numbers.{number, bit}
use Rattle.wire.specs.Addresses.{zero_address, address}
use Rattle.data_path_words.specs.declared.misc.DataPathChannel.{DataPathChannel}
use Rattle.data_path_words.specs.declared.misc.UnicastOptions.{UnicastOptions}
use Rattle.data_path_words.specs.declared.misc.DataPathStats.{DataPathStats}
use Rattle.data_path_words.specs.declared.flags.DataPathExtendedFlags.{DataPathExtendedFlags}
use Rattle.data_path_words.specs.Words.{zero_channel, channel_word, options_word, extended_word, zero_stats, stats}
use Rattle.data_path_fields.specs.declared.fields.CountryCode.{CountryCode}
use Rattle.data_path_fields.specs.declared.fields.InfraBssidChannel.{InfraBssidChannel}
use Rattle.data_path_fields.specs.declared.optional.Optional.{Optional}
use Rattle.data_path_fields.specs.declared.read.Head.{Head}
use Rattle.data_path_fields.specs.declared.read.Addresses.{Addresses}
use Rattle.data_path_fields.specs.declared.read.Unicast.{Unicast}
use Rattle.data_path_fields.specs.declared.read.Extended.{Extended}
use Rattle.data_path_fields.specs.declared.read.Body.{Body}
use Rattle.data_path_fields.specs.Optional.{some, none, optional}
use Rattle.data_path_fields.specs.Fields as F
use Rattle.data_path_state.specs.declared.data_path_state_tlv.DataPathStateTLV.{DataPathStateTLV}
use Rattle.data_path_state.specs.DataPath.{record_of, data_path}
use Rattle.exports.specs.DataPaths.{data_path_numbers}
use Rattle.exports.specs.DataPathReading as L
use Rattle.exports.proofs.Lays.{Lays, lays-made, lays-last, lays-laid, lays-bind, lays-same, lays-when, lays-cond, lays-refuse, lays-grouped, grouped-lays}

-- the numbers of the parts that were read so far
abbrev numbers_of : Head → Addresses → Unicast → Extended → List ℕ
numbers_of h a u e = data_path_numbers (record_of h (record { addresses = a; unicast = u; extended = e }))

abbrev with_unicast : Head → Addresses → Unicast → List ℕ
with_unicast h a u = numbers_of h a u F.no_extended

abbrev with_addresses : Head → Addresses → List ℕ
with_addresses h a = with_unicast h a F.no_unicast

abbrev head_of : ℕ → Optional CountryCode → Optional DataPathChannel → Head
head_of flags c ch = record { flags = flags; country = c; channel = ch }

abbrev addresses_of : Optional InfraBssidChannel → Optional MACAddress → Optional MACAddress → Addresses
addresses_of b i a = record { bssid = b; infra = i; awdl = a }

abbrev no_addresses : Addresses
no_addresses = addresses_of F.no_infra F.no_address F.no_address

abbrev unicast_of : UnicastOptions → Optional ℕ → Unicast
unicast_of options ext = record { options = some options; ext = ext }

abbrev extended_with : DataPathExtendedFlags → Optional ℕ → Optional ℕ → Optional DataPathStats → Extended
extended_with flags t w st = record { flags = some flags; trigger = t; rlfc = w; stats = st }

abbrev body_of : Addresses → Unicast → Extended → Body
body_of a u e = record { addresses = a; unicast = u; extended = e }

abbrev head_behind : ℕ → Reader Head
head_behind flags =
    optional (bit 8 flags) F.zero_country F.country >>= λ c. (optional (bit 9 flags) zero_channel channel_word >>= λ ch. give (head_of flags c ch))

-- what stands behind the head
abbrev lay_body : ℕ → List ℕ → Reader (List ℕ)
lay_body flags ns =
    L.lay_addresses flags ns
    >>= λ addresses. (when (bit 12 flags) addresses (L.lay_unicast addresses) >>= λ unicast. when (bit 15 flags) unicast (L.lay_extended unicast))

module _ (s : List ℕ) where
  -- an optional field, wherever it stands among the numbers
  lays-optional : {A : Type 0} (g : Optional A → List ℕ) (present : Bool) (zero : A) (into : ℕ → A → List ℕ → List ℕ) (r : Reader A) (i : ℕ)
      → ((a : A) → into (i + 1) a (set (g (none zero)) i 1) ≡ g (some a)) → Lays s (L.lay_optional present into r i (g (none zero))) (optional present zero r) g
  lays-optional g present zero into r i e = lays-when present (none zero) (lays-made g (into (i + 1)) (set (g (none zero)) i 1) r some e)

  module _ (h : Head) where
    lays-addresses : Lays s (L.lay_addresses h.flags (with_addresses h no_addresses)) (F.addresses h.flags) (with_addresses h)
    lays-addresses =
        let infra : Bool = bit 1 h.flags in
        let awdl : Bool = bit 2 h.flags in
        let last : List ℕ → Reader (List ℕ) = L.lay_optional awdl L.address_into address 23 in
        let give_all : Optional InfraBssidChannel → Optional MACAddress → Reader Addresses = λ b i. (optional awdl zero_address address >>= λ a. give (addresses_of b i a)) in
        lays-bind (λ ns. (L.lay_optional infra L.address_into address 16 ns >>= last)) (λ b. (optional infra zero_address address >>= give_all b)) (with_addresses h)
        (lays-optional (λ b. with_addresses h (addresses_of b F.no_address F.no_address)) (bit 0 h.flags) F.zero_infra L.infra_into F.infra 8 (λ b. refl))
        (λ b. lays-bind last (give_all b) (with_addresses h)
        (lays-optional (λ i. with_addresses h (addresses_of b i F.no_address)) infra zero_address L.address_into address 16 (λ a. refl))
        (λ i. lays-last (with_addresses h) (addresses_of b i)
        (lays-optional (λ a. with_addresses h (addresses_of b i a)) awdl zero_address L.address_into address 23 (λ a. refl))))

    module _ (a : Addresses) where
      lays-options : (second : Bool) → Lays s (L.lay_options second (with_unicast h a F.no_unicast)) (F.options_and second) (with_unicast h a)
      lays-options second =
          lays-bind (L.lay_optional second L.number_into (number 4) 32) (λ o. (optional second 0 (number 4) >>= λ ext. give (unicast_of o ext))) (with_unicast h a)
          (lays-laid (L.options_into 31) options_word (set (with_unicast h a F.no_unicast) 30 1))
          (λ o. lays-last (with_unicast h a) (unicast_of o)
          (lays-optional (λ ext. with_unicast h a (unicast_of o ext)) second 0 L.number_into (number 4) 32 (λ w. refl)))

      lays-unicast : Lays s (L.lay_unicast (with_unicast h a F.no_unicast)) F.unicast (with_unicast h a)
      lays-unicast =
          lays-same (number 2)
          (λ length. cond (eqb length 4) (L.lay_options false (with_unicast h a F.no_unicast)) (cond (eqb length 8) (L.lay_options true (with_unicast h a F.no_unicast)) (refuse UnicastLength)))
          F.options_of (with_unicast h a)
          (λ length. lays-cond (eqb length 4) (lays-options false) (lays-cond (eqb length 8) (lays-options true) (lays-refuse UnicastLength)))

      module _ (u : Unicast) where
        lays-behind-extended : (flags : DataPathExtendedFlags)
            → Lays s (L.lay_behind_extended flags (L.extended_into 35 flags (set (numbers_of h a u F.no_extended) 34 1))) (F.extended_of flags) (numbers_of h a u)
        lays-behind-extended flags =
            let rlfc : Bool = bit 2 flags.0 in
            let has-stats : Bool = bit 5 flags.0 in
            let last : List ℕ → Reader (List ℕ) = L.lay_optional has-stats L.stats_into stats 40 in
            let give_all : Optional ℕ → Optional ℕ → Reader Extended = λ t w. (optional has-stats zero_stats stats >>= λ st. give (extended_with flags t w st)) in
            lays-bind (λ ns. (L.lay_optional rlfc L.number_into (number 4) 36 ns >>= last)) (λ t. (optional rlfc 0 (number 4) >>= give_all t)) (numbers_of h a u)
            (lays-optional (λ t. numbers_of h a u (extended_with flags t F.no_word F.no_stats)) (bit 0 flags.0) 0 L.number_into (number 2) 38 (λ id. refl))
            (λ t. lays-bind last (give_all t) (numbers_of h a u)
            (lays-optional (λ w. numbers_of h a u (extended_with flags t w F.no_stats)) rlfc 0 L.number_into (number 4) 36 (λ w. refl))
            (λ w. lays-last (numbers_of h a u) (extended_with flags t w)
            (lays-optional (λ st. numbers_of h a u (extended_with flags t w st)) has-stats zero_stats L.stats_into stats 40 (λ st. refl))))

        lays-extended : Lays s (L.lay_extended (numbers_of h a u F.no_extended)) F.extended (numbers_of h a u)
        lays-extended =
            lays-same extended_word (λ flags. L.lay_behind_extended flags (L.extended_into 35 flags (set (numbers_of h a u F.no_extended) 34 1)))
            F.extended_of (numbers_of h a u) lays-behind-extended

    lays-body : Lays s (lay_body h.flags (with_addresses h no_addresses)) (F.body h.flags >>= λ b. give (record_of h b)) data_path_numbers
    lays-body =
        let unicast : Bool = bit 12 h.flags in
        let extended : Bool = bit 15 h.flags in
        let last : List ℕ → Reader (List ℕ) = λ ns. when extended ns (L.lay_extended ns) in
        let made-record : Body → Reader DataPathStateTLV = λ b. give (record_of h b) in
        let give_all : Addresses → Unicast → Reader Body = λ a u. (when extended F.no_extended F.extended >>= λ e. give (body_of a u e)) in
        let behind-addresses : Addresses → Reader Body = λ a. (when unicast F.no_unicast F.unicast >>= give_all a) in
        lays-grouped (F.addresses h.flags) behind-addresses made-record data_path_numbers
        (lays-bind (λ ns. (when unicast ns (L.lay_unicast ns) >>= last)) (λ a. (behind-addresses a >>= made-record)) data_path_numbers lays-addresses
        (λ a. lays-grouped (when unicast F.no_unicast F.unicast) (give_all a) made-record data_path_numbers
        (lays-bind last (λ u. (give_all a u >>= made-record)) data_path_numbers (lays-when unicast F.no_unicast (lays-unicast a))
        (λ u. lays-grouped (when extended F.no_extended F.extended) (λ e. give (body_of a u e)) made-record data_path_numbers
        (lays-last data_path_numbers (λ e. record_of h (body_of a u e)) (lays-when extended F.no_extended (lays-extended a u)))))))

  module _ (flags : ℕ) where
    abbrev bare : Optional CountryCode → Optional DataPathChannel → List ℕ
    bare c ch = with_addresses (head_of flags c ch) no_addresses

    lays-behind-flags : Lays s (L.lay_behind_flags flags (bare F.no_country F.no_channel)) (head_behind flags >>= λ h. (F.body h.flags >>= λ b. give (record_of h b))) data_path_numbers
    lays-behind-flags =
        let channel : Bool = bit 9 flags in
        let rest : Head → Reader DataPathStateTLV = λ h. (F.body h.flags >>= λ b. give (record_of h b)) in
        let head-of : Optional CountryCode → Reader Head = λ c. (optional channel zero_channel channel_word >>= λ ch. give (head_of flags c ch)) in
        let lay-country : Reader (List ℕ) = L.lay_optional (bit 8 flags) L.country_into F.country 1 (bare F.no_country F.no_channel) in
        let lay-channel : List ℕ → Reader (List ℕ) = L.lay_optional channel L.channel_into channel_word 5 in
        grouped-lays lay-country lay-channel (lay_body flags)
        (lays-grouped (optional (bit 8 flags) F.zero_country F.country) head-of rest data_path_numbers
        (lays-bind (λ ns. (lay-channel ns >>= lay_body flags)) (λ c. (head-of c >>= rest)) data_path_numbers
        (lays-optional (λ c. bare c F.no_channel) (bit 8 flags) F.zero_country L.country_into F.country 1 (λ c. refl))
        (λ c. lays-grouped (optional channel zero_channel channel_word) (λ ch. give (head_of flags c ch)) rest data_path_numbers
        (lays-bind (lay_body flags) (λ ch. rest (head_of flags c ch)) data_path_numbers
        (lays-optional (λ ch. bare c ch) channel zero_channel L.channel_into channel_word 5 (λ ch. refl))
        (λ ch. lays-body (head_of flags c ch))))))

  pub lays-data-path : Lays s L.lay_data_path data_path data_path_numbers
  lays-data-path =
      lays-grouped (number 2) head_behind (λ h. (F.body h.flags >>= λ b. give (record_of h b))) data_path_numbers
      (lays-same (number 2) (λ flags. L.lay_behind_flags flags (set (replicate 44 0) 0 flags))
      (λ flags. (head_behind flags >>= λ h. (F.body h.flags >>= λ b. give (record_of h b)))) data_path_numbers lays-behind-flags)
