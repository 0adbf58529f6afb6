-- How the numbers of a data path record are laid down, field by field, while it is read. All of them are 0 before, and a field that is not
-- there leaves them so. No call's statement cites this file, and it need not be believed: it is for the steps inside, and that it comes to
-- the record's reader and then its numbers is a law (`lays-data-path`).
use Rattle.std.specs.Prelude.{ℕ, ◌+◌, ◌<◌, ◌≡◌, Bool, true, false, cond, List, eqb, set, get_or, take, drop, replicate}
use Rattle.wire.specs.declared.refusal.Refusal.TheVariants.{UnicastLength}
use Rattle.wire.specs.declared.value.MACAddress.{MACAddress}
use Rattle.wire.specs.Reading.{Reader, give, refuse, when, ◌>>=◌}
use Rattle.wire.specs.Numbers.{number, bit}
use Rattle.wire.specs.Addresses.{address}
use Rattle.data_path_words.specs.declared.misc.DataPathChannel.{DataPathChannel}
use Rattle.data_path_words.specs.declared.misc.UnicastOptions.{UnicastOptions}
use Rattle.data_path_words.specs.declared.misc.DataPathStats.{DataPathStats}
use Rattle.data_path_words.specs.declared.flags.DataPathExtendedFlags.{DataPathExtendedFlags}
use Rattle.data_path_words.specs.Words.{word_of, channel_word, options_word, extended_word, stats}
use Rattle.data_path_fields.specs.declared.fields.CountryCode.{CountryCode}
use Rattle.data_path_fields.specs.declared.fields.InfraBssidChannel.{InfraBssidChannel}
use Rattle.data_path_fields.specs.Fields.{country, infra}
use Rattle.exports.specs.Held.{octets, fits}
use Rattle.exports.specs.DataPaths.{kind_of, channel_fits}

-- what is read is laid down
abbrev pub laid : {A : Type 0} → (A → List ℕ → List ℕ) → Reader A → List ℕ → Reader (List ℕ)
laid into r ns = r >>= λ a. give (into a ns)

-- each value from a place on
abbrev pub number_into : ℕ → ℕ → List ℕ → List ℕ
number_into i v ns = set ns i v

abbrev pub address_into : ℕ → MACAddress → List ℕ → List ℕ
address_into i a ns = set (set (set (set (set (set ns i a.0) (i + 1) a.1) (i + 2) a.2) (i + 3) a.3) (i + 4) a.4) (i + 5) a.5

abbrev pub country_into : ℕ → CountryCode → List ℕ → List ℕ
country_into i c ns = set (set (set ns i c.first) (i + 1) c.second) (i + 2) c.pad

abbrev pub channel_into : ℕ → DataPathChannel → List ℕ → List ℕ
channel_into i c ns = set (set ns i (kind_of c)) (i + 1) (word_of c)

abbrev pub infra_into : ℕ → InfraBssidChannel → List ℕ → List ℕ
infra_into i b ns = set (address_into i b.bssid ns) (i + 6) b.channel

abbrev pub options_into : ℕ → UnicastOptions → List ℕ → List ℕ
options_into i o ns = set ns i o.0

abbrev pub extended_into : ℕ → DataPathExtendedFlags → List ℕ → List ℕ
extended_into i e ns = set ns i e.0

abbrev pub stats_into : ℕ → DataPathStats → List ℕ → List ℕ
stats_into i s ns = set (set (set ns i s.msec_since_activation) (i + 1) s.aw_seq_counter) (i + 2) s.pay_update_coutner

-- when the numbers from a place on are ones that it holds
abbrev pub FitWord : ℕ → List ℕ → Type 0
FitWord i ns = get_or ns i 0 < 65536

abbrev pub FitOctets : ℕ → ℕ → List ℕ → Type 0
FitOctets n i ns = fits (take n (drop i ns)) (octets n) ≡ true

abbrev pub FitChannel : ℕ → List ℕ → Type 0
FitChannel i ns = FitWord (i + 1) ns × (channel_fits (get_or ns i 0) (get_or ns (i + 1) 0) ≡ true)

abbrev pub FitInfra : ℕ → List ℕ → Type 0
FitInfra i ns = FitOctets 6 i ns × FitWord (i + 6) ns

-- a value behind its presence flag, where it is there
abbrev pub lay_optional : {A : Type 0} → Bool → (ℕ → A → List ℕ → List ℕ) → Reader A → ℕ → List ℕ → Reader (List ℕ)
lay_optional present into r i ns = when present ns (laid (into (i + 1)) r (set ns i 1))

-- the parts of a record: each field that is announced, and then the next one
abbrev pub lay_head : ℕ → List ℕ → Reader (List ℕ)
lay_head flags ns = do
  country ← lay_optional (bit 8 flags) country_into country 1 ns
  lay_optional (bit 9 flags) channel_into channel_word 5 country

abbrev pub lay_addresses : ℕ → List ℕ → Reader (List ℕ)
lay_addresses flags ns = do
  bssid ← lay_optional (bit 0 flags) infra_into infra 8 ns
  infra ← lay_optional (bit 1 flags) address_into address 16 bssid
  lay_optional (bit 2 flags) address_into address 23 infra

abbrev pub lay_options : Bool → List ℕ → Reader (List ℕ)
lay_options second ns = do
  options ← lay_optional true options_into options_word 30 ns
  lay_optional second number_into (number 4) 32 options

abbrev pub lay_unicast : List ℕ → Reader (List ℕ)
lay_unicast ns = do
  length ← number 2
  cond (eqb length 4) (lay_options false ns) (cond (eqb length 8) (lay_options true ns) (refuse UnicastLength))

abbrev pub lay_behind_extended : DataPathExtendedFlags → List ℕ → Reader (List ℕ)
lay_behind_extended flags ns = do
  trigger ← lay_optional (bit 0 flags.0) number_into (number 2) 38 ns
  rlfc ← lay_optional (bit 2 flags.0) number_into (number 4) 36 trigger
  lay_optional (bit 5 flags.0) stats_into stats 40 rlfc

abbrev pub lay_extended : List ℕ → Reader (List ℕ)
lay_extended ns = do
  flags ← extended_word
  lay_behind_extended flags (extended_into 35 flags (set ns 34 1))

abbrev pub lay_behind_flags : ℕ → List ℕ → Reader (List ℕ)
lay_behind_flags flags ns = do
  head ← lay_head flags ns
  addresses ← lay_addresses flags head
  unicast ← when (bit 12 flags) addresses (lay_unicast addresses)
  when (bit 15 flags) unicast (lay_extended unicast)

abbrev pub lay_data_path : Reader (List ℕ)
lay_data_path = do
  flags ← number 2
  lay_behind_flags flags (set (replicate 44 0) 0 flags)
