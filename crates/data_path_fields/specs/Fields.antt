-- How the fields are read: the flags, and behind them the fields that they announce, in this order.
use Rattle.std.specs.Prelude.{ℕ, Bool, true, false, cond, List, [], ◌∷◌, ◌++◌, eqb, get_or}
use Rattle.wire.specs.declared.refusal.Refusal.TheVariants.{UnicastLength}
use Rattle.wire.specs.declared.value.MACAddress.{MACAddress}
use Rattle.wire.specs.Reading.{Reader, field, give, refuse, when, ◌>>=◌}
use Rattle.wire.specs.Numbers.{number, little_bytes, bit}
use Rattle.wire.specs.Addresses.{zero_address, address, address_bytes}
use Rattle.data_path_words.specs.declared.misc.DataPathChannel.{DataPathChannel}
use Rattle.data_path_words.specs.declared.misc.UnicastOptions.{UnicastOptions}
use Rattle.data_path_words.specs.declared.flags.DataPathExtendedFlags.{DataPathExtendedFlags}
use Rattle.data_path_words.specs.declared.misc.DataPathStats.{DataPathStats}
use Rattle.data_path_words.specs.Words.{zero_channel, channel_word, zero_options, options_word, zero_extended_flags, extended_word, zero_stats, stats}
use Rattle.data_path_fields.specs.declared.fields.CountryCode.{CountryCode}
use Rattle.data_path_fields.specs.declared.fields.InfraBssidChannel.{InfraBssidChannel}
use Rattle.data_path_fields.specs.declared.optional.Optional.{Optional}
use Rattle.data_path_fields.specs.declared.read.Head.{Head}
use Rattle.data_path_fields.specs.declared.read.Addresses.{Addresses}
use Rattle.data_path_fields.specs.declared.read.Unicast.{Unicast}
use Rattle.data_path_fields.specs.declared.read.Extended.{Extended}
use Rattle.data_path_fields.specs.declared.read.Body.{Body}
use Rattle.data_path_fields.specs.Optional.{some, none, optional}

abbrev pub zero_country : CountryCode
zero_country = record { first = 0; second = 0; pad = 0 }

-- two letters and a pad byte, which is kept, are one field
abbrev pub country : Reader CountryCode
country = do
  bytes ← field 3
  give (record { first = get_or bytes 0 0; second = get_or bytes 1 0; pad = get_or bytes 2 0 })

abbrev pub country_bytes : CountryCode → List ℕ
country_bytes c = c.first ∷ c.second ∷ c.pad ∷ []

abbrev pub zero_infra : InfraBssidChannel
zero_infra = record { bssid = zero_address; channel = 0 }

abbrev pub infra : Reader InfraBssidChannel
infra = do
  bssid ← address
  channel ← number 2
  give (record { bssid = bssid; channel = channel })

abbrev pub infra_bytes : InfraBssidChannel → List ℕ
infra_bytes i = address_bytes i.bssid ++ little_bytes 2 i.channel

-- the fields that are missing
abbrev pub no_country : Optional CountryCode
no_country = none zero_country

abbrev pub no_channel : Optional DataPathChannel
no_channel = none zero_channel

abbrev pub no_infra : Optional InfraBssidChannel
no_infra = none zero_infra

abbrev pub no_address : Optional MACAddress
no_address = none zero_address

abbrev pub no_options : Optional UnicastOptions
no_options = none zero_options

abbrev pub no_word : Optional ℕ
no_word = none 0

abbrev pub no_extended_flags : Optional DataPathExtendedFlags
no_extended_flags = none zero_extended_flags

abbrev pub no_trigger_id : Optional ℕ
no_trigger_id = none 0

abbrev pub no_stats : Optional DataPathStats
no_stats = none zero_stats

abbrev pub head : Reader Head
head = do
  flags ← number 2
  country ← optional (bit 8 flags) zero_country country
  channel ← optional (bit 9 flags) zero_channel channel_word
  give (record { flags = flags; country = country; channel = channel })

abbrev pub addresses : ℕ → Reader Addresses
addresses flags = do
  bssid ← optional (bit 0 flags) zero_infra infra
  infra ← optional (bit 1 flags) zero_address address
  awdl ← optional (bit 2 flags) zero_address address
  give (record { bssid = bssid; infra = infra; awdl = awdl })

abbrev pub no_unicast : Unicast
no_unicast = record { options = no_options; ext = no_word }

-- the options, and a second word behind them or none
abbrev pub options_and : Bool → Reader Unicast
options_and second = do
  options ← options_word
  ext ← optional second 0 (number 4)
  give (record { options = some options; ext = ext })

-- the length counts the options alone, or both words
abbrev pub options_of : ℕ → Reader Unicast
options_of length = cond (eqb length 4) (options_and false) (cond (eqb length 8) (options_and true) (refuse UnicastLength))

abbrev pub unicast : Reader Unicast
unicast = do
  length ← number 2
  options_of length

abbrev pub no_extended : Extended
no_extended = record { flags = no_extended_flags; trigger = no_trigger_id; rlfc = no_word; stats = no_stats }

-- the extended word announces the fields behind it, as the flags do
abbrev pub extended_of : DataPathExtendedFlags → Reader Extended
extended_of flags = do
  trigger ← optional (bit 0 flags.0) 0 (number 2)
  rlfc ← optional (bit 2 flags.0) 0 (number 4)
  stats ← optional (bit 5 flags.0) zero_stats stats
  give (record { flags = some flags; trigger = trigger; rlfc = rlfc; stats = stats })

abbrev pub extended : Reader Extended
extended = do
  flags ← extended_word
  extended_of flags

abbrev pub body : ℕ → Reader Body
body flags = do
  addresses ← addresses flags
  unicast ← when (bit 12 flags) no_unicast unicast
  extended ← when (bit 15 flags) no_extended extended
  give (record { addresses = addresses; unicast = unicast; extended = extended })
