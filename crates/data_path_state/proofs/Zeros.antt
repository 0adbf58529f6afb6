-- The library's equality with a zero, which joins its tests from the right, is the test of the definition, which joins them from the left.
-- Assumes nothing.
use Rattle.std.proofs.Common.{rules}
use Rattle.std.proofs.Math.Bool.{and_assoc}
use mathlib.Core.Path.{◌≡◌, refl, ap}
use mathlib.Core.Bool.{Bool, ◌&&◌}
use lib.Dec.{eqb}
use Rattle.wire.specs.declared.value.MACAddress.{MACAddress}
use Rattle.wire.specs.Addresses.{zero_address}
use Rattle.wire.specs.contracts.value.MACAddressPartialEq.TheImpl as Address
use Rattle.data_path_words.specs.declared.misc.DataPathChannel.{DataPathChannel}
use Rattle.data_path_words.specs.declared.misc.DataPathStats.{DataPathStats}
use Rattle.data_path_words.specs.Words.{zero_channel, zero_stats}
use Rattle.data_path_words.specs.contracts.misc.DataPathChannelPartialEq.TheImpl as Channel
use Rattle.data_path_words.specs.contracts.misc.DataPathStatsPartialEq.TheImpl as Stats
use Rattle.data_path_fields.specs.declared.fields.CountryCode.{CountryCode}
use Rattle.data_path_fields.specs.declared.fields.InfraBssidChannel.{InfraBssidChannel}
use Rattle.data_path_fields.specs.contracts.fields.CountryCodePartialEq.TheImpl as Country
use Rattle.data_path_fields.specs.contracts.fields.InfraBssidChannelPartialEq.TheImpl as Infra
use Rattle.data_path_fields.specs.Fields.{zero_country, zero_infra}
use Rattle.data_path_state.specs.Consistent.{is_zero_country, is_zero_channel, is_zero_infra, is_zero_address, is_zero_stats}

pub country-eq : (c : CountryCode) → (Country.ghosts).eq c zero_country ≡ is_zero_country c
country-eq c = simp and_assoc refl

pub channel-eq : (c : DataPathChannel) → (Channel.ghosts).eq c zero_channel ≡ is_zero_channel c
channel-eq c = search rules

pub address-eq : (a : MACAddress) → (Address.ghosts).eq a zero_address ≡ is_zero_address a
address-eq a = simp and_assoc refl

pub infra-eq : (i : InfraBssidChannel) → (Infra.ghosts).eq i zero_infra ≡ is_zero_infra i
infra-eq i = ap (λ (b : Bool). b && eqb i.channel 0) (address-eq i.bssid)

pub stats-eq : (s : DataPathStats) → (Stats.ghosts).eq s zero_stats ≡ is_zero_stats s
stats-eq s = simp and_assoc refl

pub ruleset zeros = (country-eq, channel-eq, infra-eq, address-eq, stats-eq)
