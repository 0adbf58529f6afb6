-- Addresses: six bytes in the order of the wire.
use Rattle.std.specs.Prelude.{ℕ, List, [], ◌∷◌, get_or}
use Rattle.wire.specs.declared.value.MACAddress.{MACAddress}
use Rattle.wire.specs.Reading.{Reader, field, give, ◌>>=◌}

abbrev pub address_of : List ℕ → MACAddress
address_of b =
    record { 0 = get_or b 0 0; 1 = get_or b 1 0; 2 = get_or b 2 0; 3 = get_or b 3 0; 4 = get_or b 4 0; 5 = get_or b 5 0 }

abbrev pub address_bytes : MACAddress → List ℕ
address_bytes a = a.0 ∷ a.1 ∷ a.2 ∷ a.3 ∷ a.4 ∷ a.5 ∷ []

abbrev pub zero_address : MACAddress
zero_address = record { 0 = 0; 1 = 0; 2 = 0; 3 = 0; 4 = 0; 5 = 0 }

abbrev pub address : Reader MACAddress
address = do
  bytes ← field 6
  give (address_of bytes)
