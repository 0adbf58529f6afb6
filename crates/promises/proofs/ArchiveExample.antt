-- Two records laid end to end, byte by byte: a country whose pad is not 0, and a single channel. Each is read from its own place, and who reads on from place 0 is given nothing else.
-- Assumes nothing.
use Prim.Native.Nat.{ℕ}
use mathlib.Core.Path.{◌≡◌, refl}
use mathlib.Core.List.{List, [], ◌∷◌}
use lib.Dec.{lit<}
use Rattle.wire.specs.Answer.{answer}
use Rattle.data_path_fields.specs.Fields.{no_country, no_channel}
use Rattle.data_path_state.specs.declared.data_path_state_tlv.DataPathStateTLV.{DataPathStateTLV}
use Rattle.data_path_state.specs.Consistent.{consistent}
use Rattle.data_path_state.specs.Bytes.{record_bytes}
use Rattle.promises.specs.Formats.{data_paths}
use Rattle.promises.specs.EndToEnd.{AllConsistent, end_to_end, ReadOn, used_up, read_next}
use Rattle.promises.specs.Rows.{holding, country_with, single}
use Rattle.promises.proofs.Archives.{holding-ranges}
use Rattle.promises.proofs.Demand2.{demand2}

abbrev pub two : List DataPathStateTLV
two = holding 0x0100 (country_with 0x44 0x45 0x81) no_channel ∷ holding 0x0200 no_country (single 36) ∷ []

abbrev pub archive : List ℕ
archive = 0x00 ∷ 0x01 ∷ 0x44 ∷ 0x45 ∷ 0x81 ∷ 0x00 ∷ 0x02 ∷ 0x24 ∷ 0x00 ∷ []

pub two-laid : end_to_end data_paths two ≡ answer archive
unfolding consistent record_bytes
two-laid = refl

pub two_back : ReadOn data_paths archive 0 two
two_back = read_next {size = 5} refl (read_next {size = 4} refl (used_up refl))

pub two-consistent : AllConsistent data_paths two
unfolding consistent
two-consistent =
    let first = holding-ranges 0x0100 (country_with 0x44 0x45 0x81) no_channel (lit< tt) (lit< tt) (lit< tt) (lit< tt) (lit< tt) in
    let second = holding-ranges 0x0200 no_country (single 36) (lit< tt) (lit< tt) (lit< tt) (lit< tt) (lit< tt) in
    ((first, refl), ((second, refl), tt))

pub two-back-once : {given : List DataPathStateTLV} → ReadOn data_paths archive 0 given → given ≡ two
two-back-once read-on =
    let w = demand2.data-paths-end-to-end.archived two two-consistent in
    let same : archive ≡ w.bytes = cc (two-laid, w.laid) in
    w.back-once (rw same at read-on)
