-- Records laid end to end, with nothing between them, as an archive has them.
use Rattle.std.specs.Prelude.{ℕ, ◌+◌, ◌≡◌, ◌↔◌, length, drop}
use mathlib.Core.List.{List, [], ◌∷◌, ◌++◌, IsPrefix}
use Rattle.wire.specs.Reading.{read}
use Rattle.wire.specs.Answer.{Answer, answer, ◌>>=◌}
use Rattle.data_path_state.specs.declared.data_path_state_tlv.DataPathStateTLV.{DataPathStateTLV}
use Rattle.data_path_state.specs.DataPath.{data_path}
use Rattle.data_path_state.specs.Ranges.{Ranges}
use Rattle.data_path_state.specs.Consistent.{ChannelRight}
use Rattle.data_path_state.specs.Bytes as D
use Rattle.data_path_state.specs.Mended.{mended}
use Rattle.promises.specs.Formats.{Format}

abbrev pub AllConsistent : (F : Format) → List F.Record → Type 0
AllConsistent F [] = Unit {0}
AllConsistent F (r ∷ rest) = F.Consistent r × AllConsistent F rest

-- what is written of each record, one behind the other; where one is refused, so is the whole
abbrev pub end_to_end : (F : Format) → List F.Record → Answer (List ℕ)
end_to_end F [] = answer []
end_to_end F (r ∷ rest) = do
  bytes ← F.bytes r
  behind ← end_to_end F rest
  answer (bytes ++ behind)

-- no consistent record's bytes are the beginning of another's
abbrev pub BeginsNoOther : Format → Type 0
BeginsNoOther F =
    (r q : F.Record) (xs ys : List ℕ) → F.Consistent r → F.Consistent q → F.bytes r ≡ answer xs → F.bytes q ≡ answer ys → IsPrefix xs ys → r ≡ q

-- two lists of consistent records, laid end to end, give the same bytes exactly when they are equal
abbrev pub ToldByBytes : Format → Type 0
ToldByBytes F = (rs qs : List F.Record) → AllConsistent F rs → AllConsistent F qs → (end_to_end F rs ≡ end_to_end F qs) ↔ (rs ≡ qs)

-- the records that a caller is given who reads from a place on, and then from the place behind each record that was read, until the bytes are used up
pub data ReadOn (F : Format) (s : List ℕ) : ℕ → List F.Record → Type 0 where
  used_up : {at : ℕ} → at ≡ length s → ReadOn F s at []
  read_next : {at size : ℕ} {r : F.Record} {rest : List F.Record} → F.ReadAs r (drop at s) size → ReadOn F s (at + size) rest
      → ReadOn F s at (r ∷ rest)

-- of some records: laid end to end they are some bytes, and who reads these from place 0 on is given the same records, and nothing else
pub record Archived (F : Format) (rs : List F.Record) : Type 0 where
  pub bytes : List ℕ
  pub laid : end_to_end F rs ≡ answer bytes
  pub back : ReadOn F bytes 0 rs
  pub back-once : {given : List F.Record} → ReadOn F bytes 0 given → given ≡ rs

abbrev pub AllArchived : Format → Type 0
AllArchived F = (rs : List F.Record) → AllConsistent F rs → Archived F rs

-- a format whose consistent records can be laid end to end
pub record EndToEnd (F : Format) : Type 0 where
  pub begins-no-other : BeginsNoOther F
  pub told-by-bytes : ToldByBytes F
  pub archived : AllArchived F

-- enough for that, with the round trip: at the start of some bytes no more than one record is read, with one size, and of no bytes none
pub record OneReading (F : Format) : Type 0 where
  pub alike : {r q : F.Record} {s : List ℕ} {m n : ℕ} → F.ReadAs r s m → F.ReadAs q s n → (r ≡ q) × (m ≡ n)
  pub needs-bytes : {r : F.Record} {n : ℕ} → ¬ F.ReadAs r [] n

-- a format whose records cannot be laid so: one record's bytes, with those of others behind them or none, are the bytes of another record
pub record RunTogether (F : Format) : Type 0 where
  pub first : F.Record
  pub others : List F.Record
  pub another : F.Record
  pub differ : ¬ (first ≡ another)
  pub all-consistent : AllConsistent F (another ∷ first ∷ others)
  pub bytes : List ℕ
  pub behind : List ℕ
  pub first-written : F.bytes first ≡ answer bytes
  pub others-laid : end_to_end F others ≡ answer behind
  pub another-written : F.bytes another ≡ answer (bytes ++ behind)

-- data path records of which only the widths are asked: the bytes are those of a consistent record's fields, and nobody asks whether it is one
abbrev pub unchecked_data_paths : Format
unchecked_data_paths =
    record {
      Record = DataPathStateTLV;
      bytes = λ r. answer (D.record_bytes r);
      size = λ r. answer (length (D.record_bytes r));
      Consistent = Ranges;
      ReadAs = λ r s n. data_path s 0 ≡ read r n;
    }

-- data path records as they are before mending, within their widths and with a right channel: what is written of each is what it is mended to
abbrev pub unmended_data_paths : Format
unmended_data_paths =
    record {
      Record = DataPathStateTLV;
      bytes = λ r. D.bytes_of (mended r);
      size = λ r. D.size_of (mended r);
      Consistent = λ r. Ranges r × ChannelRight r;
      ReadAs = λ r s n. data_path s 0 ≡ read r n;
    }
