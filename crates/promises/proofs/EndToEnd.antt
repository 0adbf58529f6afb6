-- Records laid end to end are read back one by one, since each is read with anything behind it; so the bytes tell which records they are.
-- Assumes nothing.
use Prim.Native.Nat.{ℕ, ◌+◌}
use mathlib.Core.Path.{◌≡◌, refl, ap, ap₂}
use mathlib.Core.List.{List, [], ◌∷◌, ◌++◌, append_assoc, append-nil}
use lib.ListN.{length, drop, length-append}
use lib.Seq.{drop-append_seam, drop-length}
use Rattle.wire.specs.Answer.{answer}
use Rattle.promises.specs.Formats.{Format, RoundTrip}
use Rattle.promises.specs.EndToEnd.{AllConsistent, end_to_end, BeginsNoOther, ToldByBytes, ReadOn, used_up, read_next, AllArchived, EndToEnd, OneReading, RunTogether}

module _ (F : Format) (round : RoundTrip F) (reading : OneReading F) where
  no_other : BeginsNoOther F
  no_other r q xs ys r-ok q-ok r-written q-written begins =
      let first = round r r-ok in
      let second = round q q-ok in
      let r-bytes : first.bytes ≡ xs = cc first.written in
      let q-bytes : second.bytes ≡ ys = cc second.written in
      let r-read : F.ReadAs r ys (length xs) = rw (← begins.1, ← r-bytes) (first.found begins.0) in
      let q-read : F.ReadAs q ys (length ys) = rw (append-nil, q-bytes) at (second.found []) in
      (reading.alike r-read q-read).0

  -- what a list is laid down as; whatever stands before it, it is read from its place on
  record LaidDown (rs : List F.Record) : Type 0 where
    bytes : List ℕ
    laid : end_to_end F rs ≡ answer bytes
    read-on : (before : List ℕ) → ReadOn F (before ++ bytes) (length before) rs

  laid-down : (rs : List F.Record) → AllConsistent F rs → LaidDown rs
  laid-down [] ok = record { bytes = []; laid = refl; read-on = λ before. used_up {at = length before} (rw append-nil) }
  laid-down (r ∷ rest) ok =
      let first = round r ok.0 in
      let more = laid-down rest ok.1 in
      record {
        bytes = first.bytes ++ more.bytes;
        laid = rw (first.written, more.laid);
        read-on = λ before.
            let s : List ℕ = before ++ (first.bytes ++ more.bytes) in
            let here : F.ReadAs r (drop (length before) s) (length first.bytes) = rw drop-append_seam (first.found more.bytes) in
            let there : ReadOn F s (length before + length first.bytes) rest =
            rw (← append_assoc before first.bytes more.bytes, ← length-append before first.bytes) (more.read-on (before ++ first.bytes)) in
            read_next here there;
      }

  read-once : (s : List ℕ) {at : ℕ} {rs qs : List F.Record} → ReadOn F s at rs → ReadOn F s at qs → rs ≡ qs
  read-once s (used_up e) (used_up f) = refl
  read-once s (used_up e) (read_next h more) = absurd (reading.needs-bytes (rw (e, drop-length s) at h))
  read-once s (read_next h more) (used_up e) = absurd (reading.needs-bytes (rw (e, drop-length s) at h))
  read-once s (read_next h more) (read_next k others) =
      let same = reading.alike h k in
      ap₂ (λ (x : F.Record) (xs : List F.Record). x ∷ xs) same.0 (read-once s more (rw (← same.1) at others))

  same-records : (rs qs : List F.Record) → AllConsistent F rs → AllConsistent F qs → end_to_end F rs ≡ end_to_end F qs → rs ≡ qs
  same-records rs qs rs-ok qs-ok e =
      let one = laid-down rs rs-ok in
      let other = laid-down qs qs-ok in
      let same : other.bytes ≡ one.bytes = cc (one.laid, other.laid) in
      read-once one.bytes (one.read-on []) (rw same at (other.read-on []))

  pub end-to-end : EndToEnd F
  end-to-end =
      record {
        begins-no-other = no_other;
        told-by-bytes = λ rs qs rs-ok qs-ok. (same-records rs qs rs-ok qs-ok, λ e. ap (end_to_end F) e);
        archived = λ rs ok.
            let w = laid-down rs ok in
            record { bytes = w.bytes; laid = w.laid; back = w.read-on []; back-once = λ given. read-once w.bytes given (w.read-on []) };
      }

-- a record's bytes begin another's, and a list gives the bytes of that other one alone, so that both would be read back of them
pub run-together : (F : Format) → RunTogether F → (¬ BeginsNoOther F) × (¬ ToldByBytes F) × (¬ AllArchived F)
run-together F t =
    let ok = t.all-consistent in
    let all : end_to_end F (t.first ∷ t.others) ≡ end_to_end F (t.another ∷ []) = rw (t.first-written, t.others-laid, t.another-written, append-nil) in (
      λ (claim : BeginsNoOther F).
          t.differ (claim t.first t.another t.bytes (t.bytes ++ t.behind) ok.1.0 ok.0 t.first-written t.another-written (t.behind, refl)),
      λ (claim : ToldByBytes F). let same = (claim (t.first ∷ t.others) (t.another ∷ []) ok.1 (ok.0, tt)).0 all in t.differ (cc),
      λ (claim : AllArchived F).
          let list = claim (t.first ∷ t.others) ok.1 in
          let alone = claim (t.another ∷ []) (ok.0, tt) in
          let bytes : alone.bytes ≡ list.bytes = cc (all, list.laid, alone.laid) in
          let same = list.back-once (rw bytes at alone.back) in
          t.differ (cc),
    )
