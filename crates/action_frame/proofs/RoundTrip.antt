-- What was written of a frame is read back as its header and its tail, since each field is.
-- Assumes nothing.
use Rattle.std.proofs.Common.{◌≡◌, ℕ, ◌+◌, ◌<◌, eqb, List, [], ◌++◌, length, take, drop, refl, ap, ◌∙◌, append_assoc, zero-add, lit<, take_at, drop_at, eq-eqb}
use Rattle.wire.specs.declared.refusal.Refusal.{Refusal}
use Rattle.wire.specs.declared.refusal.Refusal.TheVariants.{NotAction, NotVersion}
use Rattle.wire.specs.Reading.{read}
use Rattle.wire.specs.Answer.{answer, require}
use Rattle.wire.specs.Numbers.{little_bytes}
use Rattle.wire.specs.Writing.{Wrote}
use Rattle.wire.proofs.ReadsBack.{Back, bind-back, asked-back, made-back, number-back, pair-back}
use Rattle.action_frame.specs.declared.AWDLActionFrame.{AWDLActionFrame}
use Rattle.action_frame.specs.Frames.{fixed_byte, header, tail_of, header_bytes, bytes_of, InWidth}
use Rattle.wire.proofs.Bytes.{known-room}
use Rattle.action_frame.proofs.Sizes.{length-header, length-bytes}

fixed_back : (value : ℕ) (why : Refusal) → value < 256 → Back (fixed_byte value why) (little_bytes 1 value) tt
fixed_back value why h =
    let right : require (eqb value value) why ≡ answer tt = rw (eq-eqb value value refl) in
    bind-back _ (number-back 1 value h) (asked-back right)

pub header-back : (f : AWDLActionFrame) → InWidth f → Back header (header_bytes f) f
unfolding header_bytes
header-back f w =
    bind-back _ (fixed_back 0x08 NotAction (lit< tt))
    (bind-back _ (fixed_back 0x10 NotVersion (lit< tt))
    (bind-back _ (pair-back f.subtype f.reserved w.subtype w.reserved)
    (bind-back _ (number-back 4 f.phy_tx_time.0 w.phy)
    (made-back _ (number-back 4 f.target_tx_time.0 w.target)))))

-- the bytes of a frame: as many as its header and its tail have, and read back as both, with anything behind
pub record FrameFilled (f : AWDLActionFrame) (tail : List ℕ) : Type 0 where
  pub size : length (bytes_of f tail) ≡ 12 + length tail
  pub head : (behind : List ℕ) → header (bytes_of f tail ++ behind) 0 ≡ read f 12
  pub rest : tail_of (bytes_of f tail) ≡ tail

pub round_trip : (f : AWDLActionFrame) (tail : List ℕ) → InWidth f → FrameFilled f tail
round_trip f tail w =
    record {
      size = length-bytes f tail;
      head = λ behind.
          rw (append_assoc (header_bytes f) tail behind)
          ((header-back f w).back [] (tail ++ behind) ∙ ap (read f) (zero-add (length (header_bytes f)) ∙ length-header f));
      rest = drop_at (header_bytes f) tail 12 (length-header f);
    }

-- a frame that a writer put into a buffer reads back as its header and its tail, and what stood behind its size still stands there
pub written_back : (f : AWDLActionFrame) (tail s : List ℕ) {n : ℕ} {after : List ℕ} → InWidth f
    → Wrote s (answer (bytes_of f tail)) (answer n) after
    → (header after 0 ≡ read f 12) × (tail_of (take n after) ≡ tail) × (drop n after ≡ drop n s)
written_back f tail s {n} {after} w p =
    let filled = round_trip f tail w in
    let bytes = bytes_of f tail in
    let size : length bytes ≡ n = (known-room (length s) (length bytes) p.size).0 in
    let laid : after ≡ bytes ++ drop n s = p.buffer ∙ rw (← p.size) in (
      rw laid (filled.head (drop n s)),
      rw (laid, take_at bytes (drop n s) n size) filled.rest,
      rw laid (drop_at bytes (drop n s) n size),
    )
