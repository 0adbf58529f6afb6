-- A header that was read of bytes, written again, gives the bytes that `rewritten` says, and so a frame with its own tail is that frame: the two readers go side by side, field by field.
-- Assumes nothing.
use Rattle.std.proofs.Common.{◌≡◌, ℕ, ◌<◌, Bool, true, false, eqb, List, ◌++◌, get_or, drop, sym, refl, ap, ◌∙◌, take-append-drop, eqb-true}
use Rattle.wire.specs.declared.refusal.Refusal.{Refusal}
use Rattle.wire.specs.declared.refusal.Refusal.TheVariants.{NotAction, NotVersion}
use Rattle.wire.specs.Reading.{read, field, give}
use Rattle.wire.specs.Answer.{asked, require}
use Rattle.wire.specs.Numbers.{little_bytes, number}
use Rattle.wire.proofs.Lawful.{never, steps, field-read}
use Rattle.wire.proofs.Octets.{Octets, gives-number, gives-pair}
use Rattle.wire.proofs.Gives.{Gives, gives-any, gives-give, gives-bind}
use Rattle.wire.proofs.Again.{Again, again-give, again-step, again-end, number-again, pair-again, again-joined}
use Rattle.action_frame.specs.declared.AWDLActionFrame.{AWDLActionFrame}
use Rattle.action_frame.specs.Frames.{fixed_byte, header, tail_of, header_bytes, bytes_of, InWidth}
use Rattle.action_frame.specs.Rewritten.{rewritten}

-- a test that was passed holds, and takes no byte
record Passed (b : Bool) (at next : ℕ) : Type 0 where
  holds : b ≡ true
  here : at ≡ next

passed : (b : Bool) (why : Refusal) (s : List ℕ) {at next : ℕ} {x : Unit {0}} → asked (require b why) s at ≡ read x next → Passed b at next
passed true why s e = record { holds = refl; here = cc }
passed false why s e = absurd (never e)

-- a byte that had to have a value is that value's byte
fixed-again : {s : List ℕ} → Octets s → (value : ℕ) (why : Refusal) → Again s (fixed_byte value why) (field 1) (λ _. little_bytes 1 value)
fixed-again {s} p value why =
    record {
      of = λ {at} e.
          let w = steps (number 1 s at) (λ byte next. asked (require (eqb byte value) why) s next) e in
          let t = passed (eqb w.first value) why s w.goes in
          let same : w.first ≡ value = eqb-true w.first value t.holds in
          (number-again p 1).of w.begins ∙ rw (same, t.here);
    }

header-again : {s : List ℕ} → Octets s → Again s header rewritten header_bytes
unfolding header_bytes
header-again p =
    again-end (again-joined give 1 11 (fixed-again p 0x08 NotAction) λ _.
    again-joined _ 1 10 (fixed-again p 0x10 NotVersion) λ _.
    again-joined _ 2 8 (pair-again p) λ subtype.
    again-joined _ 4 4 (number-again p 4) λ phy.
    again-step _ (number-again p 4) λ target.
    again-give refl)

pub written-again : (s : List ℕ) → ((i : ℕ) → get_or s i 0 < 256) → (at : ℕ) {next : ℕ} {f : AWDLActionFrame} → header s at ≡ read f next
    → rewritten s at ≡ read (header_bytes f) next
written-again s small at e = (header-again {s = s} (record { small = small })).of {at = at} e

-- a frame that was read, written again with its own tail, is that frame
pub frame-again : (s : List ℕ) → ((i : ℕ) → get_or s i 0 < 256) → {next : ℕ} {f : AWDLActionFrame} → header s 0 ≡ read f next → bytes_of f (tail_of s) ≡ s
frame-again s small e =
    let w = field-read 12 s 0 (written-again s small 0 e) in
    ap (λ (front : List ℕ). front ++ drop 12 s) (sym w.2) ∙ take-append-drop 12 s

-- the numbers that were read of bytes are within their widths
in-width : {s : List ℕ} → Octets s → Gives s header InWidth
in-width {s} p =
    gives-bind (gives-any (fixed_byte 0x08 NotAction)) λ _ _.
    gives-bind (gives-any (fixed_byte 0x10 NotVersion)) λ _ _.
    gives-bind (gives-pair p) λ subtype h.
    gives-bind (gives-number p 4) λ phy i.
    gives-bind (gives-number p 4) λ target j.
    gives-give _ (record { subtype = h.0; reserved = h.1; phy = i; target = j })

pub read-in-width : (s : List ℕ) → ((i : ℕ) → get_or s i 0 < 256) → (at : ℕ) {next : ℕ} {f : AWDLActionFrame} → header s at ≡ read f next → InWidth f
read-in-width s small at e = (in-width {s = s} (record { small = small })).of {at = at} e
