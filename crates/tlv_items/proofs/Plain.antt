-- A step in the words of the scope, by the bytes themselves: the reader of an item is short where fewer than 3 bytes are left or the length is above what follows, and nowhere else.
-- Assumes nothing.
use Prim.Native.Nat.{ℕ, ◌+◌, ◌*◌, ◌-◌, ◌≤◌, ◌<◌}
use native.Mathlib.Omega.{arith}
use native.Mathlib.Decide.{dec_le}
use mathlib.Core.Logic.{dite}
use mathlib.Core.Path.{◌≡◌, refl, sym, ap, ◌∙◌}
use mathlib.Core.List.{List}
use lib.ListN.{length, get_or}
use borrow.Author.Tests.{eq-eqb, ne_eqb, le-leb, lt-leb}
use Rattle.wire.specs.Reading.{read}
use Rattle.wire.specs.Numbers.{number}
use Rattle.wire.proofs.Bytes.{number-whole, number_short}
use Rattle.tlv_items.specs.declared.item.Step.{Step}
use Rattle.tlv_items.specs.Items.{step_at}

-- the length that stands behind a type, low byte first
abbrev pub length_at : List ℕ → ℕ → ℕ
length_at s at = get_or s (at + 1) 0 + 256 * get_or s (at + 1 + 1) 0

pub used-up : (s : List ℕ) → step_at s (length s) ≡ Step.Whole
unfolding step_at
used-up s = rw (eq-eqb (length s) (length s) refl)

pub few-left : (s : List ℕ) (at : ℕ) → (at ≡ length s → ⊥) → length s - at < 3 → step_at s at ≡ Step.Cut at
unfolding step_at
few-left s at more h =
    rw (ne_eqb at (length s) more)
    (dite (dec_le 1 (length s - at))
    (λ one. rw (← number-whole 0 s at (get_or s at 0) one (omega arith), ← number_short 1 s (at + 1) (omega arith)))
    (λ none. rw (← number_short 0 s at (omega arith))))

-- a cut is answered at the place of the item, however that place is computed
pub cut-there : {found : Step} {at place : ℕ} → found ≡ Step.Cut at → place ≡ at → Step.Cut place ≡ found
cut-there cut same = ap Step.Cut same ∙ sym cut

module _ (s : List ℕ) (at : ℕ) (three : 3 ≤ length s - at) where
  type-read : number 1 s at ≡ read (get_or s at 0) (at + 1)
  type-read = sym (number-whole 0 s at (get_or s at 0) (omega arith) (omega arith))

  length-read : number 2 s (at + 1) ≡ read (length_at s at) (at + 1 + 2)
  length-read = sym (number-whole 1 s (at + 1) (length_at s at) (omega arith) (omega arith))

  pub length_above : length s - (at + 3) < length_at s at → step_at s at ≡ Step.Cut at
  unfolding step_at
  length_above h =
      let past : length s < at + 1 + 2 + length_at s at = omega arith in
      rw (ne_eqb at (length s) (omega arith), type-read, length-read, lt-leb (at + 1 + 2 + length_at s at) (length s) past)

  pub item-here : length_at s at ≤ length s - (at + 3) →
      step_at s at ≡ Step.Item (record { at = at; tlv_type = get_or s at 0; length = length_at s at }) (at + 3 + length_at s at)
  unfolding step_at
  item-here h =
      let inside : at + 1 + 2 + length_at s at ≤ length s = omega arith in
      rw (ne_eqb at (length s) (omega arith), type-read, length-read, le-leb (at + 1 + 2 + length_at s at) (length s) inside)
      (ap (Step.Item (record { at = at; tlv_type = get_or s at 0; length = length_at s at })) (omega arith))
