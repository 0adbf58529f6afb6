-- The fields of a header stand one behind the other: the reader is put together of them.
-- Assumes nothing.
use Rattle.std.proofs.Common.{◌≡◌, ℕ, eqb, [], ◌∷◌, refl, arith}
use Rattle.wire.specs.declared.refusal.Refusal.{Refusal}
use Rattle.wire.specs.declared.refusal.Refusal.TheVariants.{NotAction, NotVersion}
use Rattle.wire.specs.Refusals.{number_of}
use Rattle.wire.specs.Answer.{require}
use Rattle.wire.specs.Numbers.{pair_of}
use Rattle.wire.proofs.Lawful.{require-lawful}
use Rattle.wire.proofs.Gives.{gives-any}
use Rattle.wire.proofs.Laid.{Laid, laid-asked, laid-bind, laid-give, laid-field-on, laid-number}
use Rattle.action_frame.specs.Frames.{fixed_byte, header}
use Rattle.action_frame.specs.FieldWidths.{field_widths}

fixed-laid : (value : ℕ) (why : Refusal) → ¬ (number_of why ≡ 1) → Laid (fixed_byte value why) (λ _. 1 ∷ [])
fixed-laid value why other = laid-number 1 λ byte. laid-asked (require (eqb byte value) why) (require-lawful (eqb byte value) why other)

pub header-laid : Laid header (λ f. field_widths)
header-laid =
    laid-bind _ (fixed-laid 0x08 NotAction (λ e. omega arith)) (λ s. gives-any (fixed_byte 0x08 NotAction))
    (λ _. laid-bind _ (fixed-laid 0x10 NotVersion (λ e. omega arith)) (λ s. gives-any (fixed_byte 0x10 NotVersion))
    (λ _. laid-field-on 2 pair_of λ _. laid-number 4 λ _. laid-number 4 λ _. laid-give _ refl)
    (λ s _ _. record { of = λ e. refl }))
    (λ s _ _. record { of = λ e. refl })
