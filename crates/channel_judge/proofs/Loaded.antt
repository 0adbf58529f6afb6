-- The loads of what is lent, and each of the refusals in front of them: one test after the other settles the answer.
-- Assumes nothing.
use Prim.Native.Nat.{ℕ, zero, suc, ◌*◌, ◌/◌, ◌%◌, ◌≤◌, ◌<◌}
use mathlib.Core.Path.{◌≡◌, refl, sym, ap, ◌∙◌}
use mathlib.Core.Bool.{false, ◌&&◌, and-false}
use mathlib.Core.List.{List}
use mathlib.Core.Logic.{◌⊎◌, inl, inr}
use lib.Dec.{leb}
use lib.ListN.{length, get_or, replicate}
use borrow.Author.Tests.{eq-eqb, ne_eqb, le-leb, lt-leb}
use Rattle.std.specs.Prelude.{Result}
use Rattle.wire.specs.declared.refusal.Refusal.{Refusal}
use Rattle.wire.specs.declared.refusal.Refusal.TheVariants.{Short, TooMany}
use Rattle.wire.specs.Answer.{Answer, answer, refusal, ◌>>=◌}
use Rattle.channel_judge.specs.declared.loads.Loads.{Loads}
use Rattle.channel_judge.specs.Loads.{lent_sequences}
use Rattle.channel_judge.specs.Judging.{loads}
use Rattle.channel_judge.specs.Counters.{said_loads, whole_sequences, counted, lent_loads}
use Rattle.channel_judge.proofs.Counters.{many-sequences}

above : (many channels : ℕ) → (64 < many) ⊎ (16 < channels) → leb many 64 && leb channels 16 ≡ false
above many channels (inl h) = rw (lt-leb many 64 h)
above many channels (inr h) = rw (lt-leb channels 16 h) (and-false (leb many 64))

module _ (s : List ℕ) (channels : ℕ) where
  pub lent_cut : ¬ (length s % 33 ≡ 0) → lent_loads s channels ≡ refusal (Short (33 * (length s / 33)))
  lent_cut cut = rw (ne_eqb (length s % 33) 0 cut)

  module _ (whole : length s % 33 ≡ 0) where
    pub lent-many : (64 < length s / 33) ⊎ (16 < channels) → lent_loads s channels ≡ refusal TooMany
    lent-many many = rw (eq-eqb (length s % 33) 0 whole, many-sequences (length s / 33) s, above (length s / 33) channels many)

    pub lent-few : length s / 33 ≤ 64 → channels ≤ 16 → lent_loads s channels ≡ counted (whole_sequences s)
    lent-few few some =
        rw (eq-eqb (length s % 33) 0 whole, many-sequences (length s / 33) s, le-leb (length s / 33) 64 few, le-leb channels 16 some)

-- what settles the answer of the code
pub ruleset of_loads = (lent-many, lent-few)

-- a call goes on with the loads, or with why there are none
regrouped : {A B C : Type 0} (m : Answer A) (f : A → Answer B) (g : B → Answer C) → ((m >>= f) >>= g) ≡ (m >>= (λ a. f a >>= g))
regrouped (answer a) f g = refl
regrouped (refusal why) f g = refl

pub goes_on : {B : Type 0} (s : List ℕ) (channels : ℕ) (counters : Loads) (g : (ℕ → ℕ) → Answer B) {r x : Result (Unit {0}) Refusal}
    → said_loads r counters ≡ lent_loads s channels → r ≡ x → (said_loads x counters >>= g) ≡ (lent_sequences s >>= (λ sequences. loads sequences channels >>= g))
goes_on s channels counters g e f =
    ap (λ (m : Answer (ℕ → ℕ)). m >>= g) (sym (ap (λ (c : Result (Unit {0}) Refusal). said_loads c counters) f) ∙ e)
    ∙ regrouped (lent_sequences s) (λ sequences. loads sequences channels) g

-- counters that start at 0
pub zeros : (n channel : ℕ) → get_or {A = ℕ} (replicate n 0) channel 0 ≡ 0
zeros zero channel = refl
zeros (suc n) zero = refl
zeros (suc n) (suc channel) = zeros n channel
