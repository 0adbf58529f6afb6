-- What a refusal stands for follows from what the answer says, for every answer; a buffer is touched only where nothing is refused.
-- Assumes nothing.
use Prim.Native.Nat.{ℕ, zero, suc, ◌+◌, ◌-◌, ◌≤◌}
use native.Mathlib.Omega.{arith}
use mathlib.Core.Path.{◌≡◌, refl, sym, ap, ◌∙◌}
use mathlib.Core.Bool.{false, cond}
use mathlib.Core.List.{List}
use mathlib.Core.Logic.{◌↔◌, ◌⊎◌, inl, inr}
use lib.Dec.{eqb}
use Rattle.wire.specs.declared.refusal.Refusal.{Refusal}
use Rattle.wire.specs.declared.refusal.Refusal.TheVariants.{Short, NotAction, NotVersion, UnicastLength, Encoding, NoRoom, Inconsistent, TooLong, ChannelCount, LegacySequence, CorrectedChannel, TooMany, NonePermitted, NotPermitted, SmallerLoad}
use Rattle.wire.specs.Refusals.{number_of, offset_of, carried_channel}
use Rattle.wire.specs.Reading.{Reading, read, refused}
use Rattle.wire.specs.Answer.{Answer, answer, refusal}
use Rattle.wire.specs.Said.{said, told}
use Rattle.wire.specs.Outcomes.{outcome, reply, outcome_of, reply_of}
use Rattle.wire.specs.Writing.{fits, Put, afterwards, Wrote}
use Rattle.wire.proofs.Once.{only_one, once_said, once_told}
use Rattle.channel_sequence.specs.Hops.{hop, zero_channel, said_entry}
use Rattle.channel_sequence.specs.Outcomes.{reply_entry}
use Rattle.channel_sequence.proofs.Once.{once_entry}
use Rattle.channel_judge.specs.Outcomes.{judged_reply, reply_judgement}
use Rattle.promises.specs.Answers.{refused_outcome, refused_reply, refused_judgement, Once, Answering}

-- the numbers that refusals have
abbrev Given : ℕ → Type 0
Given n = ((1 ≤ n) × (n ≤ 8)) ⊎ ((n ≡ 10) ⊎ ((n ≡ 18) ⊎ ((n ≡ 19) ⊎ ((27 ≤ n) × (n ≤ 30)))))

number-range : (why : Refusal) → Given (number_of why)
number-range why = grind arith

first-eight : (n : ℕ) → 1 ≤ n → n ≤ 8 → (why : Refusal) × (number_of why ≡ n)
first-eight zero low high = absurd (omega arith)
first-eight (suc zero) low high = (Short 0, refl)
first-eight (suc (suc zero)) low high = (NotAction, refl)
first-eight (suc (suc (suc zero))) low high = (NotVersion, refl)
first-eight (suc (suc (suc (suc zero)))) low high = (UnicastLength, refl)
first-eight (suc (suc (suc (suc (suc zero))))) low high = (Encoding, refl)
first-eight (suc (suc (suc (suc (suc (suc zero)))))) low high = (NoRoom, refl)
first-eight (suc (suc (suc (suc (suc (suc (suc zero))))))) low high = (Inconsistent, refl)
first-eight (suc (suc (suc (suc (suc (suc (suc (suc zero)))))))) low high = (TooLong, refl)
first-eight (suc (suc (suc (suc (suc (suc (suc (suc (suc n))))))))) low high = absurd (omega arith)

last-four : (n k : ℕ) → n ≡ 27 + k → k ≤ 3 → (why : Refusal) × (number_of why ≡ n)
last-four n zero e few = (TooMany, sym e)
last-four n (suc zero) e few = (NonePermitted, sym e)
last-four n (suc (suc zero)) e few = (NotPermitted, sym e)
last-four n (suc (suc (suc zero))) e few = (SmallerLoad 0, sym e)
last-four n (suc (suc (suc (suc k)))) e few = absurd (omega arith)

number-given : (n : ℕ) → Given n → (why : Refusal) × (number_of why ≡ n)
number-given n (inl (low, high)) = first-eight n low high
number-given n (inr (inl e)) = (ChannelCount, sym e)
number-given n (inr (inr (inl e))) = (LegacySequence, sym e)
number-given n (inr (inr (inr (inl e)))) = (CorrectedChannel, sym e)
number-given n (inr (inr (inr (inr (low, high))))) = last-four n (n - 27) (omega arith) (omega arith)

pub numbers-exactly : (n : ℕ) → ((why : Refusal) × (number_of why ≡ n)) ↔ Given n
numbers-exactly n = (λ has. rw (← has.1) (number-range has.0), number-given n)

-- the refusal that has a number, an offset and a channel
abbrev numbered : ℕ × ℕ × ℕ → Refusal
numbered (n, at, own) =
    cond (eqb n 1) (Short at)
    (cond (eqb n 2) NotAction
    (cond (eqb n 3) NotVersion
    (cond (eqb n 4) UnicastLength
    (cond (eqb n 5) Encoding
    (cond (eqb n 6) NoRoom
    (cond (eqb n 7) Inconsistent
    (cond (eqb n 8) TooLong
    (cond (eqb n 10) ChannelCount
    (cond (eqb n 18) LegacySequence
    (cond (eqb n 19) CorrectedChannel
    (cond (eqb n 27) TooMany
    (cond (eqb n 28) NonePermitted
    (cond (eqb n 29) NotPermitted (SmallerLoad own))))))))))))))

abbrev stands_for : Refusal → ℕ × ℕ × ℕ
stands_for why = (number_of why, offset_of why, carried_channel why)

pub numbers_apart : (why other : Refusal) → number_of why ≡ number_of other → offset_of why ≡ offset_of other → carried_channel why ≡ carried_channel other → why ≡ other
numbers_apart why other e f g = only_one stands_for numbered back (rw (e, f, g)) refl
  where
    back : (w : Refusal) → numbered (stands_for w) ≡ w
    back w = grind arith

no-offset : (why : Refusal) → ¬ (number_of why ≡ 1) → offset_of why ≡ 0
no-offset why other = grind arith

-- a channel goes with 30 alone
pub no-channel : (why : Refusal) → ¬ (number_of why ≡ 30) → carried_channel why ≡ 0
no-channel why other = grind arith

pub reader-offset : {A : Type 0} (nothing : A) (at : ℕ) (r : Reading A) → ¬ ((outcome nothing at r).number ≡ 1) → (outcome nothing at r).offset ≡ 0
reader-offset nothing at (read a next) other = refl
reader-offset nothing at (refused why) other = no-offset why other

pub call-offset : {A : Type 0} (nothing : A) (a : Answer A) → ¬ ((reply nothing a).number ≡ 1) → (reply nothing a).offset ≡ 0
call-offset nothing (answer a) other = refl
call-offset nothing (refusal why) other = no-offset why other

pub reader-answers : {T A : Type 0} (saying : T → Reading A) (nothing : A) (at : ℕ) → Once saying
    → Answering saying refused (λ a. outcome nothing at (saying a)) (refused_outcome nothing)
reader-answers saying nothing at only = record { once = only; refuses = λ a why e. ap (outcome nothing at) e }

pub call-answers : {T A : Type 0} (saying : T → Answer A) (nothing : A) → Once saying
    → Answering saying refusal (λ a. reply nothing (saying a)) (refused_reply nothing)
call-answers saying nothing only = record { once = only; refuses = λ a why e. ap (reply nothing) e }

-- so of the answers of the code
pub said-answers : {A : Type 0} (nothing : A) (at : ℕ) → Answering said refused (outcome_of nothing at) (refused_outcome nothing)
said-answers nothing at = reader-answers said nothing at (λ a b e. once_said e refl)

pub told-answers : {A : Type 0} (nothing : A) → Answering told refusal (reply_of nothing) (refused_reply nothing)
told-answers nothing = call-answers told nothing (λ a b e. once_told e refl)

left : (s : List ℕ) (bytes : Answer (List ℕ)) (why : Refusal) → afterwards s bytes (refusal why) ≡ s
left s (answer bytes) why = refl
left s (refusal other) why = refl

pub refused-buffer : (s : List ℕ) (bytes : Answer (List ℕ)) (said : Answer ℕ) (after : List ℕ) (why : Refusal)
    → Wrote s bytes said after → said ≡ refusal why → after ≡ s
refused-buffer s bytes said after why w e = w.buffer ∙ ap (afterwards s bytes) (sym w.size ∙ e) ∙ left s bytes why

pub short-buffer : (s : List ℕ) (at : ℕ) (bytes : List ℕ) (next : ℕ) (after : List ℕ)
    → Put s at bytes next after → fits s at bytes ≡ false → (next ≡ at) × (after ≡ s)
short-buffer s at bytes next after p e = (p.place ∙ rw e, p.buffer ∙ rw e)

pub entry-answers : Answering said_entry refusal reply_entry (refused_reply (hop zero_channel))
entry-answers = call-answers said_entry (hop zero_channel) (λ a b e. once_entry e refl)

pub judgement-answers : Answering told refusal reply_judgement refused_judgement
judgement-answers = record { once = λ a b e. once_told e refl; refuses = λ a why e. ap judged_reply e }
