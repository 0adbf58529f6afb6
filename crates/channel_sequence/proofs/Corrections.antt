-- A conversion goes entry by entry: what has been passed is corrected, and what is left decides. Where nothing wraps, the correction is that of the release build.
-- Assumes nothing.
use Prim.Native.Nat.{ℕ, zero, suc, ◌+◌, ◌-◌, ◌*◌, ◌/◌, ◌≤◌, ◌<◌}
use native.Mathlib.Numerals.{add-one}
use native.Mathlib.Omega.{arith}
use mathlib.Core.Logic.{◌⊎◌, inl, inr}
use mathlib.Core.Path.{◌≡◌, refl, sym, ap, ◌∙◌}
use mathlib.Core.Bool.{Bool, true, false}
use mathlib.Core.List.{List, [], ◌∷◌, ◌++◌, append_assoc, append-nil}
use lib.Dec.{eqb, leb}
use lib.ListN.{length, get_or, take, drop, set, drop_of_length-le}
use lib.Seq.{take-suc-set}
use borrow.Author.Tests.{eqb-true, eqb-false, leb-true, leb-false}
use Rattle.wire.specs.declared.refusal.Refusal.TheVariants.{CorrectedChannel}
use Rattle.wire.specs.Answer.{Answer, answer, refusal, ◌>>=◌}
use Rattle.channel.specs.Channels.{support_channel, corrected_legacy}
use Rattle.channel_sequence.specs.Conversion.{corrected_inside, corrected_all}
use Rattle.channel_sequence.proofs.Entries.{two_at}

-- the channels of the entries that were passed are the first of some bytes, and those of the others are to come
abbrev pub SoFar : List ℕ → ℕ → List ℕ → Type 0
SoFar entries i bytes = corrected_all entries ≡ (corrected_all (drop (2 * i) entries) >>= λ rest. answer (take i bytes ++ rest))

bind-answer : (found : Answer (List ℕ)) → found ≡ (found >>= λ rest. answer rest)
bind-answer (answer rest) = refl
bind-answer (refusal why) = refl

pub none_so_far : (entries bytes : List ℕ) → SoFar entries 0 bytes
none_so_far entries bytes = bind-answer (corrected_all entries)

-- the entry at a place, in front of the others
at_entry : (entries : List ℕ) (i : ℕ) → 2 * i + 1 < length entries
    → corrected_all (drop (2 * i) entries)
    ≡ (corrected_inside (get_or entries (2 * i) 0) (get_or entries (2 * i + 1) 0) >>= λ first. corrected_all (drop (2 * (i + 1)) entries) >>= λ others. answer (first ∷ others))
at_entry entries i h =
    let next : 2 * (i + 1) ≡ 2 * i + 2 = omega arith in
    rw (next, two_at entries (2 * i) h)

module _ (entries : List ℕ) (i : ℕ) (bytes : List ℕ) (h : 2 * i + 1 < length entries) (p : SoFar entries i bytes) where
  pub one_further : {channel : ℕ} → i < length bytes → corrected_inside (get_or entries (2 * i) 0) (get_or entries (2 * i + 1) 0) ≡ answer channel
      → SoFar entries (i + 1) (set bytes i channel)
  one_further {channel} k e =
      let down : take (i + 1) (set bytes i channel) ≡ take i bytes ++ (channel ∷ []) = rw (add-one i) (take-suc-set bytes i channel k) in
      p ∙ rw (at_entry entries i h, e, down) (put (corrected_all (drop (2 * (i + 1)) entries)))
    where
      put : (found : Answer (List ℕ))
          → ((found >>= λ others. answer (channel ∷ others)) >>= λ rest. answer (take i bytes ++ rest)) ≡ (found >>= λ rest. answer ((take i bytes ++ (channel ∷ [])) ++ rest))
      put (answer others) = ap answer (sym (append_assoc (take i bytes) (channel ∷ []) others))
      put (refusal why) = refl

pub all-so-far : (entries bytes : List ℕ) → length entries ≡ 32 → SoFar entries 16 bytes → corrected_all entries ≡ answer (take 16 bytes)
all-so-far entries bytes whole p = p ∙ rw (drop_of_length-le entries {i = 32} (omega arith)) (ap answer (append-nil (take 16 bytes)))

-- what was corrected of a first entry and of the others
record FirstAndOthers (flags channel : ℕ) (rest channels : List ℕ) : Type 0 where
  pub first : ℕ
  pub others : List ℕ
  pub inside : corrected_inside flags channel ≡ answer first
  pub behind : corrected_all rest ≡ answer others
  pub made : first ∷ others ≡ channels

first-and-others : (flags channel : ℕ) (rest : List ℕ) {channels : List ℕ} → corrected_all (flags ∷ channel ∷ rest) ≡ answer channels
    → FirstAndOthers flags channel rest channels
first-and-others flags channel rest {channels} e = go (corrected_inside flags channel) (corrected_all rest) refl refl
  where
    go : (found : Answer ℕ) (left : Answer (List ℕ)) → corrected_inside flags channel ≡ found → corrected_all rest ≡ left → FirstAndOthers flags channel rest channels
    go (answer first) (answer others) f o =
        let e' = rw (f, o) at e in record { first = first; others = others; inside = f; behind = o; made = cc }
    go (answer first) (refusal why) f o = absurd (cc (rw (f, o) at e))
    go (refusal why) left f o = absurd (cc (rw f at e))

-- there is a channel for every two bytes, and it is that of its entry
pub corrected-length : (entries : List ℕ) {channels : List ℕ} → corrected_all entries ≡ answer channels → length channels ≡ length entries / 2
corrected-length [] {channels} e = let none : [] ≡ channels = cc in rw (← none)
corrected-length (flags ∷ []) {channels} e = let none : [] ≡ channels = cc in rw (← none)
corrected-length (flags ∷ channel ∷ rest) e =
    let w = first-and-others flags channel rest e in
    let many = corrected-length rest w.behind in
    rw (← w.made) (omega arith)

pub corrected-at : (entries : List ℕ) {channels : List ℕ} → corrected_all entries ≡ answer channels → (n : ℕ) → 2 * n + 1 < length entries
    → corrected_inside (get_or entries (2 * n) 0) (get_or entries (2 * n + 1) 0) ≡ answer (get_or channels n 0)
corrected-at [] e n h = absurd (omega arith)
corrected-at (flags ∷ []) e n h = absurd (omega arith)
corrected-at (flags ∷ channel ∷ rest) e zero h = let w = first-and-others flags channel rest e in rw (← w.made) w.inside
corrected-at (flags ∷ channel ∷ rest) e (suc n) h =
    let w = first-and-others flags channel rest e in
    let even : 2 * suc n ≡ suc (suc (2 * n)) = omega arith in
    let odd : suc (suc (2 * n)) + 1 ≡ suc (suc (2 * n + 1)) = omega arith in
    rw (← w.made, even, odd) (corrected-at rest w.behind n (omega arith))

-- a channel that is given is the corrected one, since nothing wrapped; and where none is given, something would
pub record Stays (flags channel corrected : ℕ) : Type 0 where
  pub inside : corrected_inside flags channel ≡ answer corrected
  pub same : channel < 256 → corrected_legacy flags channel ≡ corrected
  pub below : support_channel flags ≡ 1 → 2 ≤ channel
  pub above : support_channel flags ≡ 2 → channel ≤ 253

pub record Leaves (flags channel : ℕ) : Type 0 where
  pub refused : corrected_inside flags channel ≡ refusal CorrectedChannel
  pub passes : ((support_channel flags ≡ 1) × (channel < 2)) ⊎ ((support_channel flags ≡ 2) × (253 < channel))

pub stays-or-leaves : (flags channel : ℕ) → ((corrected : ℕ) × Stays flags channel corrected) ⊎ Leaves flags channel
stays-or-leaves flags channel = go (eqb support 1) (eqb support 2) refl refl
  where
    support : ℕ
    support = support_channel flags

    lower : (b : Bool) → leb 2 channel ≡ b → eqb support 1 ≡ true → ((corrected : ℕ) × Stays flags channel corrected) ⊎ Leaves flags channel
    lower true h one =
        let is = eqb-true support 1 one in
        let enough = leb-true 2 channel h in
        inl (channel - 2, record { inside = rw (one, h); same = λ small. rw one (omega arith); below = λ e. enough; above = λ e. absurd (omega arith) })
    lower false h one = inr (record { refused = rw (one, h); passes = inl (eqb-true support 1 one, leb-false 2 channel h) })

    upper : (b : Bool) → leb (channel + 2) 255 ≡ b → eqb support 1 ≡ false → eqb support 2 ≡ true
        → ((corrected : ℕ) × Stays flags channel corrected) ⊎ Leaves flags channel
    upper true h one two =
        let is = eqb-true support 2 two in
        let enough = leb-true (channel + 2) 255 h in
        inl (channel + 2, record { inside = rw (one, two, h); same = λ small. rw (one, two) (omega arith); below = λ e. absurd (omega arith); above = λ e. omega arith })
    upper false h one two =
        let past = leb-false (channel + 2) 255 h in
        inr (record { refused = rw (one, two, h); passes = inr (eqb-true support 2 two, omega arith) })

    go : (b d : Bool) → eqb support 1 ≡ b → eqb support 2 ≡ d → ((corrected : ℕ) × Stays flags channel corrected) ⊎ Leaves flags channel
    go true d one two = lower (leb 2 channel) refl one
    go false true one two = upper (leb (channel + 2) 255) refl one two
    go false false one two =
        inl (
          channel,
          record {
            inside = rw (one, two);
            same = λ small. rw (one, two);
            below = λ e. absurd (eqb-false support 1 one e);
            above = λ e. absurd (eqb-false support 2 two e);
          },
        )

-- where each entry has a channel, so have all
pub all-corrected : (entries : List ℕ)
    → ((n : ℕ) → 2 * n + 1 < length entries → (channel : ℕ) × (corrected_inside (get_or entries (2 * n) 0) (get_or entries (2 * n + 1) 0) ≡ answer channel))
    → (channels : List ℕ) × (corrected_all entries ≡ answer channels)
all-corrected [] each = ([], refl)
all-corrected (flags ∷ []) each = ([], refl)
all-corrected (flags ∷ channel ∷ rest) each =
    let first = each 0 (omega arith) in
    let others = all-corrected rest later in
    (first.0 ∷ others.0, rw (first.1, others.1))
  where
    later : (n : ℕ) → 2 * n + 1 < length rest → (channel : ℕ) × (corrected_inside (get_or rest (2 * n) 0) (get_or rest (2 * n + 1) 0) ≡ answer channel)
    later n h =
        let even : 2 * suc n ≡ suc (suc (2 * n)) = omega arith in
        let odd : suc (suc (2 * n)) + 1 ≡ suc (suc (2 * n + 1)) = omega arith in
        rw (even, odd) at (each (suc n) (omega arith))
