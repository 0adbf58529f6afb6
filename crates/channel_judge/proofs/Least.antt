-- The first channel that none is below is found by going through the list with the best one so far: of two neighbours the one that is not smaller decides nothing.
-- Assumes nothing.
use Prim.Native.Nat.{ℕ, suc, ◌+◌, ◌-◌, ◌≤◌, ◌<◌}
use native.Mathlib.Nat.{le_refl}
use native.Mathlib.Numerals.{add-one}
use native.Mathlib.Omega.{arith}
use mathlib.Core.Path.{◌≡◌, refl, sym, ap, ◌∙◌, fun_ext}
use mathlib.Core.Bool.{Bool, true, false, cond, ◌&&◌, ◌||◌, and-true, and-eq-true_iff, false≢true}
use mathlib.Core.List.{List, [], ◌∷◌}
use lib.Dec.{eqb, leb, ltb}
use lib.ListN.{length, get_or, take, drop}
use lib.Seq.{take-length, drop-cons}
use borrow.Author.Tests.{leb-true, le-leb, lt-leb, ltb-true, ltb-false}
use Rattle.std.specs.List.{list_any}
use Rattle.wire.specs.Answer.{answer}
use Rattle.channel_judge.specs.Judging.{is_permitted, none_below, first, own, proposed_by}

-- the library's test of a list
pub permitted-any : (channel : ℕ) (s : List ℕ) → list_any (λ c. eqb c channel) s ≡ is_permitted channel s
permitted-any channel [] = refl
permitted-any channel (c ∷ rest) = ap (λ (found : Bool). eqb c channel || found) (permitted-any channel rest)

pub and-swapped : (a b r : Bool) → a && (b && r) ≡ b && (a && r)
and-swapped true b r = refl
and-swapped false true r = refl
and-swapped false false r = refl

same_first : (f g : ℕ → Bool) → ((c : ℕ) → f c ≡ g c) → (l : List ℕ) → first f l ≡ first g l
same_first f g each l = ap (λ (t : ℕ → Bool). first t l) (fun_ext each)

module _ (load_of : ℕ → ℕ) where
  -- the best so far, held against the channels that are ahead
  abbrev pub smaller : ℕ → ℕ → ℕ
  smaller best c = cond (ltb (load_of c) (load_of best)) c best

  abbrev pub least_from : ℕ → List ℕ → ℕ
  least_from best [] = best
  least_from best (c ∷ rest) = least_from (smaller best c) rest

  -- of two neighbours in front, the one that is not smaller decides nothing
  kept : (b x : ℕ) (rest : List ℕ) → load_of b ≤ load_of x → (c : ℕ) → none_below load_of (b ∷ x ∷ rest) c ≡ none_below load_of (b ∷ rest) c
  kept b x rest least c = go (leb (load_of c) (load_of b)) refl
    where
      go : (t : Bool) → leb (load_of c) (load_of b) ≡ t → none_below load_of (b ∷ x ∷ rest) c ≡ none_below load_of (b ∷ rest) c
      go true e = let low = leb-true (load_of c) (load_of b) e in rw (e, le-leb (load_of c) (load_of x) (omega arith))
      go false e = rw e

  passed : (b x : ℕ) (rest : List ℕ) → load_of x < load_of b → (c : ℕ) → none_below load_of (b ∷ x ∷ rest) c ≡ none_below load_of (x ∷ rest) c
  passed b x rest less c =
      and-swapped (leb (load_of c) (load_of b)) (leb (load_of c) (load_of x)) (none_below load_of rest c) ∙ kept x b rest (omega arith) c

  of_two : (b x : ℕ) (rest : List ℕ) (c : ℕ) → none_below load_of (b ∷ x ∷ rest) c ≡ none_below load_of (smaller b x ∷ rest) c
  of_two b x rest c = go (ltb (load_of x) (load_of b)) refl
    where
      go : (t : Bool) → ltb (load_of x) (load_of b) ≡ t → none_below load_of (b ∷ x ∷ rest) c ≡ none_below load_of (smaller b x ∷ rest) c
      go true e = rw e (passed b x rest (ltb-true (load_of x) (load_of b) e) c)
      go false e = rw e (kept b x rest (ltb-false (load_of x) (load_of b) e) c)

  -- where none is below a channel, none is below one that is not above it
  lower : (ps : List ℕ) (b x : ℕ) → load_of b ≤ load_of x → none_below load_of ps x ≡ true → none_below load_of ps b ≡ true
  lower [] b x least all = refl
  lower (p ∷ ps) b x least all =
      let both = (and-eq-true_iff (leb (load_of x) (load_of p)) (none_below load_of ps x)).0 all in
      let low = leb-true (load_of x) (load_of p) both.0 in
      rw (le-leb (load_of b) (load_of p) (omega arith), lower ps b x least both.1)

  own-of-two : (b x : ℕ) (rest : List ℕ) → own load_of (b ∷ x ∷ rest) ≡ own load_of (smaller b x ∷ rest)
  own-of-two b x rest = go (ltb (load_of x) (load_of b)) refl
    where
      behind : load_of x < load_of b → own load_of (b ∷ x ∷ rest) ≡ own load_of (x ∷ rest)
      behind less =
          let test = passed b x rest less in
          let not_first : none_below load_of (b ∷ x ∷ rest) b ≡ false = test b ∙ rw (lt-leb (load_of b) (load_of x) less) in
          rw not_first (same_first (none_below load_of (b ∷ x ∷ rest)) (none_below load_of (x ∷ rest)) test (x ∷ rest))

      skipped : load_of b ≤ load_of x → (front other : Bool) → none_below load_of (b ∷ rest) b ≡ front → none_below load_of (b ∷ rest) x ≡ other
          → first (none_below load_of (b ∷ rest)) (b ∷ x ∷ rest) ≡ own load_of (b ∷ rest)
      skipped least true other e f = rw e
      skipped least false true e f = absurd (false≢true (sym e ∙ lower (b ∷ rest) b x least f))
      skipped least false false e f = rw (e, f)

      go : (t : Bool) → ltb (load_of x) (load_of b) ≡ t → own load_of (b ∷ x ∷ rest) ≡ own load_of (smaller b x ∷ rest)
      go true e =
          let moves : smaller b x ≡ x = rw e in
          behind (ltb-true (load_of x) (load_of b) e) ∙ ap (λ (n : ℕ). own load_of (n ∷ rest)) (sym moves)
      go false e =
          let least = ltb-false (load_of x) (load_of b) e in
          let same = same_first (none_below load_of (b ∷ x ∷ rest)) (none_below load_of (b ∷ rest)) (kept b x rest least) (b ∷ x ∷ rest) in
          let stays : smaller b x ≡ b = rw e in
          same ∙ skipped least (none_below load_of (b ∷ rest) b) (none_below load_of (b ∷ rest) x) refl refl ∙ ap (λ (n : ℕ). own load_of (n ∷ rest)) (sym stays)

  pub own-least : (b : ℕ) (rest : List ℕ) → own load_of (b ∷ rest) ≡ least_from b rest
  own-least b [] = rw (le-leb (load_of b) (load_of b) (le_refl (load_of b)))
  own-least b (x ∷ rest) = own-of-two b x rest ∙ own-least (smaller b x) rest

  -- no permitted channel is below a channel where the least is not
  least-decides : (b : ℕ) (rest : List ℕ) (c : ℕ) → none_below load_of (b ∷ rest) c ≡ leb (load_of c) (load_of (least_from b rest))
  least-decides b [] c = and-true (leb (load_of c) (load_of b))
  least-decides b (x ∷ rest) c = of_two b x rest c ∙ least-decides (smaller b x) rest c

  -- a step through the list
  pub least_step : (s : List ℕ) (best i : ℕ) → i < length s → least_from best (drop i s) ≡ least_from (smaller best (get_or s i 0)) (drop (i + 1) s)
  least_step s best i h = rw (drop-cons s i 0 h, add-one i)

  -- of a list that is not empty
  pub own_of : (s : List ℕ) → 0 < length s → own load_of s ≡ least_from (get_or s 0 0) (drop 1 s)
  own_of [] some = absurd (omega arith)
  own_of (b ∷ rest) some = own-least b rest

  pub decided-by-own : (s : List ℕ) → 0 < length s → (c : ℕ) → none_below load_of s c ≡ leb (load_of c) (load_of (own load_of s))
  decided-by-own [] some c = absurd (omega arith)
  decided-by-own (b ∷ rest) some c = least-decides b rest c ∙ rw (own-least b rest)

  -- so our own, once it is found, settles whether another is accepted
  pub own_below : (s : List ℕ) → 0 < length s → (c o : ℕ) → o ≡ own load_of s → load_of o < load_of c → none_below load_of s c ≡ false
  own_below s some c o e less = decided-by-own s some c ∙ rw (← e) (lt-leb (load_of c) (load_of o) less)

  pub own-not-below : (s : List ℕ) → 0 < length s → (c o : ℕ) → o ≡ own load_of s → load_of c ≤ load_of o → none_below load_of s c ≡ true
  own-not-below s some c o e least = decided-by-own s some c ∙ rw (← e) (le-leb (load_of c) (load_of o) least)

  -- the list's first channel, and those behind it
  pub proposed-least : (s : List ℕ) → 1 ≤ length s → proposed_by load_of s ≡ answer (least_from (get_or s 0 0) (take (length s - 1) (drop 1 s)))
  proposed-least [] some = absurd (omega arith)
  proposed-least (b ∷ rest) some =
      let many : suc (length rest) - 1 ≡ length rest = omega arith in
      rw (le-leb 1 (suc (length rest)) (omega arith), many, take-length rest) (ap answer (own-least b rest))

  -- what was proposed is our own, of a list that is not empty
  pub proposed-own : (s : List ℕ) {o : ℕ} → answer o ≡ proposed_by load_of s → (0 < length s) × (o ≡ own load_of s)
  proposed-own [] e = absurd (cc)
  proposed-own (b ∷ rest) {o} e = let e' = rw (le-leb 1 (suc (length rest)) (omega arith)) at e in (omega arith, cc)
