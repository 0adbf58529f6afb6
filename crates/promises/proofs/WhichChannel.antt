-- What is promised of the judge follows from its definitions: tests over a list are settled by its places, and loads are sums over the sequences.
-- Assumes nothing.
use Prim.Native.Nat.{ℕ, zero, suc, ◌+◌, ◌*◌, ◌/◌, ◌%◌, ◌≤◌, ◌<◌}
use native.Mathlib.Nat.{le_refl}
use native.Mathlib.Omega.{arith}
use mathlib.Core.Path.{◌≡◌, refl, sym, ap, ◌∙◌, fun_ext}
use mathlib.Core.Bool.{Bool, true, false, ◌&&◌, or-true, and-eq-true_iff, false≢true}
use mathlib.Core.List.{List, [], ◌∷◌, ◌++◌}
use mathlib.Core.Logic.{◌↔◌}
use lib.Dec.{eqb, leb, ltb}
use lib.ListN.{length, get_or, length-append}
use lib.Seq.{take_at, drop_at}
use borrow.Author.Tests.{leb-true, leb-false, le-leb, lt-leb, eqb-true, eq-eqb, ne_eqb}
use Rattle.wire.specs.declared.refusal.Refusal.TheVariants.{Encoding, TooMany, SmallerLoad}
use Rattle.wire.specs.Answer.{Answer, answer, refusal}
use Rattle.channel.specs.declared.channel.ChannelEncoding.{ChannelEncoding}
use Rattle.channel.specs.Channels.{encoding_of}
use Rattle.channel_sequence.specs.declared.channel_sequence.ChannelSequence.{ChannelSequence}
use Rattle.channel_sequence.specs.Hops.{entry_bytes, entry_channel}
use Rattle.channel_judge.specs.Loads.{sequences_from, lent_sequences, corrected_entry, channels_from, channels_of, count, load, is_listed, all_listed}
use Rattle.channel_judge.specs.Judging.{loads, is_permitted, none_below, first, own, judged_by, judged_of, proposed_of, judged, proposed, load_in}
use Rattle.channel_judge.proofs.Least.{and-swapped, smaller, least_from, own-least, decided-by-own}
use Rattle.promises.specs.WhichChannel.{CanJudge, Permitted, NoneSmaller, FirstLeast, Touches, Rearranged, as-they-stand, change-places, laid, AllWhole, none, one, WhichChannel}

-- permitted by the test, and by a place
at_place : (ps : List ℕ) (c i : ℕ) → i < length ps → get_or ps i 0 ≡ c → is_permitted c ps ≡ true
at_place [] c i inside e = absurd (omega arith)
at_place (p ∷ ps) c zero inside e = rw (eq-eqb p c e)
at_place (p ∷ ps) c (suc i) inside e = rw (at_place ps c i (omega arith) e) (or-true (eqb p c))

permitted-test : {ps : List ℕ} {c : ℕ} → Permitted ps c → is_permitted c ps ≡ true
permitted-test {ps} {c} p = at_place ps c p.place p.inside p.stands

behind : {p c : ℕ} {ps : List ℕ} → Permitted ps c → Permitted (p ∷ ps) c
behind w = record { place = suc w.place; inside = omega (arith, w.inside); stands = w.stands }

permitted-place : (ps : List ℕ) (c : ℕ) → is_permitted c ps ≡ true → Permitted ps c
permitted-place [] c e = absurd (false≢true e)
permitted-place (p ∷ ps) c e = go (eqb p c) refl (permitted-place ps c)
  where
    go : (t : Bool) → eqb p c ≡ t → (is_permitted c ps ≡ true → Permitted ps c) → Permitted (p ∷ ps) c
    go true f others = record { place = 0; inside = omega arith; stands = eqb-true p c f }
    go false f others = behind (others (rw f at e))

some-permitted : {ps : List ℕ} {c : ℕ} → Permitted ps c → leb 1 (length ps) ≡ true
some-permitted {ps} w = le-leb 1 (length ps) (omega (arith, w.inside))

-- the first that passes a test, where one does
record FirstPassing (test : ℕ → Bool) (ps : List ℕ) : Type 0 where
  pub where-it-is : Permitted ps (first test ps)
  pub before : (i : ℕ) → i < where-it-is.place → test (get_or ps i 0) ≡ false

find : (test : ℕ → Bool) (ps : List ℕ) (i : ℕ) → i < length ps → test (get_or ps i 0) ≡ true → FirstPassing test ps
find test [] i inside e = absurd (omega arith)
find test (p ∷ ps) i inside e = go (test p) refl i inside e (find test ps)
  where
    go : (t : Bool) → test p ≡ t → (i : ℕ) → i < length (p ∷ ps) → test (get_or (p ∷ ps) i 0) ≡ true
        → ((i : ℕ) → i < length ps → test (get_or ps i 0) ≡ true → FirstPassing test ps) → FirstPassing test (p ∷ ps)
    go true h i inside e others =
        record { where-it-is = record { place = 0; inside = omega arith; stands = rw h }; before = λ j less. absurd (omega arith) }
    go false h zero inside e others = absurd (false≢true (sym h ∙ e))
    go false h (suc i) inside e others =
        let w = others i (omega arith) e in
        record {
          where-it-is = record { place = suc w.where-it-is.place; inside = omega (arith, w.where-it-is.inside); stands = rw h w.where-it-is.stands };
          before = λ j less. front j less;
        }
      where
        front : (j : ℕ) → j < suc (others i (omega arith) e).where-it-is.place → test (get_or (p ∷ ps) j 0) ≡ false
        front zero less = h
        front (suc j) less = (others i (omega arith) e).before j (omega arith)

-- none below by the test, and by the places
module _ (f : ℕ → ℕ) where
  none-below : (ps : List ℕ) (c : ℕ) → ((other : ℕ) → Permitted ps other → f c ≤ f other) → none_below f ps c ≡ true
  none-below [] c all = refl
  none-below (p ∷ ps) c all =
      let here = all p (record { place = 0; inside = omega arith; stands = refl }) in
      rw (le-leb (f c) (f p) here, none-below ps c (λ other w. all other (behind w)))

  below-place : (ps : List ℕ) (c i : ℕ) → none_below f ps c ≡ true → i < length ps → f c ≤ f (get_or ps i 0)
  below-place [] c i e inside = absurd (omega arith)
  below-place (p ∷ ps) c zero e inside = leb-true (f c) (f p) ((and-eq-true_iff (leb (f c) (f p)) (none_below f ps c)).0 e).0
  below-place (p ∷ ps) c (suc i) e inside = below-place ps c i ((and-eq-true_iff (leb (f c) (f p)) (none_below f ps c)).0 e).1 (omega arith)

  none-smaller : {ps : List ℕ} {c : ℕ} → none_below f ps c ≡ true → (other : ℕ) → Permitted ps other → f c ≤ f other
  none-smaller {ps} {c} e other w = rw (← w.stands) (below-place ps c w.place e w.inside)

  -- the least has a place
  least-place : (b : ℕ) (rest : List ℕ) → Permitted (b ∷ rest) (least_from f b rest)
  least-place b [] = record { place = 0; inside = omega arith; stands = refl }
  least-place b (x ∷ rest) = go (ltb (f x) (f b)) refl (least-place (smaller f b x) rest)
    where
      moved : {m : ℕ} (i : ℕ) → i < length (b ∷ rest) → get_or (b ∷ rest) i 0 ≡ m → Permitted (b ∷ x ∷ rest) m
      moved zero inside e = record { place = 0; inside = omega arith; stands = e }
      moved (suc i) inside e = record { place = suc (suc i); inside = omega arith; stands = e }

      go : (t : Bool) → ltb (f x) (f b) ≡ t → Permitted (smaller f b x ∷ rest) (least_from f (smaller f b x) rest) → Permitted (b ∷ x ∷ rest) (least_from f (smaller f b x) rest)
      go true e w = rw e (behind (rw e at w))
      go false e w = let w' = rw e at w in rw e (moved w'.place w'.inside w'.stands)

  -- our own: permitted, none below it, and all in front of it above it
  own-none-below : (ps : List ℕ) → 0 < length ps → none_below f ps (own f ps) ≡ true
  own-none-below ps some = decided-by-own f ps some (own f ps) ∙ le-leb (f (own f ps)) (f (own f ps)) (le_refl (f (own f ps)))

  own-found : (ps : List ℕ) → 0 < length ps → FirstPassing (none_below f ps) ps
  own-found [] some = absurd (omega arith)
  own-found (b ∷ rest) some =
      let w = least-place b rest in
      let least = rw (own-least f b rest) at (own-none-below (b ∷ rest) some) in
      find (none_below f (b ∷ rest)) (b ∷ rest) w.place w.inside (rw w.stands least)

  front_above : (ps : List ℕ) → 0 < length ps → (c : ℕ) → none_below f ps c ≡ false → f (own f ps) < f c
  front_above ps some c e = leb-false (f c) (f (own f ps)) (sym (decided-by-own f ps some c) ∙ e)

  accept-by : (ps : List ℕ) (c : ℕ) → is_permitted c ps ≡ true → none_below f ps c ≡ true → judged_by f ps c ≡ answer tt
  accept-by ps c p n = rw (some-permitted (permitted-place ps c p), p, n)

  record Accepted (ps : List ℕ) (c : ℕ) : Type 0 where
    pub permitted : is_permitted c ps ≡ true
    pub least : none_below f ps c ≡ true

  accepted-by : (ps : List ℕ) (c : ℕ) → judged_by f ps c ≡ answer tt → Accepted ps c
  accepted-by ps c e = go (leb 1 (length ps)) (is_permitted c ps) (none_below f ps c) refl refl refl
    where
      go : (s p n : Bool) → leb 1 (length ps) ≡ s → is_permitted c ps ≡ p → none_below f ps c ≡ n → Accepted ps c
      go true true true g h k = record { permitted = h; least = k }
      go true true false g h k = absurd (cc (rw (g, h, k) at e))
      go true false n g h k = absurd (cc (rw (g, h) at e))
      go false p n g h k = absurd (cc (rw g at e))

-- the loads, where there are any
can-loads : {qs : List ChannelSequence} {ps : List ℕ} → CanJudge qs ps → loads qs (length ps) ≡ answer (load qs)
can-loads {qs} {ps} w = rw (le-leb (length qs) 64 w.sixty-four, le-leb (length ps) 16 w.sixteen, w.listed)

-- where there are none, it is for one of two refusals
data Known (qs : List ChannelSequence) (ps : List ℕ) : Type 0 where
  are-known : CanJudge qs ps → Known qs ps
  too_many : loads qs (length ps) ≡ refusal TooMany → Known qs ps
  not_listed : loads qs (length ps) ≡ refusal Encoding → Known qs ps

known-loads : (qs : List ChannelSequence) (ps : List ℕ) → Known qs ps
known-loads qs ps = go (leb (length qs) 64 && leb (length ps) 16) (all_listed qs) refl refl
  where
    go : (m l : Bool) → leb (length qs) 64 && leb (length ps) 16 ≡ m → all_listed qs ≡ l → Known qs ps
    go true true g h =
        let both = (and-eq-true_iff (leb (length qs) 64) (leb (length ps) 16)).0 g in
        are-known (record { sixty-four = leb-true (length qs) 64 both.0; sixteen = leb-true (length ps) 16 both.1; listed = h })
    go true false g h = not_listed (rw (g, h))
    go false l g h = too_many (rw g)

pub accepted : (qs : List ChannelSequence) (ps : List ℕ) (c : ℕ) → (judged_of qs ps c ≡ answer tt) ↔ (CanJudge qs ps × Permitted ps c × NoneSmaller qs ps c)
accepted qs ps c = (λ e. there e (known-loads qs ps), back)
  where
    there : judged_of qs ps c ≡ answer tt → Known qs ps → CanJudge qs ps × Permitted ps c × NoneSmaller qs ps c
    there e (are-known w) =
        let a = accepted-by (load qs) ps c (rw (can-loads w) at e) in (w, permitted-place ps c a.permitted, none-smaller (load qs) a.least)
    there e (too_many g) = absurd (cc (rw g at e))
    there e (not_listed g) = absurd (cc (rw g at e))

    back : CanJudge qs ps × Permitted ps c × NoneSmaller qs ps c → judged_of qs ps c ≡ answer tt
    back h = rw (can-loads h.0) (accept-by (load qs) ps c (permitted-test h.1) (none-below (load qs) ps c h.2))

-- our own proposal, where there is one
record Proposing (qs : List ChannelSequence) (ps : List ℕ) (c : ℕ) : Type 0 where
  pub can : CanJudge qs ps
  pub some : 0 < length ps
  pub is-own : own (load qs) ps ≡ c

proposing : (qs : List ChannelSequence) (ps : List ℕ) (c : ℕ) → proposed_of qs ps ≡ answer c → Proposing qs ps c
proposing qs ps c e = go (known-loads qs ps) (leb 1 (length ps)) refl
  where
    go : Known qs ps → (s : Bool) → leb 1 (length ps) ≡ s → Proposing qs ps c
    go (are-known w) true k = record { can = w; some = leb-true 1 (length ps) k; is-own = let e' = rw (can-loads w, k) at e in cc }
    go (are-known w) false k = absurd (cc (rw (can-loads w, k) at e))
    go (too_many g) s k = absurd (cc (rw g at e))
    go (not_listed g) s k = absurd (cc (rw g at e))

pub own-given : (qs : List ChannelSequence) (ps : List ℕ) → CanJudge qs ps → 0 < length ps → (c : ℕ) × (proposed_of qs ps ≡ answer c)
own-given qs ps w some = (own (load qs) ps, rw (can-loads w, le-leb 1 (length ps) some))

pub own_first : (qs : List ChannelSequence) (ps : List ℕ) (c : ℕ) → proposed_of qs ps ≡ answer c → FirstLeast qs ps c
own_first qs ps c e =
    let p = proposing qs ps c e in
    let w = own-found (load qs) ps p.some in
    rw (← p.is-own)
    (record {
      permitted-channel = w.where-it-is;
      least = none-smaller (load qs) (own-none-below (load qs) ps p.some);
      first = λ i less. front_above (load qs) ps p.some (get_or ps i 0) (w.before i less);
    })

pub own-accepted : (qs : List ChannelSequence) (ps : List ℕ) (c : ℕ) → proposed_of qs ps ≡ answer c → judged_of qs ps c ≡ answer tt
own-accepted qs ps c e =
    let p = proposing qs ps c e in
    let w = own-found (load qs) ps p.some in
    rw (← p.is-own, can-loads p.can) (accept-by (load qs) ps (own (load qs) ps) (permitted-test w.where-it-is) (own-none-below (load qs) ps p.some))

pub own-shown : (qs : List ChannelSequence) (ps : List ℕ) (c o : ℕ) → judged_of qs ps c ≡ refusal (SmallerLoad o) → proposed_of qs ps ≡ answer o
own-shown qs ps c o e = go (known-loads qs ps) (leb 1 (length ps)) (is_permitted c ps) (none_below (load qs) ps c) refl refl refl
  where
    go : Known qs ps → (s p n : Bool) → leb 1 (length ps) ≡ s → is_permitted c ps ≡ p → none_below (load qs) ps c ≡ n → proposed_of qs ps ≡ answer o
    go (are-known w) true true false k i j =
        let e' = rw (can-loads w, k, i, j) at e in let same : own (load qs) ps ≡ o = cc in rw (can-loads w, k, same)
    go (are-known w) true true true k i j = absurd (cc (rw (can-loads w, k, i, j) at e))
    go (are-known w) true false n k i j = absurd (cc (rw (can-loads w, k, i) at e))
    go (are-known w) false p n k i j = absurd (cc (rw (can-loads w, k) at e))
    go (too_many g) s p n k i j = absurd (cc (rw g at e))
    go (not_listed g) s p n k i j = absurd (cc (rw g at e))

pub idle : (qs : List ChannelSequence) (ps : List ℕ) (free c : ℕ) → CanJudge qs ps → Permitted ps free → load qs free ≡ 0 → Permitted ps c → 0 < load qs c
    → (o : ℕ) × ((judged_of qs ps c ≡ refusal (SmallerLoad o)) × (load qs o ≡ 0))
idle qs ps free c w p zero-load q loaded =
    let some : 0 < length ps = omega (arith, q.inside) in
    let o = own (load qs) ps in
    let low = none-smaller (load qs) (own-none-below (load qs) ps some) free p in
    let none_left : load qs o ≡ 0 = omega arith in
    let above : none_below (load qs) ps c ≡ false = decided-by-own (load qs) ps some c ∙ lt-leb (load qs c) (load qs o) (omega arith) in
    (o, (rw (can-loads w, some-permitted q, permitted-test q, above), none_left))

-- sums over the sequences
load-append : (xs ys : List ChannelSequence) (c : ℕ) → load (xs ++ ys) c ≡ load xs c + load ys c
load-append [] ys c = omega arith
load-append (q ∷ xs) ys c = rw (load-append xs ys c) (omega arith)

listed-append : (xs ys : List ChannelSequence) → all_listed (xs ++ ys) ≡ all_listed xs && all_listed ys
listed-append [] ys = refl
listed-append (q ∷ xs) ys = go (is_listed (encoding_of q.encoding)) (listed-append xs ys)
  where
    go : (t : Bool) → all_listed (xs ++ ys) ≡ all_listed xs && all_listed ys → t && all_listed (xs ++ ys) ≡ t && all_listed xs && all_listed ys
    go true e = e
    go false e = refl

swapped : (front : List ChannelSequence) (q r : ChannelSequence) (back : List ChannelSequence) (n : ℕ)
    → loads (front ++ q ∷ r ∷ back) n ≡ loads (front ++ r ∷ q ∷ back) n
swapped front q r back n =
    let many : length (front ++ q ∷ r ∷ back) ≡ length (front ++ r ∷ q ∷ back) = rw (length-append front (q ∷ r ∷ back), length-append front (r ∷ q ∷ back)) in
    let listed : all_listed (front ++ q ∷ r ∷ back) ≡ all_listed (front ++ r ∷ q ∷ back) =
    rw (
      listed-append front (q ∷ r ∷ back),
      listed-append front (r ∷ q ∷ back),
      and-swapped (is_listed (encoding_of q.encoding)) (is_listed (encoding_of r.encoding)) (all_listed back),
    ) in
    let each : load (front ++ q ∷ r ∷ back) ≡ load (front ++ r ∷ q ∷ back) =
    fun_ext (λ c. rw (load-append front (q ∷ r ∷ back) c, load-append front (r ∷ q ∷ back) c) (omega arith)) in
    rw (many, listed, each)

loads-rearranged : {qs others : List ChannelSequence} (n : ℕ) → Rearranged qs others → loads qs n ≡ loads others n
loads-rearranged n (as-they-stand qs) = refl
loads-rearranged n (change-places front q r back others more) = swapped front q r back n ∙ loads-rearranged n more

pub judged-rearranged : (qs others : List ChannelSequence) (ps : List ℕ) (c : ℕ) → Rearranged qs others → judged_of qs ps c ≡ judged_of others ps c
judged-rearranged qs others ps c w = rw (loads-rearranged (length ps) w)

pub proposed-rearranged : (qs others : List ChannelSequence) (ps : List ℕ) → Rearranged qs others → proposed_of qs ps ≡ proposed_of others ps
proposed-rearranged qs others ps w = rw (loads-rearranged (length ps) w)

-- what does not touch a channel does not count
none-counted : (encoding : ChannelEncoding) (bytes : List ℕ) (c n many : ℕ) → n + many ≤ 16
    → ((i : ℕ) → i < 16 → ¬ (corrected_entry encoding (entry_bytes encoding i bytes) ≡ c)) → count c (channels_from encoding bytes n many) ≡ 0
none-counted encoding bytes c n zero inside others = refl
none-counted encoding bytes c n (suc many) inside others =
    rw (ne_eqb (corrected_entry encoding (entry_bytes encoding n bytes)) c (others n (omega arith)), none-counted encoding bytes c (suc n) many (omega arith) others)

not-counted : (q : ChannelSequence) (c : ℕ) → ¬ Touches q c → count c (channels_of q) ≡ 0
not-counted q c away = go (encoding_of q.encoding) refl
  where
    touching : (encoding : ChannelEncoding) → encoding_of q.encoding ≡ answer encoding → (i : ℕ) → i < 16
        → corrected_entry encoding (entry_bytes encoding i q.bytes) ≡ c → Touches q c
    touching encoding f i inside e = record {
      number = i;
      entry = entry_channel q.encoding (entry_bytes encoding i q.bytes);
      stands = rw (f, lt-leb 16 i inside);
      corrects = rw f (ap answer e);
    }

    go : (found : Answer ChannelEncoding) → encoding_of q.encoding ≡ found → count c (channels_of q) ≡ 0
    go (answer encoding) f = rw f (none-counted encoding q.bytes c 0 16 (omega arith) (λ i inside e. away (touching encoding f i inside e)))
    go (refusal why) f = rw f

pub untouched : (front back : List ChannelSequence) (q : ChannelSequence) (c : ℕ) → ¬ Touches q c → load (front ++ q ∷ back) c ≡ load (front ++ back) c
untouched front back q c away = rw (load-append front (q ∷ back) c, load-append front back c, not-counted q c away) (omega arith)

-- what is laid down is lent as it stands
laid-length : {qs : List ChannelSequence} → AllWhole qs → length (laid qs) ≡ 33 * length qs
laid-length none = refl
laid-length (one {q} {rest} whole others) = rw (length-append q.bytes (laid rest), whole, laid-length others) (omega arith)

laid-back : {qs : List ChannelSequence} → AllWhole qs → sequences_from (length qs) (laid qs) ≡ qs
laid-back none = refl
laid-back (one {q} {rest} whole others) = rw (take_at q.bytes (laid rest) 32 whole, drop_at q.bytes (laid rest) 32 whole, laid-back others)

pub as_lent : (qs : List ChannelSequence) → AllWhole qs → lent_sequences (laid qs) ≡ answer qs
as_lent qs w =
    let whole : (33 * length qs) % 33 ≡ 0 = omega arith in
    let many : 33 * length qs / 33 ≡ length qs = omega arith in
    rw (laid-length w, whole, many, laid-back w)

pub judged-as-lent : (qs : List ChannelSequence) (ps : List ℕ) (c : ℕ) → AllWhole qs → judged (laid qs) ps c ≡ judged_of qs ps c
judged-as-lent qs ps c w = rw (as_lent qs w)

pub proposed-as-lent : (qs : List ChannelSequence) (ps : List ℕ) → AllWhole qs → proposed (laid qs) ps ≡ proposed_of qs ps
proposed-as-lent qs ps w = rw (as_lent qs w)

pub load-as-lent : (qs : List ChannelSequence) (c : ℕ) → AllWhole qs → CanJudge qs [] → load_in (laid qs) c ≡ answer (load qs c)
load-as-lent qs c w can = rw (as_lent qs w, can-loads can)

-- without a sequence
empty-can : (ps : List ℕ) → length ps ≤ 16 → CanJudge [] ps
empty-can ps few = record { sixty-four = omega arith; sixteen = few; listed = refl }

pub empty-accepted : (ps : List ℕ) (c : ℕ) → length ps ≤ 16 → Permitted ps c → judged_of [] ps c ≡ answer tt
empty-accepted ps c few w = (accepted [] ps c).1 (empty-can ps few, w, λ other p. omega arith)

pub empty-own : (c : ℕ) (rest : List ℕ) → length rest < 16 → proposed_of [] (c ∷ rest) ≡ answer c
empty-own c rest few =
    rw (can-loads (empty-can (c ∷ rest) (omega arith)), le-leb 1 (length (c ∷ rest)) (omega arith), none-below (load []) (c ∷ rest) c (λ other p. omega arith))

pub which-channel : WhichChannel
which-channel = record {
  as_lent = as_lent;
  judged-as-lent = judged-as-lent;
  proposed-as-lent = proposed-as-lent;
  load-as-lent = load-as-lent;
  accepted = accepted;
  own-given = own-given;
  own_first = own_first;
  own-accepted = own-accepted;
  own-shown = own-shown;
  idle = idle;
  judged-rearranged = judged-rearranged;
  proposed-rearranged = proposed-rearranged;
  untouched = untouched;
  empty-load = λ c. refl;
  empty-accepted = empty-accepted;
  empty-own = empty-own;
}
