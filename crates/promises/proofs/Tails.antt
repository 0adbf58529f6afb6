-- A tail whose items are all whole is what its items write, and items that are written are the ones that the walk gives.
-- Assumes nothing.
use Prim.Native.Nat.{ℕ, zero, suc, ◌+◌, ◌*◌, ◌/◌, ◌%◌, ◌-◌, ◌≤◌, ◌<◌}
use native.Mathlib.Omega.{arith}
use mathlib.Core.Path.{◌≡◌, refl, sym, ap, ◌∙◌}
use mathlib.Core.Bool.{Bool, true, false, cond}
use mathlib.Core.List.{List, ◌∷◌, ◌++◌, map}
use lib.Dec.{eqb}
use lib.ListN.{length, get_or, take, drop, length-drop, take-append-drop}
use lib.Seq.{drop-cons, drop-drop, length-take-le, drop-length}
use borrow.Author.Tests.{le-leb}
use Rattle.wire.specs.Reading.{Reading, read, refused, field}
use Rattle.wire.specs.Numbers.{number}
use Rattle.wire.proofs.Lawful.{steps}
use Rattle.wire.proofs.Bytes.{number-whole}
use Rattle.tlv_items.specs.declared.item.Item.{Item}
use Rattle.tlv_items.specs.declared.item.Step.{Step}
use Rattle.tlv_items.specs.Items.{item, step_of, step_at, value_of}
use Rattle.tlv_items.specs.ItemBytes.{type_length_value}
use Rattle.tlv_items.specs.Sent.{Sent, Sendable, AllSendable, sent, sent_in, tail_with}
use Rattle.tlv_items.specs.Walk.{whole, Walk, go_on, walk_from, walk}
use Rattle.tlv_items.proofs.Steps.{step-stands, step-whole}
use Rattle.tlv_items.proofs.RoundTrip.{tail-back}
use Rattle.promises.specs.Formats.{Bytes}

-- an item by the bytes at its place
record Headed (s : List ℕ) (at : ℕ) (it : Item) : Type 0 where
  type : it.tlv_type ≡ get_or s at 0
  size : it.length ≡ get_or s (at + 1) 0 + 256 * get_or s (at + 1 + 1) 0

headed : (s : List ℕ) (at : ℕ) {it : Item} {next : ℕ} → at + 3 ≤ length s → item at s at ≡ read it next → Headed s at it
headed s at {it} {next} h e =
    let size : ℕ = get_or s (at + 1) 0 + 256 * get_or s (at + 1 + 1) 0 in
    let made : Item = record { at = at; tlv_type = get_or s at 0; length = size } in
    let one : number 1 s at ≡ read (get_or s at 0) (at + 1) = sym (number-whole 0 s at (get_or s at 0) (omega arith) (omega arith)) in
    let two : number 2 s (at + 1) ≡ read size (at + 1 + 2) = sym (number-whole 1 s (at + 1) size (omega arith) (omega arith)) in
    let r = steps (field size s (at + 1 + 2)) (λ value mid. read made mid) (rw (one, two) at e) in
    let same : made ≡ it = let e' = r.goes in cc in
    record { type = sym (ap (λ (x : Item). x.tlv_type) same); size = sym (ap (λ (x : Item). x.length) same) }

step-headed : (s : List ℕ) (at : ℕ) {it : Item} {next : ℕ} → step_at s at ≡ Step.Item it next → Headed s at it
unfolding step_at
step-headed s at {it} {next} e = let w = step-stands s at e in go (eqb at (length s)) (item at s at) refl (omega arith) e
  where
    go : (b : Bool) (r : Reading Item) → item at s at ≡ r → at + 3 ≤ length s → cond b Step.Whole (step_of at r) ≡ Step.Item it next → Headed s at it
    go true r q h e = cc
    go false (read it' next') q h e =
        let same : it' ≡ it = cc in
        headed s at h (q ∙ ap (λ x. read x next') same)
    go false (refused why) q h e = cc

three-bytes : (s : List ℕ) (at : ℕ) → at + 3 ≤ length s
    → drop at s ≡ get_or s at 0 ∷ get_or s (at + 1) 0 ∷ get_or s (at + 1 + 1) 0 ∷ drop (at + 3) s
three-bytes s at h =
    let one : at + 1 ≡ suc at = omega arith in
    let two : at + 1 + 1 ≡ suc (suc at) = omega arith in
    let three : at + 3 ≡ suc (suc (suc at)) = omega arith in
    rw (
      three,
      two,
      one,
      drop-cons s at 0 (omega arith),
      drop-cons s (suc at) 0 (omega arith),
      drop-cons s (suc (suc at)) 0 (omega arith),
    )

-- an item that a step finds in bytes: the bytes from its place on are its own and then those behind it, and it can be written
record Split (s : List ℕ) (at : ℕ) (it : Item) (next : ℕ) : Type 0 where
  bytes : drop at s ≡ type_length_value it.tlv_type (value_of s it) ++ drop next s
  fits : Sendable (sent s it)

split : (s : List ℕ) (at : ℕ) {it : Item} {next : ℕ} → Bytes s → step_at s at ≡ Step.Item it next → Split s at it next
split s at {it} {next} b e =
    let w = step-stands s at e in
    let q = step-headed s at e in
    let first = b at in
    let second = b (at + 1) in
    let third = b (at + 1 + 1) in
    let size : ℕ = it.length in
    let value : List ℕ = take size (drop (at + 3) s) in
    let here : value_of s it ≡ value = rw (w.place, le-leb (at + 3 + size) (length s) (omega arith)) in
    let many : length value ≡ size = length-take-le size (drop (at + 3) s) (simp length-drop (omega arith)) in
    let rest : value ++ drop next s ≡ drop (at + 3) s = rw (w.behind, ← drop-drop size (at + 3) s) (take-append-drop size (drop (at + 3) s)) in
    let type : it.tlv_type % 256 ≡ get_or s at 0 = omega arith in
    let low : size % 256 ≡ get_or s (at + 1) 0 = omega arith in
    let quotient : size / 256 ≡ get_or s (at + 1 + 1) 0 = omega arith in
    let high : size / 256 % 256 ≡ get_or s (at + 1 + 1) 0 = omega arith in
    record {
      bytes = three-bytes s at (omega arith) ∙ sym (rw (here, many, type, low, high, rest));
      fits = record { byte = omega arith; short = rw (here, many) (omega arith) };
    }

-- what a walk gives from a place is what stands there, where it ends whole
record Spells (s : List ℕ) (at : ℕ) (items : List Item) : Type 0 where
  bytes : drop at s ≡ tail_with (map (sent s) items)
  fit : AllSendable (map (sent s) items)

spells-step : (s : List ℕ) (at : ℕ) → Bytes s → (found : Step) (rest : ℕ → Walk) → step_at s at ≡ found
    → ((it : Item) (next : ℕ) → step_at s at ≡ Step.Item it next → (rest next).ending ≡ whole → Spells s next (rest next).items)
    → (go_on found rest).ending ≡ whole → Spells s at (go_on found rest).items
spells-step s at b (Step.Item it next) rest q more e =
    let here = split s at b q in
    let there = more it next q e in
    record { bytes = rw (← there.bytes) here.bytes; fit = (here.fits, there.fit) }
spells-step s at b Step.Whole rest q more e = record { bytes = rw (step-whole s at q) (drop-length s); fit = tt }
spells-step s at b (Step.Cut place) rest q more e = cc

spells-from : (m : ℕ) (s : List ℕ) (at : ℕ) → Bytes s → length s - at < m → (walk_from m s at).ending ≡ whole → Spells s at (walk_from m s at).items
unfolding walk_from
spells-from zero s at b h e = absurd (omega arith)
spells-from (suc m) s at b h e =
    spells-step s at b (step_at s at) (walk_from m s) refl
    (λ it next q e'. let w = step-stands s at q in spells-from m s next b (omega arith) e') e

-- a tail whose items are all whole is what they write
pub record Spelt (tail : List ℕ) : Type 0 where
  pub bytes : tail_with (sent_in tail) ≡ tail
  pub fit : AllSendable (sent_in tail)

pub spelt : (tail : List ℕ) → Bytes tail → (walk tail).ending ≡ whole → Spelt tail
spelt tail b e =
    let w = spells-from (suc (length tail - 0)) tail 0 b (omega arith) e in
    record { bytes = sym w.bytes; fit = w.fit }

-- and what is written is found
pub record WalkedBack (items : List Sent) : Type 0 where
  pub sent : sent_in (tail_with items) ≡ items
  pub ending : (walk (tail_with items)).ending ≡ whole

pub walked-back : (items : List Sent) → AllSendable items → WalkedBack items
walked-back items ok = let w = tail-back items ok in record { sent = w.items; ending = w.ending }
