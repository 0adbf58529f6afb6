-- An item that was written is found by a step at its place, with anything before and behind it, and the walk of items laid end to end gives back each of them.
-- Assumes nothing.
use Prim.Native.Nat.{ℕ, ◌+◌, ◌≤◌}
use native.Mathlib.Nat.{zero-add}
use native.Mathlib.Omega.{arith}
use mathlib.Core.Path.{◌≡◌, refl, sym, ap, ap₂, ◌∙◌}
use mathlib.Core.Bool.{true}
use mathlib.Core.List.{List, [], ◌∷◌, ◌++◌, append_assoc, append-nil, map}
use lib.Dec.{leb}
use lib.ListN.{length, drop, length-append}
use lib.Seq.{drop-append_seam}
use borrow.Author.Tests.{ne_eqb, le-leb}
use Rattle.wire.specs.Writing.{within, length_of, afterwards}
use Rattle.wire.specs.Numbers.{little_bytes}
use Rattle.wire.proofs.ReadsBack.{Back, bind-back, made-back, number-back, field_back}
use Rattle.tlv_items.specs.declared.item.Item.{Item}
use Rattle.tlv_items.specs.declared.item.Step.{Step}
use Rattle.tlv_items.specs.Items.{item, step_at, value_of}
use Rattle.tlv_items.specs.ItemBytes.{type_length_value, item_bytes}
use Rattle.tlv_items.specs.Walk.{whole, walk_at}
use Rattle.tlv_items.specs.Sent.{Sent, Sendable, AllSendable, tail_with, sent}
use Rattle.tlv_items.proofs.Sizes.{sized-bytes}
use Rattle.tlv_items.proofs.Plain.{used-up}
use Rattle.tlv_items.proofs.Walks.{walk-goes}

abbrev pub bytes_of : Sent → List ℕ
bytes_of w = type_length_value w.type w.value

-- the item that it is at a place
abbrev pub item_at : ℕ → Sent → Item
item_at at w = record { at = at; tlv_type = w.type; length = length w.value }

item_back : (place : ℕ) (w : Sent) → Sendable w → Back (item place) (bytes_of w) (item_at place w)
item_back place w ok =
    bind-back _ (number-back 1 w.type ok.byte)
    (bind-back _ (number-back 2 (length w.value) (omega arith))
    (made-back {B = Item} (λ value. item_at place w) (field_back (length w.value) w.value refl)))

pub step_back : (w : Sent) → Sendable w → (before behind : List ℕ) →
    step_at (before ++ bytes_of w ++ behind) (length before) ≡ Step.Item (item_at (length before) w) (length before + length (bytes_of w))
unfolding step_at
step_back w ok before behind =
    let s : List ℕ = before ++ bytes_of w ++ behind in
    let more : length s ≡ length before + (3 + length w.value) + length behind = simp length-append (omega arith) in
    rw (ne_eqb (length before) (length s) (omega arith), (item_back (length before) w ok).back before behind)

pub value-back : (w : Sent) (before behind : List ℕ) → value_of (before ++ bytes_of w ++ behind) (item_at (length before) w) ≡ w.value
value-back w before behind =
    let head : List ℕ = little_bytes 1 w.type ++ little_bytes 2 (length w.value) in
    let apart : before ++ bytes_of w ++ behind ≡ before ++ head ++ w.value ++ behind = simp append_assoc in
    let start : length before + 3 ≡ length (before ++ head) = simp length-append (omega arith) in
    rw (apart, start, (field_back (length w.value) w.value refl).back (before ++ head) behind)

sent_back : (w : Sent) (before behind : List ℕ) → sent (before ++ bytes_of w ++ behind) (item_at (length before) w) ≡ w
sent_back w before behind = ap (λ (value : List ℕ). record { type = w.type; value = value }) (value-back w before behind)

-- an item that was written into enough room is found at its start, with its value, and what stood behind it still stands there
pub written_back : (w : Sent) → Sendable w → (s : List ℕ) → length (bytes_of w) ≤ length s →
    let size : ℕ = length (bytes_of w) in
    let bytes = item_bytes w.type w.value in
    let after : List ℕ = afterwards s bytes (within (length s) (length_of bytes)) in
    (step_at after 0 ≡ Step.Item (item_at 0 w) size) × (sent after (item_at 0 w) ≡ w) × (drop size after ≡ drop size s)
written_back w ok s h =
    let rest : List ℕ = drop (length (bytes_of w)) s in
    let room : leb (length (bytes_of w)) (length s) ≡ true = le-leb (length (bytes_of w)) (length s) h in
    let settled = sized-bytes w.type w.value ok.short in (
      rw (settled, room) (step_back w ok [] rest ∙ ap (Step.Item (item_at 0 w)) (zero-add (length (bytes_of w)))),
      rw (settled, room) (sent_back w [] rest),
      rw (settled, room) (drop-append_seam (bytes_of w) rest),
    )

-- a walk that gives back what was written, each with its type and its value, and ends whole
pub record GivesBack (s : List ℕ) (at : ℕ) (ws : List Sent) : Type 0 where
  pub items : map (sent s) (walk_at s at).items ≡ ws
  pub ending : (walk_at s at).ending ≡ whole

-- from the place at which the items begin, whatever stands before them
pub walk-back : (before : List ℕ) (ws : List Sent) → AllSendable ws → (s : List ℕ) → s ≡ before ++ tail_with ws → GivesBack s (length before) ws
walk-back before [] ok s e =
    let here : length before ≡ length s = rw e (simp append-nil) in
    let goes = walk-goes s (length before) (ap (step_at s) here ∙ used-up s) in
    record { items = rw goes; ending = rw goes }
walk-back before (w ∷ ws) ok s e =
    let apart : s ≡ before ++ bytes_of w ++ tail_with ws = e ∙ sym (append_assoc before (bytes_of w) (tail_with ws)) in
    let here : step_at s (length before) ≡ Step.Item (item_at (length before) w) (length (before ++ bytes_of w)) =
    rw (apart, length-append before (bytes_of w)) (step_back w ok.0 before (tail_with ws)) in
    let first : sent s (item_at (length before) w) ≡ w = rw apart (sent_back w before (tail_with ws)) in
    let rest = walk-back (before ++ bytes_of w) ws ok.1 s apart in
    let goes = walk-goes s (length before) here in
    record {
      items = rw goes (ap₂ (λ (x : Sent) (xs : List Sent). x ∷ xs) first rest.items);
      ending = rw goes rest.ending;
    }

-- the walk of a tail that was written
pub tail-back : (ws : List Sent) → AllSendable ws → GivesBack (tail_with ws) 0 ws
tail-back ws ok = walk-back [] ws ok (tail_with ws) refl
