-- Bytes are put one by one: those of the pairs so far stand in the buffer, and those of the pairs that are left have room behind them.
-- Assumes nothing.
use Prim.Native.Nat.{ℕ, ◌+◌, ◌/◌, ◌≤◌, ◌<◌}
use native.Mathlib.Omega.{arith}
use mathlib.Core.Path.{◌≡◌, refl, sym, ap, ◌∙◌}
use mathlib.Core.Bool.{Bool, true, false, not}
use mathlib.Core.List.{List, [], ◌∷◌, ◌++◌, append_assoc, append-nil}
use lib.Dec.{leb}
use lib.ListN.{length, get_or, length-append}
use borrow.Author.Tests.{le-leb, lt-leb, leb-true, leb-false}
use Rattle.std.specs.Prelude.{Some, Result, Ok, Err}
use Rattle.std.specs.Result.{is_err}
use Rattle.wire.specs.declared.refusal.Refusal.{Refusal}
use Rattle.wire.specs.Reading.{field}
use Rattle.wire.specs.Answer.{place_of}
use Rattle.wire.specs.Said.{told}
use Rattle.wire.specs.Writing.{fits, Put}
use Rattle.wire.proofs.Stores.{put-empty, put_then}
use Rattle.text.specs.declared.hex.HexError.TheVariants.{NoRoom}
use Rattle.text.specs.Words.{meant, hex_byte_of, hex_of}
use Rattle.text.specs.Into.{PutSaid}
use Rattle.text.proofs.Begun.{said-past}
use Rattle.text.proofs.Halves.{half, Halved, halved, two-letters, bytes_in, said-bytes}

empty : (xs : List ℕ) → length xs ≡ 0 → xs ≡ []
empty [] e = refl
empty (x ∷ xs) e = absurd (omega arith)

-- whether there is room, as it was asked
room-asked : (n : ℕ) (s : List ℕ) (at : ℕ) (r : Result ℕ Refusal) → told r ≡ place_of (field n s at) → leb (at + n) (length s) ≡ not (is_err r)
room-asked n s at r e = go (leb (at + n) (length s)) refl r e
  where
    go : (b : Bool) → leb (at + n) (length s) ≡ b → (r : Result ℕ Refusal) → told r ≡ place_of (field n s at) → b ≡ not (is_err r)
    go true q (Ok next) e = refl
    go true q (Err why) e = let e' = rw q at e in cc
    go false q (Ok next) e = let e' = rw q at e in cc
    go false q (Err why) e = refl

pub no-room : (n : ℕ) (s : List ℕ) (at : ℕ) (r : Result ℕ Refusal) → told r ≡ place_of (field n s at) → true ≡ is_err r → length s < at + n
no-room n s at r e f = leb-false (at + n) (length s) (room-asked n s at r e ∙ ap not (sym f))

pub some-room : (n : ℕ) (s : List ℕ) (at : ℕ) (r : Result ℕ Refusal) → told r ≡ place_of (field n s at) → false ≡ is_err r → at + n ≤ length s
some-room n s at r e f = leb-true (at + n) (length s) (room-asked n s at r e ∙ ap not (sym f))

pub put-past : (s : List ℕ) (at : ℕ) (bytes : List ℕ) → length s < at + length bytes → Put s at bytes at s
put-past s at bytes h = let past = lt-leb (at + length bytes) (length s) h in record { place = rw past; buffer = rw past }

-- bytes of a word: what was said of the whole word is what stands there and what is left to put
pub record Pasting (word left s : List ℕ) (at place : ℕ) (buf : List ℕ) : Type 0 where
  pub there : List ℕ
  pub others : List ℕ
  pub said : hex_of word ≡ Some (there ++ others)
  pub behind : hex_of left ≡ Some others
  pub room : at + (length there + length others) ≤ length s
  pub put : Put s at there place buf

pub pasting-none : (word s : List ℕ) (at : ℕ) → true ≡ meant (hex_of word) → at + length word / 2 ≤ length s → Pasting word word s at at s
pasting-none word s at e h =
    let said = said-bytes (hex_of word) (sym e) in
    let size = half word said in
    record { there = []; others = bytes_in (hex_of word); said = said; behind = said; room = omega arith; put = put-empty s at }

pub pasting-past : (word s : List ℕ) (at : ℕ) → true ≡ meant (hex_of word) → length s < at + length word / 2 → PutSaid s at (hex_of word) (Err NoRoom) s
pasting-past word s at e h =
    let said = said-bytes (hex_of word) (sym e) in
    let size = half word said in
    rw said (said-past s at (bytes_in (hex_of word)) refl (omega arith))

module _ {word left s : List ℕ} {at place : ℕ} {buf : List ℕ} (p : Pasting word left s at place buf) where
  -- the pair in front is a byte
  pub first-of : (pair rest : List ℕ) → left ≡ pair ++ rest → length pair ≡ 2 → Halved (get_or pair 0 0) (get_or pair 1 0) rest p.others
  first-of pair rest e two = halved (get_or pair 0 0) (get_or pair 1 0) rest (ap hex_of (sym (e ∙ two-letters pair rest two)) ∙ p.behind)

  -- and it is put
  pub pasting-more : (pair rest : List ℕ) {b next : ℕ} {u : List ℕ} → left ≡ pair ++ rest → length pair ≡ 2
      → hex_byte_of (get_or pair 0 0) (get_or pair 1 0) ≡ Some b → Put buf place (b ∷ []) next u → Pasting word rest s at next u
  pasting-more pair rest {b} e two is q =
      let h = first-of pair rest e two in
      let same : h.b ≡ b = let both = sym h.first ∙ is in cc in
      let size = ap length h.all in
      let whole : p.there ++ p.others ≡ p.there ++ (b ∷ []) ++ h.others =
      ap (λ (xs : List ℕ). p.there ++ xs) (h.all ∙ ap (λ (x : ℕ). x ∷ h.others) same) ∙ sym (append_assoc p.there (b ∷ []) h.others) in
      record {
        there = p.there ++ (b ∷ []);
        others = h.others;
        said = p.said ∙ ap Some whole;
        behind = h.behind;
        room = let many = length-append p.there (b ∷ []) in let r = p.room in omega arith;
        put = put_then p.put q (let r = p.room in omega arith);
      }

  -- where no pair is left, all of them stand there
  pub pasting-all : length left < 2 → PutSaid s at (hex_of word) (Ok place) buf
  pasting-all few =
      let size = half left p.behind in
      let none = empty p.others (omega arith) in
      let said : hex_of word ≡ Some p.there = p.said ∙ ap Some (ap (λ (xs : List ℕ). p.there ++ xs) none ∙ append-nil p.there) in
      let r = p.room in
      let room : fits s at p.there ≡ true = le-leb (at + length p.there) (length s) (omega arith) in
      rw said (record { place = rw room (ap Ok (rw room at p.put.place)); buffer = p.put.buffer })
