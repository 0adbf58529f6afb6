-- Legacy flags in a run of entries: what was kept fits, and what fits is kept as it is; of bytes, what was kept is bytes; entries are kept one by one.
-- Assumes nothing.
use Prim.Native.Nat.{ℕ, suc, ◌+◌, ◌<◌}
use native.Mathlib.Omega.{arith}
use mathlib.Core.Path.{◌≡◌, refl, ap, ap₂}
use mathlib.Core.Bool.{true}
use mathlib.Core.List.{List, [], ◌∷◌, ◌++◌}
use lib.ListN.{length, get_or, set, take, drop}
use lib.Seq.{drop-set-lt}
use Rattle.std.proofs.lemmas.List.{set-get_or, get_or-set_other}
use borrow.Author.Tests.{leb-true, le-leb}
use Rattle.wire.proofs.Octets.{Octets, octets-none, octets-cons, octets-rest}
use Rattle.wire.proofs.Tests.{both}
use Rattle.channel.specs.Channels.{kept_flags}
use Rattle.channel_sequence.specs.Sequences.{flags_fit, all_flags_fit}
use Rattle.channel_sequence.specs.SequenceReader.{kept_entries}
use Rattle.channel_sequence.proofs.Entries.{two_at, entry-step}

kept-fit : (flags : ℕ) → flags_fit (kept_flags flags) ≡ true
kept-fit flags = le-leb (kept_flags flags) 0x3F (omega arith)

flags-same : (flags : ℕ) → flags_fit flags ≡ true → kept_flags flags ≡ flags
flags-same flags e = let small = leb-true flags 0x3F e in omega arith

pub length-kept : (s : List ℕ) → length (kept_entries s) ≡ length s
length-kept [] = refl
length-kept (flags ∷ []) = refl
length-kept (flags ∷ channel ∷ rest) = ap (λ (n : ℕ). suc (suc n)) (length-kept rest)

pub entries_fit : (s : List ℕ) → all_flags_fit (kept_entries s) ≡ true
entries_fit [] = refl
entries_fit (flags ∷ []) = kept-fit flags
entries_fit (flags ∷ channel ∷ rest) = rw (kept-fit flags, entries_fit rest)

pub entries-same : (s : List ℕ) → all_flags_fit s ≡ true → kept_entries s ≡ s
entries-same [] e = refl
entries-same (flags ∷ []) e = ap (λ (x : ℕ). x ∷ []) (flags-same flags e)
entries-same (flags ∷ channel ∷ rest) e =
    let p = both (flags_fit flags) (all_flags_fit rest) e in
    ap₂ (λ (x : ℕ) (xs : List ℕ). x ∷ channel ∷ xs) (flags-same flags p.0) (entries-same rest p.1)

pub entries-octets : {s : List ℕ} → Octets s → Octets (kept_entries s)
entries-octets {s = []} p = p
entries-octets {s = flags ∷ []} p = octets-cons (omega arith) octets-none
entries-octets {s = flags ∷ channel ∷ rest} p = octets-cons (omega arith) (octets-cons (p.small 1) (entries-octets (octets-rest (octets-rest p))))

-- one entry more is kept where it stands
pub kept-step : (s : List ℕ) (i : ℕ) → i + 1 < length s
    → take (i + 2) (set s i (kept_flags (get_or s i 0))) ++ kept_entries (drop (i + 2) (set s i (kept_flags (get_or s i 0)))) ≡ take i s ++ kept_entries (drop i s)
kept-step s i h =
    let k : ℕ = kept_flags (get_or s i 0) in
    let t : List ℕ = set s i k in
    let beside : get_or t (i + 1) 0 ≡ get_or s (i + 1) 0 = get_or-set_other s i (i + 1) k 0 (λ e. omega arith) in
    let same : set t (i + 1) (get_or s (i + 1) 0) ≡ t = rw (← beside) (set-get_or t (i + 1) 0) in
    let rest : drop (i + 2) t ≡ drop (i + 2) s = drop-set-lt (i + 2) s i k (omega arith) in
    let put : take (i + 2) t ++ kept_entries (drop (i + 2) s) ≡ take i s ++ k ∷ get_or s (i + 1) 0 ∷ kept_entries (drop (i + 2) s) =
    rw same at (entry-step s i k (get_or s (i + 1) 0) (kept_entries (drop (i + 2) s)) h) in
    rw (rest, two_at s i h) put
