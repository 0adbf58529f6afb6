-- Counters grow step by step: what they hold and what is still ahead make up the whole at every step, and no counter passes the number of entries.
-- Assumes nothing.
use Prim.Native.Nat.{ℕ, zero, suc, ◌+◌, ◌-◌, ◌*◌, ◌/◌, ◌≤◌, ◌<◌}
use native.Mathlib.Omega.{arith}
use mathlib.Core.Path.{◌≡◌, refl, ap, ◌∙◌}
use mathlib.Core.Bool.{Bool, true, false, cond}
use mathlib.Core.List.{List, [], ◌∷◌, ◌++◌}
use lib.Dec.{eqb}
use lib.ListN.{length, get_or, take, drop, length-append}
use lib.Seq.{take-length, take_at, drop_at}
use Rattle.wire.specs.declared.refusal.Refusal.{Refusal}
use Rattle.wire.specs.declared.refusal.Refusal.TheVariants.{Encoding}
use Rattle.wire.specs.Answer.{Answer, answer, refusal}
use Rattle.channel.specs.declared.channel.ChannelEncoding.{ChannelEncoding}
use Rattle.channel.specs.declared.channel.ChannelEncoding.TheVariants.{Simple, Legacy, OpClass}
use Rattle.channel.specs.Channels.{encoding_of}
use Rattle.channel_sequence.specs.declared.channel_sequence.ChannelSequence.{ChannelSequence}
use Rattle.channel_sequence.specs.Hops.{entry_bytes}
use Rattle.channel_judge.specs.Loads.{sequences_from, corrected_entry, channels_from, channels_in, count, load, all_listed}
use Rattle.channel_judge.specs.declared.loads.Loads.{Loads}
use Rattle.channel_judge.specs.Counters.{load_by, AtMost, Grown, whole_sequences, counted}

-- what the counters hold and what is ahead make up what they held at the start and the whole
pub record Underway (start counters : Loads) (ahead whole : ℕ → ℕ) : Type 0 where
  pub each : (channel : ℕ) → load_by counters channel + ahead channel ≡ load_by start channel + whole channel

pub further : {start counters after : Loads} {ahead next by whole : ℕ → ℕ} → Underway start counters ahead whole → Grown counters by after
    → ((channel : ℕ) → ahead channel ≡ by channel + next channel) → Underway start after next whole
further w g split = record { each = λ channel. omega (arith, w.each channel, g.each channel, split channel) }

pub ended : {start counters : Loads} {ahead whole : ℕ → ℕ} → Underway start counters ahead whole → ((channel : ℕ) → ahead channel ≡ 0) → Grown start whole counters
ended w none = record { each = λ channel. omega (arith, w.each channel, none channel) }

-- of counters that started at n and have a whole of at most m, none is above n + m
pub bounded : {start counters : Loads} {ahead whole : ℕ → ℕ} {n m : ℕ} → Underway start counters ahead whole → AtMost n start
    → ((channel : ℕ) → whole channel ≤ m) → AtMost (n + m) counters
bounded w low most channel = omega (arith, w.each channel, low channel, most channel)

-- an encoding is refused for one reason
only-encoding : (n : ℕ) {why : Refusal} → refusal why ≡ encoding_of n → why ≡ Encoding
unfolding encoding_of
only-encoding n {why} e = go (eqb n 0) (eqb n 1) (eqb n 3) e
  where
    go : (a b c : Bool) → refusal why ≡ cond a (answer Simple) (cond b (answer Legacy) (cond c (answer OpClass) (refusal Encoding))) → why ≡ Encoding
    go true b c e = absurd (cc)
    go false true c e = absurd (cc)
    go false false true e = absurd (cc)
    go false false false e = cc

-- a channel is at most so often among some as there are
abbrev most : (same : Bool) → cond {A = ℕ} same 1 0 ≤ 1
most true = omega arith
most false = omega arith

count-from : (encoding : ChannelEncoding) (bytes : List ℕ) (n many channel : ℕ) → count channel (channels_from encoding bytes n many) ≤ many
count-from encoding bytes n zero channel = omega arith
count-from encoding bytes n (suc many) channel =
    omega (arith, most (eqb (corrected_entry encoding (entry_bytes encoding n bytes)) channel), count-from encoding bytes (suc n) many channel)

pub sixteen-most : (encoding : ChannelEncoding) (bytes : List ℕ) (channel : ℕ) → count channel (channels_from encoding bytes 0 16) ≤ 16
sixteen-most encoding bytes channel = count-from encoding bytes 0 16 channel

count-in : (found : Answer ChannelEncoding) (bytes : List ℕ) (channel : ℕ) → count channel (channels_in found bytes) ≤ 16
count-in (answer encoding) bytes channel = sixteen-most encoding bytes channel
count-in (refusal why) bytes channel = omega arith

load-most : (sequences : List ChannelSequence) (channel : ℕ) → load sequences channel ≤ 16 * length sequences
load-most [] channel = omega arith
load-most (q ∷ rest) channel = omega (arith, count-in (encoding_of q.encoding) q.bytes channel, load-most rest channel)

-- the entries that are ahead: the next one and those behind it
pub next-entry : (encoding : ChannelEncoding) (bytes : List ℕ) (i : ℕ) → i < 16
    → channels_from encoding bytes i (16 - i) ≡ corrected_entry encoding (entry_bytes encoding i bytes) ∷ channels_from encoding bytes (i + 1) (16 - (i + 1))
next-entry encoding bytes i inside =
    let e : 16 - i ≡ suc (16 - (i + 1)) = omega arith in
    let f : suc i ≡ i + 1 = omega arith in
    rw (e, f)

pub many-sequences : (many : ℕ) (s : List ℕ) → length (sequences_from many s) ≡ many
many-sequences zero s = refl
many-sequences (suc many) s = rw (many-sequences many (drop 33 s))

-- 64 sequences have 1,024 entries
pub load-bound : (many : ℕ) (s : List ℕ) → many ≤ 64 → (channel : ℕ) → load (sequences_from many s) channel ≤ 1024
load-bound many s few channel = omega (arith, load-most (sequences_from many s) channel, many-sequences many s)

-- what has been counted and the sequences that are ahead make up all of them
pub record Passing (s rest : List ℕ) (counters : Loads) : Type 0 where
  pub listed : all_listed (whole_sequences s) ≡ all_listed (whole_sequences rest)
  pub loads : (channel : ℕ) → load_by counters channel + load (whole_sequences rest) channel ≡ load (whole_sequences s) channel

pub passing-begun : {s rest : List ℕ} (counters : Loads) → rest ≡ s → ((channel : ℕ) → load_by counters channel ≡ 0) → Passing s rest counters
passing-begun counters same none = record { listed = rw same; loads = λ channel. rw same (omega (arith, none channel)) }

pub passing-bounded : {s rest : List ℕ} {counters : Loads} → Passing s rest counters → length s / 33 ≤ 64 → AtMost 1024 counters
passing-bounded {s} w few channel = omega (arith, w.loads channel, load-bound (length s / 33) s few channel)

-- the sequences that are ahead: the next one and those behind it
next-sequence : (x rest : List ℕ) → length x ≡ 33 → whole_sequences (x ++ rest) ≡ record { encoding = get_or x 0 0; bytes = drop 1 x } ∷ whole_sequences rest
next-sequence [] rest many = absurd (let z : ◌≡◌ {A = ℕ} 0 33 = many in omega arith)
next-sequence (b ∷ bytes) rest many =
    let long : length bytes ≡ 32 = omega arith in
    let one : length (b ∷ bytes ++ rest) / 33 ≡ suc (length rest / 33) = rw (length-append bytes rest, long) (omega arith) in
    rw (one, take_at bytes rest 32 long, drop_at bytes rest 32 long)

-- behind the encoding
pub behind_first : (x : List ℕ) → take (length x - 1) (drop 1 x) ≡ drop 1 x
behind_first [] = refl
behind_first (b ∷ bytes) = let e : length (b ∷ bytes) - 1 ≡ length bytes = omega arith in rw e (take-length bytes)

-- its encoding is listed, or it is not
pub passed-on : {s rest : List ℕ} (x behind bytes : List ℕ) {counters after : Loads} {known : ChannelEncoding} → Passing s rest counters → rest ≡ x ++ behind → length x ≡ 33
    → answer known ≡ encoding_of (get_or x 0 0) → bytes ≡ drop 1 x → Grown counters (λ channel. count channel (channels_from known bytes 0 16)) after
    → Passing s behind after
passed-on {s} {rest} x behind bytes {known = known} w e many found part g =
    let next = ap whole_sequences e ∙ next-sequence x behind many in
    record {
      listed = w.listed ∙ rw (next, ← found);
      loads = λ channel.
          let split : load (whole_sequences rest) channel ≡ count channel (channels_from known bytes 0 16) + load (whole_sequences behind) channel = rw (next, ← found, part) in
          omega (arith, w.loads channel, g.each channel);
    }

pub passed-unlisted : {s rest : List ℕ} (x behind : List ℕ) {counters : Loads} {why : Refusal} → Passing s rest counters → rest ≡ x ++ behind → length x ≡ 33
    → refusal why ≡ encoding_of (get_or x 0 0) → refusal why ≡ counted (whole_sequences s)
passed-unlisted x behind w e many found =
    let next = ap whole_sequences e ∙ next-sequence x behind many in
    rw (w.listed, next, ← found, only-encoding (get_or x 0 0) found)
