-- A record that was read of bytes, written again, gives the bytes that `rewritten` says: the two readers go side by side, field by field.
-- Assumes nothing.
use Prim.Native.Nat.{ℕ, suc, ◌+◌, ◌*◌, ◌/◌, ◌%◌, ◌^◌, ◌<◌}
use native.Mathlib.Omega.{arith}
use mathlib.Core.Path.{◌≡◌, refl, ap, subst, ◌∙◌}
use mathlib.Core.Bool.{Bool, true, false, cond}
use mathlib.Core.List.{List, [], ◌∷◌, ◌++◌, append_assoc}
use lib.Bits.{bit_and, and_block, and_mask, and_le_r}
use lib.Dec.{eqb}
use lib.ListN.{get_or}
use borrow.Author.Tests.{eqb-true}
use Rattle.wire.specs.declared.refusal.Refusal.TheVariants.{UnicastLength}
use Rattle.wire.specs.Reading.{Reader, read, field, give, refuse, when, ◌>>=◌}
use Rattle.wire.specs.Numbers.{little, little_bytes, number, bit, bits}
use Rattle.wire.specs.Words.{word_by}
use Rattle.wire.proofs.Lawful.{never}
use Rattle.wire.proofs.Octets.{Octets, OctetField, by_place, number-field, gives-field}
use Rattle.wire.proofs.Again.{Again, again-give, again-bind, again-step, again-group, again-when, again-optional, number-again, address-again, again-number, again-joined, again-end}
use Rattle.data_path_words.specs.declared.misc.DataPathChannel.{DataPathChannel}
use Rattle.data_path_words.specs.Words.{extended_kept, options_kept, channel_of, word_of, channel_word, channel_bytes, options_bytes, stats, stats_bytes}
use Rattle.data_path_words.specs.Words as W
use Rattle.data_path_fields.specs.declared.read.Unicast.{Unicast}
use Rattle.data_path_fields.specs.declared.read.Extended.{Extended}
use Rattle.data_path_fields.specs.Optional.{optional_bytes}
use Rattle.data_path_fields.specs.Fields.{no_country, country, country_bytes, no_channel, no_infra, infra, infra_bytes, no_address, addresses, options_and, no_unicast, unicast, no_extended, extended_of, extended}
use Rattle.data_path_state.specs.declared.data_path_state_tlv.DataPathStateTLV.{DataPathStateTLV}
use Rattle.data_path_state.specs.DataPath.{data_path}
use Rattle.data_path_state.specs.Bytes.{record_bytes}
use Rattle.data_path_state.proofs.Optionals.{there-again}
use Rattle.data_path_state.specs.Rewritten.{channel_byte, channel_again, options_again, unicast_again, word_again, extended_again, rewritten}
use Rattle.data_path_state.proofs.Masks.{kept-extended-mask, kept-options-mask}

low_byte : (n low : ℕ) → n ≡ low → low < 256 → little_bytes 2 n ≡ low ∷ 0 ∷ []
low_byte n low e h =
    let first : n % 256 ≡ low = omega arith in
    let second : n / 256 % 256 ≡ 0 = omega arith in
    rw (first, second)

-- the word of a channel is the low byte of the word that it was read of, or the low three bits of that byte
channel-word : (low high : ℕ) → low < 256 → little_bytes 2 (word_of (channel_of (low + 256 * high))) ≡ channel_byte low ∷ 0 ∷ []
channel-word low high h =
    let odd : bits 0 1 (low + 256 * high) ≡ bits 0 1 low = omega arith in
    rw odd (go (bit 0 low))
  where
    go : (b : Bool)
        → little_bytes 2 (word_of (cond b (DataPathChannel.ChannelMap (record { 0 = (low + 256 * high) % 2 ^ 3 })) (DataPathChannel.SingleChannel ((low + 256 * high) % 2 ^ 8))))
        ≡ cond b (low % 2 ^ 3) low ∷ 0 ∷ []
    go true = low_byte ((low + 256 * high) % 2 ^ 3) (low % 2 ^ 3) (omega arith) (omega arith)
    go false = low_byte ((low + 256 * high) % 2 ^ 8) low (omega arith) h

channel-bytes : (word : List ℕ) → OctetField 2 word → little_bytes 2 (word_of (channel_of (little word))) ≡ channel_byte (get_or word 0 0) ∷ 0 ∷ []
channel-bytes word p =
    subst (λ (b : List ℕ). little_bytes 2 (word_of (channel_of (little b))) ≡ channel_byte (get_or b 0 0) ∷ 0 ∷ []) (by_place 2 word p.size)
    (channel-word (get_or word 0 0) (little (get_or word 1 0 ∷ [])) (p.octets.small 0))

-- a mask goes byte by byte, from the lowest on
masked : (n b w m mask : ℕ) {rest : List ℕ} → b < 256 → m < 256 → little_bytes n (bit_and w mask) ≡ rest
    → little_bytes (suc n) (bit_and (b + 256 * w) (m + 256 * mask)) ≡ bit_and b m ∷ rest
masked n b w m mask small h e =
    let word : b + 256 * w ≡ w * 2 ^ 8 + b = omega arith in
    let masks : m + 256 * mask ≡ mask * 2 ^ 8 + m = omega arith in
    let below = and_le_r b m in
    let low : (bit_and w mask * 2 ^ 8 + bit_and b m) % 256 ≡ bit_and b m = omega arith in
    let high : (bit_and w mask * 2 ^ 8 + bit_and b m) / 256 ≡ bit_and w mask = omega arith in
    rw (word, masks, and_block 8 w mask b m small h, low, high, e)

whole : (n b w mask : ℕ) {rest : List ℕ} → b < 256 → little_bytes n (bit_and w mask) ≡ rest
    → little_bytes (suc n) (bit_and (b + 256 * w) (0xFF + 256 * mask)) ≡ b ∷ rest
whole n b w mask {rest} small e =
    let same : b % 2 ^ 8 ≡ b = omega arith in
    masked n b w 0xFF mask small (omega arith) e ∙ ap (λ (x : ℕ). x ∷ rest) (and_mask b 8 ∙ same)

options-bytes : (options : List ℕ) → OctetField 4 options → little_bytes 4 (word_by options_kept (little options)) ≡ options_again options
options-bytes options p =
    let at : ℕ → ℕ = λ i. get_or options i 0 in
    let small : (i : ℕ) → get_or options i 0 < 256 = p.octets.small in
    subst (λ (b : List ℕ). little_bytes 4 (word_by options_kept (little b)) ≡ options_again b) (by_place 4 options p.size)
    (ap (little_bytes 4) (kept-options-mask (little (at 0 ∷ at 1 ∷ at 2 ∷ at 3 ∷ [])))
    ∙ masked 3 (at 0) (little (at 1 ∷ at 2 ∷ at 3 ∷ [])) 0x6A 0xFFFFFE (small 0) (omega arith)
    (masked 2 (at 1) (little (at 2 ∷ at 3 ∷ [])) 0xFE 0xFFFF (small 1) (omega arith)
    (whole 1 (at 2) (little (at 3 ∷ [])) 0xFF (small 2) (whole 0 (at 3) 0 0 (small 3) refl))))

word-bytes : (word : List ℕ) → OctetField 2 word → little_bytes 2 (word_by extended_kept (little word)) ≡ word_again word
word-bytes word p =
    let small : (i : ℕ) → get_or word i 0 < 256 = p.octets.small in
    subst (λ (b : List ℕ). little_bytes 2 (word_by extended_kept (little b)) ≡ word_again b) (by_place 2 word p.size)
    (ap (little_bytes 2) (kept-extended-mask (little (get_or word 0 0 ∷ get_or word 1 0 ∷ [])))
    ∙ masked 1 (get_or word 0 0) (little (get_or word 1 0 ∷ [])) 0x7F 0xFF (small 0) (omega arith) (whole 0 (get_or word 1 0) 0 0 (small 1) refl))

-- the dropped bit of the extended word announces nothing
record Announces (w : ℕ) : Type 0 where
  trigger : bits 0 1 (word_by extended_kept w) ≡ bits 0 1 w
  rlfc : bits 2 1 (word_by extended_kept w) ≡ bits 2 1 w
  stats : bits 5 1 (word_by extended_kept w) ≡ bits 5 1 w

announces : (w : ℕ) → Announces w
announces w = record { trigger = omega arith; rlfc = omega arith; stats = omega arith }

abbrev unicast_of : Unicast → List ℕ
unicast_of u =
    cond u.options.present
    (little_bytes 2 (cond u.ext.present 8 4) ++ options_bytes u.options.value ++ optional_bytes (little_bytes 4) u.ext)
    []

abbrev extended_out : Extended → List ℕ
extended_out x =
    cond x.flags.present
    (W.extended_bytes x.flags.value
    ++ optional_bytes (little_bytes 2) x.trigger
    ++ optional_bytes (little_bytes 4) x.rlfc
    ++ optional_bytes stats_bytes x.stats)
    []

-- what follows the length
abbrev behind_length : List ℕ → Bool → Reader (List ℕ)
behind_length length second = do
  options ← field 4
  ext ← when second [] (field 4)
  give (length ++ options_again options ++ ext)

unicast-bytes : (n : ℕ) {length options : List ℕ} (ext : List ℕ) → little_bytes 2 n ≡ length → OctetField 4 options
    → little_bytes 2 n ++ little_bytes 4 (word_by options_kept (little options)) ++ ext ≡ length ++ options_again options ++ ext
unicast-bytes n {length} {options} ext e p =
    ap (λ (b : List ℕ). b ++ little_bytes 4 (word_by options_kept (little options)) ++ ext) e
    ∙ ap (λ (b : List ℕ). length ++ b ++ ext) (options-bytes options p)

-- the addresses are written together
laid_out : (flags country channel bssid infra awdl unicast extended : List ℕ) {bytes : List ℕ} → flags ≡ bytes
    → flags ++ country ++ channel ++ (bssid ++ infra ++ awdl) ++ unicast ++ extended ≡ bytes ++ country ++ channel ++ bssid ++ infra ++ awdl ++ unicast ++ extended
laid_out flags country channel bssid infra awdl unicast extended e = rw (← e) (simp append_assoc)

module _ {s : List ℕ} (octets : Octets s) where
  country-again : Again s country (field 3) country_bytes
  country-again = again-end (again-bind (gives-field octets 3) λ bytes p. again-give (by_place 3 bytes p.size))

  channel-again : Again s channel_word channel_again channel_bytes
  channel-again = again-number octets 2 _ λ word p. again-give (channel-bytes word p)

  infra-again : Again s infra (field 8) infra_bytes
  infra-again =
      again-end (again-joined give 6 2 (address-again octets) λ bssid.
      again-step _ (number-again octets 2) λ channel. again-give refl)

  stats-again : Again s stats (field 12) stats_bytes
  stats-again =
      again-end (again-joined give 4 8 (number-again octets 4) λ msec.
      again-joined _ 4 4 (number-again octets 4) λ aw.
      again-step _ (number-again octets 4) λ pay. again-give refl)

  one_again : (length : List ℕ) → little_bytes 2 4 ≡ length → Again s (options_and false) (behind_length length false) unicast_of
  one_again length e =
      again-group (number 4) _ _ (again-number octets 4 _ λ options p. again-give (unicast-bytes 4 [] e p))

  two-again : (length : List ℕ) → little_bytes 2 8 ≡ length → Again s (options_and true) (behind_length length true) unicast_of
  two-again length e =
      again-group (number 4) _ _ (again-number octets 4 _ λ options p.
      again-group (number 4) _ _ (again-step _ (number-again octets 4) λ ext.
      again-give (unicast-bytes 8 (little_bytes 4 ext) e p)))

  lengths-again : (n : ℕ) (length : List ℕ) → little_bytes 2 n ≡ length → (four eight : Bool) → eqb n 4 ≡ four → eqb n 8 ≡ eight
      → Again s (cond four (options_and false) (cond eight (options_and true) (refuse UnicastLength)))
      (behind_length length eight) unicast_of
  lengths-again n length e true true p q = let four = eqb-true n 4 p in let eight = eqb-true n 8 q in absurd (omega arith)
  lengths-again n length e true false p q = one_again length (rw (eqb-true n 4 p) at e)
  lengths-again n length e false true p q = two-again length (rw (eqb-true n 8 q) at e)
  lengths-again n length e false false p q = record { of = λ r. absurd (never r) }

  unicast-again : Again s unicast unicast_again unicast_of
  unicast-again = again-number octets 2 _ λ length p.
      lengths-again (little length) length (number-field p) (eqb (little length) 4) (eqb (little length) 8) refl refl

  extended-again : Again s extended extended_again extended_out
  extended-again =
      again-group (number 2) (λ word. give (record { 0 = word_by extended_kept word })) extended_of
      (again-number octets 2 (λ word. extended_of (record { 0 = word_by extended_kept word })) λ word p.
      let a = announces (little word) in
      rw (a.trigger, a.rlfc, a.stats)
      (again-step _ (again-when (bit 0 (little word)) (there-again (number-again octets 2)) refl) λ trigger.
      again-step _ (again-when (bit 2 (little word)) (there-again (number-again octets 4)) refl) λ rlfc.
      again-step _ (again-when (bit 5 (little word)) (there-again stats-again) refl) λ stats.
      again-give (ap (λ (b : List ℕ). b ++ optional_bytes (little_bytes 2) trigger ++ optional_bytes (little_bytes 4) rlfc ++ optional_bytes stats_bytes stats) (word-bytes word p))))

  written : Again s data_path rewritten record_bytes
  unfolding record_bytes
  written =
      again-group (number 2) _ _ (again-number octets 2 _ λ flags p.
      let w : ℕ = little flags in
      again-optional (bit 8 w) no_country _ _ _ (there-again country-again) refl λ country.
      again-optional (bit 9 w) no_channel _ _ _ (there-again channel-again) refl λ channel.
      again-group (addresses w) _ _
      (again-optional (bit 0 w) no_infra _ _ _ (there-again infra-again) refl λ bssid.
      again-optional (bit 1 w) no_address _ _ _ (there-again (address-again octets)) refl λ infra.
      again-optional (bit 2 w) no_address _ _ _ (there-again (address-again octets)) refl λ awdl.
      again-optional (bit 12 w) no_unicast _ _ _ unicast-again refl λ unicast.
      again-optional (bit 15 w) no_extended _ _ _ extended-again refl λ extended.
      again-give (laid_out _ _ _ _ _ _ _ _ (number-field p))))

pub written-again : (s : List ℕ) → ((i : ℕ) → get_or s i 0 < 256) → (at : ℕ) {next : ℕ} {r : DataPathStateTLV} → data_path s at ≡ read r next
    → rewritten s at ≡ read (record_bytes r) next
written-again s small at e = (written {s = s} (record { small = small })).of {at = at} e
