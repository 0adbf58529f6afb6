-- The fields of a value stand one behind the other: the reader is put together of them, and the record keeps which of them are there.
-- Assumes nothing.
use Prim.Native.Nat.{ℕ}
use native.Mathlib.Omega.{arith}
use mathlib.Core.Path.{◌≡◌, refl, sym}
use mathlib.Core.Bool.{Bool, true, false}
use mathlib.Core.List.{List, [], ◌∷◌, ◌++◌, append_assoc, append-nil}
use lib.Dec.{eqb}
use lib.ListN.{get_or}
use Rattle.wire.specs.declared.refusal.Refusal.TheVariants.{UnicastLength}
use Rattle.wire.specs.Reading.{Reader, ◌>>=◌}
use Rattle.wire.specs.Numbers.{little, number, bit}
use Rattle.wire.specs.Addresses.{zero_address, address_of}
use Rattle.wire.specs.Words.{word_by}
use Rattle.wire.proofs.Gives.{Gives, gives-any, gives-give, gives-refuse, gives-bind, gives-cond}
use Rattle.wire.proofs.Laid.{Laid, laid-give, laid-refuse, laid_as, laid-bind, laid_kept, laid-last, laid-there, laid-three, laid-made, laid-field-on, laid-number, laid-when, laid-cond}
use Rattle.data_path_words.specs.declared.flags.DataPathExtendedFlags.{DataPathExtendedFlags}
use Rattle.data_path_words.specs.Words.{extended_kept, options_kept, channel_of, zero_channel, channel_word, options_word, extended_word, zero_stats, stats}
use Rattle.data_path_fields.specs.declared.optional.Optional.{Optional}
use Rattle.data_path_fields.specs.declared.read.Head.{Head}
use Rattle.data_path_fields.specs.declared.read.Addresses.{Addresses}
use Rattle.data_path_fields.specs.declared.read.Unicast.{Unicast}
use Rattle.data_path_fields.specs.declared.read.Extended.{Extended}
use Rattle.data_path_fields.specs.declared.read.Body.{Body}
use Rattle.data_path_fields.specs.Optional.{optional}
use Rattle.data_path_fields.specs.Fields.{zero_country, country, head, zero_infra, infra, addresses, no_unicast, options_and, unicast, no_extended, extended_of, extended, body}
use Rattle.data_path_state.proofs.Optionals.{optional-laid}
use Rattle.data_path_state.specs.declared.data_path_state_tlv.DataPathStateTLV.{DataPathStateTLV}
use Rattle.data_path_state.specs.DataPath.{record_of, data_path}
use Rattle.data_path_state.specs.FieldWidths.{there, field_widths}

-- a field that may be missing
abbrev where_there : {A : Type 0} → List ℕ → Optional A → List ℕ
where_there widths o = there o.present widths

-- each part of a record
abbrev pub head_widths : Head → List ℕ
head_widths h = 2 ∷ (where_there (3 ∷ []) h.country ++ where_there (2 ∷ []) h.channel)

abbrev pub addresses_widths : Addresses → List ℕ
addresses_widths a = where_there (6 ∷ 2 ∷ []) a.bssid ++ (where_there (6 ∷ []) a.infra ++ where_there (6 ∷ []) a.awdl)

abbrev pub unicast_widths : Unicast → List ℕ
unicast_widths u = there u.options.present (2 ∷ 4 ∷ []) ++ where_there (4 ∷ []) u.ext

abbrev pub announced_widths : Extended → List ℕ
announced_widths e = where_there (2 ∷ []) e.trigger ++ (where_there (4 ∷ []) e.rlfc ++ where_there (4 ∷ 4 ∷ 4 ∷ []) e.stats)

abbrev pub extended_widths : Extended → List ℕ
extended_widths e = there e.flags.present (2 ∷ []) ++ announced_widths e

abbrev pub body_widths : Body → List ℕ
body_widths b = addresses_widths b.addresses ++ (unicast_widths b.unicast ++ extended_widths b.extended)

country-laid : Laid country (λ c. 3 ∷ [])
country-laid = laid-made 3 (λ bytes. record { first = get_or bytes 0 0; second = get_or bytes 1 0; pad = get_or bytes 2 0 })

channel-laid : Laid channel_word (λ c. 2 ∷ [])
channel-laid = laid-there channel_of (laid-made 2 little) (λ word. refl)

infra-laid : Laid infra (λ i. 6 ∷ 2 ∷ [])
infra-laid = laid-field-on 6 address_of λ bssid. laid-number 2 λ channel. laid-give _ refl

options-laid : Laid options_word (λ o. 4 ∷ [])
options-laid = laid-there (λ word. record { 0 = word_by options_kept word }) (laid-made 4 little) (λ word. refl)

flags-laid : Laid extended_word (λ e. 2 ∷ [])
flags-laid = laid-there (λ word. record { 0 = word_by extended_kept word }) (laid-made 2 little) (λ word. refl)

stats-laid : Laid stats (λ s. 4 ∷ 4 ∷ 4 ∷ [])
stats-laid = laid-number 4 λ msec. laid-number 4 λ aw. laid-number 4 λ pay. laid-give _ refl

-- a part of known widths in front of others that do not tell of it
laid-on : {A B : Type 0} {m : Reader A} {f : A → Reader B} {widths : List ℕ} {w : B → List ℕ}
    → Laid m (λ a. widths) → ((a : A) → Laid (f a) w) → Laid (m >>= f) (λ b. widths ++ w b)
laid-on {m = m} lm lf = laid-bind _ lm (λ s. gives-any m) lf (λ s a q. record { of = λ e. refl })

-- and how they are put together: each field is kept by what is read behind it
pub head-laid : Laid head head_widths
head-laid =
    laid-number 2 λ flags.
    laid_kept (λ h. h.country) (optional-laid (bit 8 flags) zero_country country-laid)
    (λ country. laid-last _ (λ h. h.channel) (optional-laid (bit 9 flags) zero_channel channel-laid) (λ channel. refl))
    (λ s country. gives-bind (gives-any (optional (bit 9 flags) zero_channel channel_word)) λ channel _. gives-give _ refl)

addresses-laid : (flags : ℕ) → Laid (addresses flags) addresses_widths
addresses-laid flags =
    laid-three _ (λ a. a.bssid) (λ a. a.infra) (λ a. a.awdl) (optional-laid (bit 0 flags) zero_infra infra-laid)
    (optional-laid (bit 1 flags) zero_address (laid-made 6 address_of)) (optional-laid (bit 2 flags) zero_address (laid-made 6 address_of))
    (λ bssid infra awdl. (refl, refl, refl))

number-laid : (b : Bool) (n : ℕ) → Laid (optional b 0 (number n)) (λ o. there o.present (n ∷ []))
number-laid b n = optional-laid b 0 (laid-made n little)

options-and-laid : (second : Bool) → Laid (options_and second) (λ u. 4 ∷ where_there (4 ∷ []) u.ext)
options-and-laid second = laid-on options-laid λ options. laid-last _ (λ u. u.ext) (number-laid second 4) (λ ext. refl)

options-given : {s : List ℕ} (second : Bool) → Gives s (options_and second) (λ u. unicast_widths u ≡ 2 ∷ 4 ∷ where_there (4 ∷ []) u.ext)
options-given second = gives-bind (gives-any options_word) λ options _. gives-bind (gives-any (optional second 0 (number 4))) λ ext _. gives-give _ refl

unicast-laid : Laid unicast unicast_widths
unicast-laid =
    laid_as _
    (laid-number 2 λ length. laid-cond (eqb length 4) (options-and-laid false) (laid-cond (eqb length 8) (options-and-laid true) (laid-refuse UnicastLength (λ e. omega arith))))
    λ s. gives-bind (gives-any (number 2)) λ length _. gives-cond (eqb length 4) (options-given false) (gives-cond (eqb length 8) (options-given true) (gives-refuse UnicastLength))

announced-laid : (flags : DataPathExtendedFlags) → Laid (extended_of flags) announced_widths
announced-laid flags =
    laid-three _ (λ e. e.trigger) (λ e. e.rlfc) (λ e. e.stats) (number-laid (bit 0 flags.0) 2) (number-laid (bit 2 flags.0) 4)
    (optional-laid (bit 5 flags.0) zero_stats stats-laid) (λ trigger rlfc stats. (refl, refl, refl))

extended-laid : Laid extended extended_widths
extended-laid =
    laid_as _ (laid-on flags-laid announced-laid) λ s.
    gives-bind (gives-any extended_word) λ flags _.
    gives-bind (gives-any (optional (bit 0 flags.0) 0 (number 2))) λ trigger _.
    gives-bind (gives-any (optional (bit 2 flags.0) 0 (number 4))) λ rlfc _.
    gives-bind (gives-any (optional (bit 5 flags.0) zero_stats stats)) λ stats _. gives-give _ refl

pub body-laid : (flags : ℕ) → Laid (body flags) body_widths
body-laid flags =
    laid-three _ (λ b. b.addresses) (λ b. b.unicast) (λ b. b.extended) (addresses-laid flags) (laid-when (bit 12 flags) no_unicast refl unicast-laid)
    (laid-when (bit 15 flags) no_extended refl extended-laid) (λ addresses unicast extended. (refl, refl, refl))

-- the same by the record
abbrev behind_head : DataPathStateTLV → List ℕ
behind_head r =
    (where_there (6 ∷ 2 ∷ []) r.infra_bssid_channel ++ (where_there (6 ∷ []) r.infra_address ++ where_there (6 ∷ []) r.awdl_address))
    ++ ((there r.unicast_options.present (2 ∷ 4 ∷ []) ++ where_there (4 ∷ []) r.unicast_options_ext)
    ++ (there r.extended_flags.present (2 ∷ []) ++ (where_there (2 ∷ []) r.log_trigger_id ++ (where_there (4 ∷ []) r.rlfc ++ where_there (4 ∷ 4 ∷ 4 ∷ []) r.stats))))

lists-grouped : (a b c d e f g h i j k l : List ℕ)
    → a ++ b ++ c ++ d ++ e ++ f ++ g ++ h ++ i ++ j ++ k ++ l ≡ (a ++ (b ++ c)) ++ ((d ++ (e ++ f)) ++ ((g ++ h) ++ (i ++ (j ++ (k ++ l)))))
lists-grouped a b c d e f g h i j k l = simp append_assoc

regrouped : (h : Head) (b : Body) → field_widths (record_of h b) ≡ head_widths h ++ behind_head (record_of h b)
unfolding field_widths
regrouped h b =
    let a = b.addresses in
    let u = b.unicast in
    let e = b.extended in
    lists-grouped (2 ∷ []) (where_there (3 ∷ []) h.country) (where_there (2 ∷ []) h.channel) (where_there (6 ∷ 2 ∷ []) a.bssid) (where_there (6 ∷ []) a.infra) (where_there (6 ∷ []) a.awdl)
    (there u.options.present (2 ∷ 4 ∷ [])) (where_there (4 ∷ []) u.ext) (there e.flags.present (2 ∷ [])) (where_there (2 ∷ []) e.trigger) (where_there (4 ∷ []) e.rlfc)
    (where_there (4 ∷ 4 ∷ 4 ∷ []) e.stats)

pub data-path-laid : Laid data_path field_widths
data-path-laid =
    laid-bind _ head-laid (λ s. gives-any head)
    (λ h. laid-bind {u = λ b r. []} behind_head (body-laid h.flags) (λ s. gives-any (body h.flags)) (λ b. laid-give (record_of h b) refl)
    (λ s b _. gives-give (record_of h b) (sym (append-nil (body_widths b)))))
    (λ s h _. gives-bind (gives-any (body h.flags)) λ b _. gives-give (record_of h b) (regrouped h b))
