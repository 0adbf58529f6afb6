-- A field that may be missing, mended, read and put by its presence: by cases on that presence, once for all kinds of field.
-- Assumes nothing.
use Prim.Native.Nat.{ℕ}
use borrow.Author.Tests.{eqb-true}
use lib.Dec.{eqb}
use mathlib.Core.Bool.{Bool, true, false, cond, and-eq-true_iff, false≢true}
use mathlib.Core.List.{List, [], ◌∷◌}
use mathlib.Core.Path.{◌≡◌, refl, sym, ap, subst}
use Rattle.wire.specs.declared.value.MACAddress.{MACAddress}
use Rattle.wire.specs.Addresses.{zero_address, address_bytes}
use Rattle.wire.specs.Reading.{Reader}
use Rattle.wire.proofs.Tests.{other}
use Rattle.wire.proofs.Gives.{Gives, gives-bind, gives-give, gives-when}
use Rattle.wire.proofs.ReadsBack.{Back, made-back, when-back}
use Rattle.wire.proofs.Laid.{Laid, laid-there, laid-when}
use Rattle.wire.proofs.Again.{Again, again-made}
use Rattle.data_path_words.specs.declared.flags.DataPathExtendedFlags.{DataPathExtendedFlags}
use Rattle.data_path_words.specs.declared.misc.DataPathChannel.{DataPathChannel}
use Rattle.data_path_words.specs.Words.{zero_channel, zero_options, zero_extended_flags, zero_stats}
use Rattle.data_path_fields.specs.declared.optional.Optional.{Optional}
use Rattle.data_path_fields.specs.Optional.{some, none, optional, optional_bytes, mended, absent_zero}
use Rattle.data_path_fields.specs.Optional as F
use Rattle.data_path_fields.specs.Fields.{zero_country, zero_infra}
use Rattle.data_path_state.specs.FieldWidths.{there}
use Rattle.data_path_state.specs.Consistent.{is_zero_country, is_zero_channel, is_zero_infra, is_zero_address, is_zero_options, is_zero_extended, is_zero, is_zero_stats}
use Rattle.data_path_state.proofs.Facts.{each-zero}

-- a value of either case passes a test that both cases pass
pub passes : {A : Type 0} (test : A → Bool) (b : Bool) (x absent : A)
    → (b ≡ true → test x ≡ true) → test absent ≡ true → test (cond b x absent) ≡ true
passes test true x absent h n = h refl
passes test false x absent h n = n

-- a test that the zero of a kind passes, and nothing else
pub record Zero {A : Type 0} (zero : A) (test : A → Bool) : Type 0 where
  pub itself : test zero ≡ true
  pub only : (x : A) → test x ≡ true → x ≡ zero

there-case : {A : Type 0} (zero : A) (b : Bool) (o : Optional A) → o.present ≡ b → (cond b o (none zero)).present ≡ b
there-case zero true o e = e
there-case zero false o e = refl

pub mend-there : {A : Type 0} (zero : A) (o : Optional A) → (mended zero o).present ≡ o.present
mend-there zero o = there-case zero o.present o refl

module _ {A : Type 0} {zero : A} {test : A → Bool} (z : Zero zero test) where
  pub mend-sound : (o : Optional A) → absent_zero test (mended zero o) ≡ true
  mend-sound o = passes (absent_zero test) o.present o (none zero) (λ e. rw e) z.itself

  pub gone : (o : Optional A) → absent_zero test o ≡ true → o.present ≡ false → o ≡ none zero
  gone o t e = let same = z.only o.value (other o.present (test o.value) t e) in λ i. record { present = e i; value = same i }

  same_case : (b : Bool) (o : Optional A) → o.present ≡ b → absent_zero test o ≡ true → cond b o (none zero) ≡ o
  same_case true o e t = refl
  same_case false o e t = sym (gone o t e)

  pub mend-same : (o : Optional A) → absent_zero test o ≡ true → mended zero o ≡ o
  mend-same o t = same_case o.present o refl t

  -- what is read is there as it was announced, zero where it was not, and such as its reader gives
  pub optional-gives : {s : List ℕ} {format : Reader A} {P : A → Type 0} (b : Bool) → Gives s format P → P zero
      → Gives s (optional b zero format) (λ o. (b ≡ o.present) × (absent_zero test o ≡ true) × P o.value)
  optional-gives b h p = gives-when b (none zero) (λ e. gives-bind h λ a q. gives-give (some a) (e, refl, q)) (λ e. (e, z.itself, p))

-- a field that is announced as it is there is read back
pub optional-back : {A : Type 0} {format : Reader A} {bytes : List ℕ} (zero : A) (o : Optional A)
    → Back format bytes o.value → (o.present ≡ false → o ≡ none zero) → Back (optional o.present zero format) (cond o.present bytes []) o
optional-back {format = format} {bytes = bytes} zero o h =
    when-back o.present (none zero)
    (λ p. subst (λ x. Back (F.there format) bytes x) (λ i. record { present = sym p i; value = o.value }) (made-back some h))

pub there-again : {A : Type 0} {s : List ℕ} {format : Reader A} {c : Reader (List ℕ)} {bytes : A → List ℕ}
    → Again s format c bytes → Again s (F.there format) c (optional_bytes bytes)
there-again h = again-made some h (λ a. refl)

pub there-gives : {A : Type 0} {s : List ℕ} {format : Reader A} {P : A → Type 0} → Gives s format P → Gives s (F.there format) (λ o. P o.value)
there-gives h = gives-bind h λ a p. gives-give (some a) p

pub optional-laid : {A : Type 0} {format : Reader A} {widths : List ℕ} (b : Bool) (zero : A)
    → Laid format (λ a. widths) → Laid (optional b zero format) (λ o. there o.present widths)
optional-laid b zero l = laid-when b (none zero) refl (laid-there some l (λ a. refl))

-- the zeros
pub country-zero : Zero zero_country is_zero_country
country-zero =
    record {
      itself = refl;
      only = λ c z. let n = each-zero (c.first ∷ c.second ∷ c.pad ∷ []) z in λ i. record { first = n 0 i; second = n 1 i; pad = n 2 i };
    }

only-zero-channel : (c : DataPathChannel) → is_zero_channel c ≡ true → c ≡ zero_channel
only-zero-channel (DataPathChannel.SingleChannel n) z = ap DataPathChannel.SingleChannel (eqb-true n 0 z)
only-zero-channel (DataPathChannel.ChannelMap map) z = absurd (false≢true z)

pub channel-zero : Zero zero_channel is_zero_channel
channel-zero = record { itself = refl; only = only-zero-channel }

pub only-zero-address : (a : MACAddress) → is_zero_address a ≡ true → a ≡ zero_address
only-zero-address a z =
    let n = each-zero (address_bytes a) z in
    λ i. record { 0 = n 0 i; 1 = n 1 i; 2 = n 2 i; 3 = n 3 i; 4 = n 4 i; 5 = n 5 i }

pub address-zero : Zero zero_address is_zero_address
address-zero = record { itself = refl; only = only-zero-address }

pub infra-zero : Zero zero_infra is_zero_infra
infra-zero =
    record {
      itself = refl;
      only = λ b z. let t = (and-eq-true_iff (is_zero_address b.bssid) (eqb b.channel 0)).0 z in
          λ i. record { bssid = only-zero-address b.bssid t.0 i; channel = eqb-true b.channel 0 t.1 i };
    }

pub number-zero : Zero 0 is_zero
number-zero = record { itself = refl; only = λ n z. eqb-true n 0 z }

pub options-zero : Zero zero_options is_zero_options
options-zero = record { itself = refl; only = λ o z. λ i. record { 0 = eqb-true o.0 0 z i } }

pub extended-zero : Zero zero_extended_flags is_zero_extended
extended-zero = record { itself = refl; only = λ e z. λ i. record { 0 = eqb-true e.0 0 z i } }

pub stats-zero : Zero zero_stats is_zero_stats
stats-zero =
    record {
      itself = refl;
      only = λ s z. let n = each-zero (s.msec_since_activation ∷ s.aw_seq_counter ∷ s.pay_update_coutner ∷ []) z in
          λ i. record { msec_since_activation = n 0 i; aw_seq_counter = n 1 i; pay_update_coutner = n 2 i };
    }

-- the word that mending leaves of the extended flags
word_case : (b : Bool) (e : Optional DataPathExtendedFlags) → (cond b e (none zero_extended_flags)).value.0 ≡ cond b e.value.0 0
word_case true e = refl
word_case false e = refl

pub mended-word : (e : Optional DataPathExtendedFlags) → (mended zero_extended_flags e).value.0 ≡ cond e.present e.value.0 0
mended-word e = word_case e.present e
