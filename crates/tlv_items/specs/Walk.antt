-- The walk over a tail. Its places count from the tail's start.
use Rattle.std.specs.Prelude.{ℕ, zero, suc, ◌-◌, List, [], ◌∷◌, ◌≡◌, length}
use Rattle.tlv_items.specs.declared.item.Item.{Item}
use Rattle.tlv_items.specs.declared.item.Step.{Step}
use Rattle.tlv_items.specs.Items.{step_at}

-- what a walk gives: its items in order, and how it ends
pub data Ending : Type 0 where
  whole : Ending
  cut : ℕ → Ending

pub record Walk : Type 0 where
  pub items : List Item
  pub ending : Ending

-- an item, and then what the walk gives from the place behind its value; or the end
abbrev pub go_on : Step → (ℕ → Walk) → Walk
go_on (Step.Item it next) rest = record { items = it ∷ (rest next).items; ending = (rest next).ending }
go_on Step.Whole rest = record { items = []; ending = whole }
go_on (Step.Cut at) rest = record { items = []; ending = cut at }

-- the walk from a place, in so many steps at most; that they are enough is the law `gives-walk`
unfoldable pub walk_from : ℕ → List ℕ → ℕ → Walk
walk_from zero tail at = record { items = []; ending = cut at }
walk_from (suc steps) tail at = go_on (step_at tail at) (walk_from steps tail)

-- no step but the last one stays where it is, so that one more than there are bytes left is always enough
abbrev pub walk_at : List ℕ → ℕ → Walk
walk_at tail at = walk_from (suc (length tail - at)) tail at

abbrev pub walk : List ℕ → Walk
walk tail = walk_at tail 0

-- the items that a caller is given who asks at a place and goes on behind each item until there is none, and how it ends
pub data GivesItems (tail : List ℕ) : ℕ → List Item → Ending → Type 0 where
  ends_whole : {at : ℕ} → step_at tail at ≡ Step.Whole → GivesItems tail at [] whole
  ends_cut : {at place : ℕ} → step_at tail at ≡ Step.Cut place → GivesItems tail at [] (cut place)
  gives_item : {at next : ℕ} {it : Item} {rest : List Item} {ending : Ending} → step_at tail at ≡ Step.Item it next
      → GivesItems tail next rest ending → GivesItems tail at (it ∷ rest) ending

-- the end report: how many items the walk's list has, and how the walk ends
pub record EndReport : Type 0 where
  pub count : ℕ
  pub ending : Ending

abbrev pub end_report : Walk → EndReport
end_report w = record { count = length w.items; ending = w.ending }
