-- What stands at a place of the walk is what its step finds, by the two tests on the way there; at a place that is none, there is no line.
-- Assumes nothing.
use Prim.Native.Nat.{ℕ, ◌≤◌, ◌<◌}
use mathlib.Core.Path.{◌≡◌}
use mathlib.Core.List.{List}
use lib.ListN.{length}
use borrow.Author.Tests.{le-leb, lt-leb}
use Rattle.std.specs.Prelude.{None}
use Rattle.tlv_items.specs.declared.item.Step.{Step}
use Rattle.tlv_items.specs.Items.{step_at}
use Rattle.report.specs.Marks.{Stand, nothing, at_step, at_place}
use Rattle.report.specs.Shown.{Shows}

pub no_line : {s : List ℕ} {stand : Stand} → stand ≡ nothing → Shows s stand None s
no_line e = record { answer = rw e; buffer = rw e }

module _ (tail : List ℕ) (at items : ℕ) where
  pub too_many : at < items → at_place tail at items ≡ nothing
  too_many h = rw (lt-leb items at h)

  pub past_end : items ≤ at → length tail < at → at_place tail at items ≡ nothing
  past_end h k = rw (le-leb items at h, lt-leb at (length tail) k)

  pub steps-to : {f : Step} → items ≤ at → at ≤ length tail → step_at tail at ≡ f → at_place tail at items ≡ at_step items f
  steps-to h k e = rw (le-leb items at h, le-leb at (length tail) k, e)
