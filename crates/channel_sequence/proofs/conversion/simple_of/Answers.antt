-- Nothing has been passed at the start; a turn corrects one entry; and behind the last all have been.
-- Assumes nothing.
use Rattle.std.proofs.Common.{◌≡◌, length, refl, sym, ◌∙◌, arith, rules}
use lib.ListN.{replicate}
use lib.Seq.{drop-set-lt}
use Rattle.channel_sequence.proofs.Corrections.{none_so_far, one_further, all-so-far}
use Rattle.channel_sequence.proofs.Entries.{padded-half}
use Rattle.channel_sequence.proofs.conversion.simple_of.Goals as goal

pub loop-i-init : goal.loop-i-init
loop-i-init c = (refl, none_so_far c.args.entries.now (replicate 32 0))

pub loop-i-preserved : goal.loop-i-preserved
loop-i-preserved c =
    let entries = c.args.entries.now in
    let bytes = c.loop-i.bytes in
    let whole : length bytes ≡ 32 = search rules in
    let i = c.loop-i.i in (
      drop-set-lt 16 bytes i _ (omega arith) ∙ c.loop-i.invariant.0,
      one_further entries i bytes (omega arith) c.loop-i.invariant.1 (omega arith) (sym c.in_ok-bytes.ensures),
    )

pub returns : goal.returns
returns c =
    let inv = c.loop-i.invariant in
    let entries = c.args.entries.now in
    let bytes = c.loop-i.bytes in
    let whole : length bytes ≡ 32 = search rules in
    let many : length entries ≡ 32 = search rules in
    let done : c.loop-i.i ≡ 16 = omega arith in
    rw (all-so-far entries bytes many (rw done at inv.1), padded-half bytes whole inv.0)
