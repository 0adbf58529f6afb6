-- Behind the tests of the list the loads decide: none is below the proposal where our own is not.
-- Assumes nothing.
use Rattle.std.proofs.Common.{◌≡◌, ℕ, true, length, sym, ap, ◌∙◌, arith}
use borrow.Author.Tests.{le-leb}
use Rattle.wire.specs.declared.refusal.Refusal.TheVariants.{SmallerLoad}
use Rattle.wire.specs.Answer.{Answer, refusal}
use Rattle.channel_judge.specs.Counters.{load_by}
use Rattle.channel_judge.specs.Judging.{is_permitted}
use Rattle.channel_judge.proofs.Least.{permitted-any, proposed-own, own_below, own-not-below}
use Rattle.channel_judge.proofs.loads.Loads.judge.Goals as goal

abbrev shown : ℕ → Answer (Unit {0})
shown own = refusal (SmallerLoad own)

pub returns-then-of_channel : goal.returns-then-of_channel
returns-then-of_channel c =
    let a = c.args in
    let load_of = load_by a.self.now in
    let found = proposed-own load_of a.permitted.now c.in_ok-own.ensures in
    let here : is_permitted a.proposal a.permitted.now ≡ true = sym (permitted-any a.proposal a.permitted.now) ∙ sym c.contains.ensures.value ∙ c.if-not-contains.false in
    let below = own_below load_of a.permitted.now found.0 a.proposal c.in_ok-own.own found.1 (omega arith) in
    rw (le-leb 1 (length a.permitted.now) (omega arith), here, below) (ap shown found.1)

pub returns : goal.returns
returns c =
    let a = c.args in
    let load_of = load_by a.self.now in
    let found = proposed-own load_of a.permitted.now c.in_ok-own.ensures in
    let here : is_permitted a.proposal a.permitted.now ≡ true = sym (permitted-any a.proposal a.permitted.now) ∙ sym c.contains.ensures.value ∙ c.if-not-contains.false in
    let least = own-not-below load_of a.permitted.now found.0 a.proposal c.in_ok-own.own found.1 (omega arith) in
    rw (le-leb 1 (length a.permitted.now) (omega arith), here, least)
