-- Each turn puts the byte of one pair more.
-- Assumes nothing.
use Rattle.std.proofs.Common.{◌/◌, length, sym, ◌∙◌, arith}
use Rattle.std.specs.Slice.Iter.{chunks_exact_rest}
use Rattle.text.proofs.Pasting.{no-room, some-room, pasting-past, pasting-none, first-of, pasting-more, pasting-all}
use Rattle.text.proofs.hex.hex_into.Goals as goal

pub returns-then-is_err : goal.returns-then-is_err
returns-then-is_err c =
    let word = c.args.word.now in
    let past = no-room (length word / 2) c.args.buf.now c.args.at c.field_at.result c.field_at.ensures c.if-is_err.ensures.value in
    pasting-past word c.args.buf.now c.args.at c.if-not-is_hex.ensures past

pub loop-pair-init : goal.loop-pair-init
loop-pair-init c =
    let word = c.args.word.now in
    let room = some-room (length word / 2) c.args.buf.now c.args.at c.field_at.result c.field_at.ensures c.if-is_err.ensures.value in
    let items = c.chunks_exact-pair-items.ensures in
    rw c.into_iter-pair-iterator.ensures.into_iter_gives
    (items.size, rw items.rest (pasting-none word c.args.buf.now c.args.at c.if-not-is_hex.ensures room))

pub unwrap-byte-requires : goal.unwrap-byte-requires
unwrap-byte-requires c =
    let steps = c.in-Some.ensures.steps in
    let h = first-of c.loop-pair.invariant.1 c.in-Some.pair.now (chunks_exact_rest c.next.new.self) steps.1.0 (steps.1.1 ∙ c.loop-pair.invariant.0) in
    rw (c.byte_of.ensures, h.first)

pub loop-pair-preserved : goal.loop-pair-preserved
loop-pair-preserved c =
    let steps = c.in-Some.ensures.steps in (
      steps.0 ∙ c.loop-pair.invariant.0,
      pasting-more c.loop-pair.invariant.1 c.in-Some.pair.now (chunks_exact_rest c.next.new.self) steps.1.0 (steps.1.1 ∙ c.loop-pair.invariant.0) (sym c.byte_of.ensures ∙ c.unwrap-byte.ensures) c.put_slice-place.ensures,
    )

pub returns : goal.returns
returns c = pasting-all c.loop-pair.invariant.1 (omega (arith, c.in-None.ensures.steps.1.0))
