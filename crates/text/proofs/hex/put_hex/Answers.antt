-- Each turn stores the two digits of one byte more.
-- Assumes nothing.
use Rattle.std.proofs.Common.{◌*◌, length, sym, refl, ◌∙◌, arith}
use Rattle.text.specs.Text.{hex}
use Rattle.text.proofs.Halves.{length-hex, high_digit, low_digit}
use Rattle.text.proofs.Begun.{begin, go_on}
use Rattle.text.proofs.Pasting.{no-room, some-room, put-past}
use Rattle.text.proofs.hex.put_hex.Goals as goal

pub returns-then-is_err : goal.returns-then-is_err
returns-then-is_err c =
    let past = no-room (2 * length c.args.bytes.now) c.args.buf.now c.args.at c.field_at.result c.field_at.ensures c.if-is_err.ensures.value in
    let many = length-hex c.args.bytes.now in
    put-past c.args.buf.now c.args.at (hex c.args.bytes.now) (omega arith)

pub loop-i-init : goal.loop-i-init
loop-i-init c =
    let room = some-room (2 * length c.args.bytes.now) c.args.buf.now c.args.at c.field_at.result c.field_at.ensures c.if-is_err.ensures.value in
    begin c.args.buf.now c.args.at (hex c.args.bytes.now) (length-hex c.args.bytes.now) room

pub loop-i-preserved : goal.loop-i-preserved
loop-i-preserved c =
    let bytes = c.args.bytes.now in
    let i = c.loop-i.i in
    let high = c.high_digit.ensures ∙ sym (high_digit bytes i (omega arith)) in
    let low = c.low_digit.ensures ∙ sym (low_digit bytes i (omega arith)) in
    go_on (go_on c.loop-i.invariant (omega arith) high refl refl) (omega arith) low (omega arith) (omega arith)
