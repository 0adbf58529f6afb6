-- Numbers that fit are a record, with six bytes in front of its sequence.
-- Assumes nothing.
use Rattle.std.proofs.Common.{◌≡◌, refl, sym, arith, take, drop, length, length-drop, rules}
use Rattle.std.proofs.lemmas.Result.{err_from_is_err_and}
use lib.Seq.{take_all}
use Rattle.wire.proofs.Stores.{length-behind}
use Rattle.channel_sequence.specs.Sequences as Q
use Rattle.channel_sequence_tlv.specs.SequenceTLVs.{head_bytes}
use Rattle.exports.specs.Sequences.{sequence_of, channel_sequence_of}
use Rattle.exports.proofs.channel_sequence_calls.channel_sequence_told.Goals as goal

pub returns-in_err-written_size : goal.returns-in_err-written_size
returns-in_err-written_size c =
    let p = err_from_is_err_and c.from_residual-in_err-written_size.result c.from_residual-in_err-written_size.ensures.1 in
    let ns = c.args.numbers.now in
    let long : length ns ≡ 36 = search rules in
    let all : take 33 (drop 3 ns) ≡ drop 3 ns = take_all 33 (drop 3 ns) (simp length-drop (omega arith)) in
    let entries = Q.bytes_of (sequence_of (drop 3 ns)) in
    let told = rw all at c.in_err-written_size.ensures in
    rw (p.1, p.2, ← c.in_ok-fit.ensures) (rw (length-behind (head_bytes (channel_sequence_of ns)) entries (sym told)) refl)

pub returns : goal.returns
returns c =
    let ns = c.args.numbers.now in
    let long : length ns ≡ 36 = search rules in
    let all : take 33 (drop 3 ns) ≡ drop 3 ns = take_all 33 (drop 3 ns) (simp length-drop (omega arith)) in
    let entries = Q.bytes_of (sequence_of (drop 3 ns)) in
    let told = rw all at c.in_ok-written_size.ensures in
    rw (← c.in_ok-fit.ensures) (rw (length-behind (head_bytes (channel_sequence_of ns)) entries (sym told)) refl)
