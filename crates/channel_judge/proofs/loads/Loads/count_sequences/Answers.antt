-- A turn counts the next sequence, or ends at its encoding; no counter passes the number of entries of 64 sequences.
-- Assumes nothing.
use Rattle.std.proofs.Common.{◌≡◌, ◌∙◌, arith}
use Rattle.std.specs.Slice.Iter.{chunks_exact_rest, chunks_exact_size}
use Rattle.std.proofs.lemmas.Result.{err_from_is_err_and}
use Rattle.channel_judge.proofs.Counters.{behind_first, passing-begun, passed-on, passed-unlisted, passing-bounded}
use Rattle.channel_judge.proofs.loads.Loads.count_sequences.Goals as goal

pub loop-sequence-init : goal.loop-sequence-init
loop-sequence-init c =
    let same = c.into_iter-sequence-iterator.ensures in
    let size : chunks_exact_size c.into_iter-sequence-iterator.result ≡ 33 = cc in
    let rest : chunks_exact_rest c.into_iter-sequence-iterator.result ≡ c.args.sequences.now = cc in
    (omega arith, tt, size, passing-begun _ rest (λ channel. omega (arith, c.requires.at_most channel)))

pub returns-in_err-encoding : goal.returns-in_err-encoding
returns-in_err-encoding c =
    let p = err_from_is_err_and c.from_residual.result c.from_residual.ensures.1 in
    let st = c.in-Some.ensures.steps in
    let turn = c.loop-sequence.invariant in
    rw (p.1, p.2) (passed-unlisted c.in-Some.sequence.now (chunks_exact_rest c.next.new.self) turn.3 st.1.0 (st.1.1 ∙ turn.2) c.in_err-encoding.ensures)

pub count_sequence-requires-clause-at_most : goal.count_sequence-requires-clause-at_most
count_sequence-requires-clause-at_most c = passing-bounded c.loop-sequence.invariant.3 c.requires.few

pub loop-sequence-preserved : goal.loop-sequence-preserved
loop-sequence-preserved c =
    let st = c.in-Some.ensures.steps in
    let turn = c.loop-sequence.invariant in
    let size : chunks_exact_size c.next.new.self ≡ 33 = st.0 ∙ turn.2 in
    let long = st.1.1 ∙ turn.2 in
    let next = passed-on c.in-Some.sequence.now (chunks_exact_rest c.next.new.self) _ turn.3 st.1.0 long c.in_ok-encoding.ensures (behind_first c.in-Some.sequence.now) c.count_sequence.ensures in
    (omega arith, tt, size, next)
