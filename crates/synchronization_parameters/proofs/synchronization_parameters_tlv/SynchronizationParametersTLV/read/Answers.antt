-- Where 33 bytes stand, each field is at its place in front of the sequence that was read, or what refuses the sequence refuses the record; where they do
-- not, the first field that is short does. Assumes nothing.
use Rattle.std.proofs.Common.{ℕ, ap, sym, ◌∙◌, arith}
use Rattle.wire.specs.declared.refusal.Refusal.TheVariants.{Short}
use Rattle.wire.specs.Reading.{refused}
use Rattle.synchronization_parameters.proofs.Whole.{all_words, refused_within, fixed-short}
use Rattle.synchronization_parameters.proofs.synchronization_parameters_tlv.SynchronizationParametersTLV.read.Goals as goal

pub returns-in-Ok : goal.returns-in-Ok
returns-in-Ok c =
    sym (all_words c.args.s.now (omega arith) (sym c.in-Ok.ensures)
    c.word.ensures c.word-in-Ok.ensures
    c.word-in-Ok-2.ensures c.word-in-Ok-3.ensures c.word-in-Ok-4.ensures
    c.word-in-Ok-5.ensures c.word-in-Ok-6.ensures
    c.word-in-Ok-7.ensures c.word-in-Ok-8.ensures)

pub returns-then-s-lt-FIXED_SIZE : goal.returns-then-s-lt-FIXED_SIZE
returns-then-s-lt-FIXED_SIZE c =
    ap (λ (p : ℕ). refused (Short p)) c.first_short.ensures ∙ sym (fixed-short c.args.s.now (omega arith))

pub returns-in-Err : goal.returns-in-Err
returns-in-Err c = sym (refused_within c.args.s.now (omega arith) (sym c.in-Err.ensures))
