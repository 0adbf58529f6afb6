-- The numbers of the fixed part are those of the record that is read.
-- Assumes nothing.
use Rattle.std.proofs.Common.{[], ◌∷◌, ◌++◌, ap, ◌∙◌, arith, take}
use lib.ListN.{drop_of_length-le}
use lib.Seq.{sets-eq}
use Rattle.synchronization_parameters.proofs.Whole.{fields-and-channels}
use Rattle.exports.specs.Synchronizations.{synchronization_numbers}
use Rattle.exports.proofs.synchronization_calls.put_fixed.Goals as goal

pub returns : goal.returns
returns c p next e =
    let ns = c.args.numbers.now in
    let values = c.from.result ∷ c.word_at.result ∷ c.from-2.result ∷ c.from-3.result ∷ c.word_at-2.result ∷ c.word_at-3.result ∷ c.word_at-4.result ∷ c.word_at-5.result ∷ c.word_at-6.result ∷ c.word_at-7.result ∷ c.from-4.result ∷ c.from-5.result ∷ c.from-6.result ∷ c.from-7.result ∷ c.from-8.result ∷ c.from-9.result ∷ c.from-10.result ∷ c.from-11.result ∷ c.from-12.result ∷ c.from-13.result ∷ c.from-14.result ∷ c.from-15.result ∷ c.word_at-8.result ∷ c.word_at-9.result ∷ [] in
    sets-eq values ns 0 (omega arith)
    ∙ ap (λ rest. values ++ rest) (drop_of_length-le ns {i = 24} (omega arith))
    ∙ (λ i. c.from.ensures i ∷ c.word_at.ensures i ∷ c.from-2.ensures i ∷ c.from-3.ensures i ∷ c.word_at-2.ensures i ∷ c.word_at-3.ensures i ∷ c.word_at-4.ensures i ∷ c.word_at-5.ensures i ∷ c.word_at-6.ensures i ∷ c.word_at-7.ensures i ∷ c.from-4.ensures i ∷ c.from-5.ensures i ∷ c.from-6.ensures i ∷ c.from-7.ensures i ∷ c.from-8.ensures i ∷ c.from-9.ensures i ∷ c.from-10.ensures i ∷ c.from-11.ensures i ∷ c.from-12.ensures i ∷ c.from-13.ensures i ∷ c.from-14.ensures i ∷ c.from-15.ensures i ∷ c.word_at-8.ensures i ∷ c.word_at-9.ensures i ∷ [])
    ∙ ap (λ r. take 24 (synchronization_numbers r)) (fields-and-channels c.args.s.now e).made
