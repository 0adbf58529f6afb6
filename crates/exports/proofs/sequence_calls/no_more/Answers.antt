-- The chain folds the numbers from the front, and so does `all_zero`.
-- Assumes nothing.
use Rattle.std.proofs.Common.{rules, tests, ◌∙◌, true}
use Rattle.std.proofs.lemmas.Iterator.{YieldsList-from_slice}
use Rattle.std.proofs.lemmas.Iterator.Consumers.{fold_from_yields_List}
use Rattle.exports.proofs.Sequences.{zero_also, fold-zero}
use Rattle.exports.proofs.sequence_calls.no_more.Goals as goal

pub returns : goal.returns
returns c =
    let ns = c.args.numbers.now in
    fold_from_yields_List _ zero_also true c.fold.result c.fold.ensures.ran (YieldsList-from_slice ns (cc)) (λ a x b q k. search (rules, tests))
    ∙ fold-zero true ns
