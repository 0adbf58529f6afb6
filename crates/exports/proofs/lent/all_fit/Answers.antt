-- The chain folds the pairs from the front, and so does `fits`.
-- Assumes nothing.
use Rattle.std.proofs.Common.{rules, tests, ◌∙◌, true}
use Rattle.std.proofs.lemmas.Iterator.{YieldsList-from_slice, YieldsList-from_zip}
use Rattle.std.proofs.lemmas.Iterator.Consumers.{fold_from_yields_List}
use Rattle.exports.proofs.Fits.{fit_also, fold-fits}
use Rattle.exports.proofs.lent.all_fit.Goals as goal

pub returns : goal.returns
returns c =
    let ns = c.args.numbers.now in
    let ms = c.args.largest.now in
    fold_from_yields_List _ fit_also true c.fold.result c.fold.ensures.ran
    (YieldsList-from_zip (YieldsList-from_slice ns (cc)) (YieldsList-from_slice ms (cc)))
    (λ a x b q k. search (rules, tests))
    ∙ fold-fits true ns ms c.requires
