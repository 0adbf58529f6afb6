-- What the search found is ahead of where it began.
-- Assumes nothing.
use Rattle.ask.proofs.Ahead.{found-ahead}
use Rattle.ask.proofs.searches.show_all.Goals as goal

pub loop-found-smaller : goal.loop-found-smaller
loop-found-smaller g c = found-ahead _ _ _ _ c.next.ensures c.in-Some.is
