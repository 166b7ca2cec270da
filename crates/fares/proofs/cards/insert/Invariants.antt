-- `fares::cards::insert` meets its contract. The loop's invariant: what stands in front is settled, and one is carried.
-- Assumes nothing.
use Rattle.fares.proofs.LegCards.{Carried}
use Rattle.fares.proofs.cards.insert.Given as goal

abbrev pub invariant-loop-there : goal.invariant-loop-there
invariant-loop-there l = Carried l.initial.there-items l.initial.carried l.there-index l.there-items l.carried
