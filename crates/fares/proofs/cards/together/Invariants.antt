-- `fares::cards::together` meets its contract. The loop's invariant: the records met so far in their row, and those that are left.
-- Assumes nothing.
use Rattle.fares.specs.Helpers.{bodies_at}
use Rattle.fares.proofs.LegCards.{Built}
use Rattle.fares.proofs.cards.together.Given as goal

abbrev pub invariant-loop-place : goal.invariant-loop-place
invariant-loop-place l = Built (bodies_at l.bundle l.places) l.place-index l.row.items
