-- `fares::cards::least_alone` meets its contract. The loop's invariant: the least so far, and the records that are left.
-- Assumes nothing.
use mathlib.Core.Path.{◌≡◌}
use lib.ListN.{drop}
use Rattle.fares.specs.Cards.{least_from}
use Rattle.fares.specs.Helpers.{bodies_at, alone_from}
use Rattle.fares.proofs.cards.least_alone.Given as goal

abbrev pub invariant-loop-place : goal.invariant-loop-place
invariant-loop-place l =
    least_from l.least (alone_from l.amount (drop l.place-index (bodies_at l.bundle l.places))) ≡ least_from l.first (alone_from l.amount (bodies_at l.bundle l.places))
