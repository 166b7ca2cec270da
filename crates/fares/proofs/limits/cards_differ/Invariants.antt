-- `fares::limits::cards_differ` meets its contract. The loop's invariant: the slots that are left decide.
-- Assumes nothing.
use Rattle.std.proofs.Common.{◌≡◌, drop}
use Rattle.fares.specs.Question.{cards_differ}
use Rattle.fares.proofs.limits.cards_differ.Given as goal

abbrev pub invariant-loop-k : goal.invariant-loop-k
invariant-loop-k l = cards_differ l.card-items ≡ cards_differ (drop l.k l.card-items)
