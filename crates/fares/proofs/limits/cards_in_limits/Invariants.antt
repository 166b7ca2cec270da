-- `fares::limits::cards_in_limits` meets its contract. The loop's invariant: the slots that are left decide.
-- Assumes nothing.
use Rattle.std.proofs.Common.{◌≡◌, drop}
use Rattle.fares.specs.Question.{cards_in_limits}
use Rattle.fares.proofs.limits.cards_in_limits.Given as goal

abbrev pub invariant-loop-k : goal.invariant-loop-k
invariant-loop-k l = cards_in_limits l.card-items ≡ cards_in_limits (drop l.k l.card-items)
