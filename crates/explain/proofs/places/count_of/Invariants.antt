-- The count is at most the records passed.
use Rattle.std.proofs.Common.{◌≤◌}
use Rattle.explain.proofs.places.count_of.Given as goal

abbrev pub invariant-loop-passed : goal.invariant-loop-passed
invariant-loop-passed l = l.count ≤ l._passed
