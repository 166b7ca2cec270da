-- `choice::choose` meets its contract. The loop's invariant: the loop stands at record j, none before it is the railway's own and valid, and `chosen` is
-- what those before it come to.
-- Assumes nothing.
use Prim.Native.Nat.{ℕ, ◌-◌}
use mathlib.Core.Path.{◌≡◌}
use lib.ListN.{length}
use Rattle.common.specs.Least.{least}
use Rattle.bundle.proofs.Here.{Here}
use Rattle.choice.proofs.WalkLaws.{own, standing}
use Rattle.choice.proofs.choose.Given as goal

abbrev pub invariant-loop-table : goal.invariant-loop-table
invariant-loop-table g l = (j : ℕ) × Here l.bundle l.at j × (least (own l.bundle l.wanted) j ≡ j) × (l.chosen ≡ standing l.bundle l.wanted j)

abbrev pub decreases-loop-table : goal.decreases-loop-table
decreases-loop-table g l = length l.bundle - l.at
