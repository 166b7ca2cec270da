-- `fares::cards::after_row` meets its contract. The loop's invariant: what is left, and the steps that are left.
-- Assumes nothing.
use Prim.Native.Nat.{◌+◌, ◌*◌, ◌≤◌}
use mathlib.Core.Path.{◌≡◌}
use mathlib.Core.List.{map}
use lib.ListN.{drop}
use Rattle.fares.specs.Reductions.{reduce_all}
use Rattle.fares.specs.Helpers.{grant_of}
use Rattle.fares.proofs.cards.after_row.Given as goal

abbrev pub invariant-loop-step : goal.invariant-loop-step
invariant-loop-step l =
    (l.left ≤ l.amount + 998 * l.step-index) × (reduce_all l.left (map grant_of (drop l.step-index l.row)) ≡ reduce_all l.amount (map grant_of l.row))
