-- `bundle::hints::Hints::note_all` meets its contract. The loop's invariant: the loop stands at record i, and the hints are places.
-- Assumes nothing.
use Prim.Native.Nat.{ℕ, ◌-◌}
use mathlib.Core.Path.{◌≡◌}
use lib.ListN.{length}
use Rattle.bundle.proofs.Here.{Here}
use Rattle.bundle.proofs.hints.Hints.note_all.Given as goal

abbrev pub invariant-loop-table : goal.invariant-loop-table
invariant-loop-table l = (i : ℕ) × Here l.bundle l.at i × (l.self.bundle.now ≡ l.bundle)

abbrev pub decreases-loop-table : goal.decreases-loop-table
decreases-loop-table l = length l.bundle - l.at
