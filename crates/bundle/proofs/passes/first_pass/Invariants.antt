-- `bundle::passes::first_pass` meets its contract. The loop's invariant: the loop stands at record i, and the pass finds what it finds from there on.
-- Assumes nothing.
use Prim.Native.Nat.{◌-◌}
use mathlib.Core.Path.{◌≡◌}
use lib.ListN.{length}
use Rattle.common.specs.Checks.{first_fault}
use Rattle.bundle.specs.Verdict.{first_pass}
use Rattle.bundle.proofs.Here.{Here}
use Rattle.bundle.proofs.PassLaws.{first_from}
use Rattle.bundle.proofs.passes.first_pass.Given as goal

abbrev pub invariant-loop-at : goal.invariant-loop-at
invariant-loop-at l = Here l.bundle l.at l.i × (first_fault (first_pass l.bundle) ≡ first_from l.bundle l.i)

abbrev pub decreases-loop-at : goal.decreases-loop-at
decreases-loop-at l = length l.bundle - l.at
