-- `bundle::hints::Hints::slot_of` stays inside the hints. The loop's invariant: the slot is one of them.
-- Assumes nothing.
use native.Mathlib.Omega.{arith}
use native.Mathlib.Nat.{mod-lt}
use Rattle.bundle.proofs.hints.Hints.slot_of.Goals as goal

pub loop-init : goal.loop-init
loop-init c = mod-lt _ (omega arith)

pub loop-preserved : goal.loop-preserved
loop-preserved c = mod-lt _ (omega arith)
