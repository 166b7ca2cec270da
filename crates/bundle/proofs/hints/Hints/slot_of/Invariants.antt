-- `bundle::hints::Hints::slot_of` stays inside the hints. The loop's invariant: the slot is one of them.
-- Assumes nothing.
use Prim.Native.Nat.{◌<◌}
use lib.ListN.{length}
use Rattle.bundle.proofs.hints.Hints.slot_of.Given as goal

abbrev pub invariant-loop : goal.invariant-loop
invariant-loop l = l.slot < length l.self.places.now
