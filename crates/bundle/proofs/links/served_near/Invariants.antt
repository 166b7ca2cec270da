-- `bundle::links::served_near` meets its contract. The loop's invariant: the loop stands at some record, or where the records end.
-- Assumes nothing.
use Prim.Native.Nat.{ℕ}
use Rattle.bundle.proofs.Here.{Here}
use Rattle.bundle.proofs.links.served_near.Given as goal

abbrev pub invariant-loop : goal.invariant-loop
invariant-loop l = (j : ℕ) × Here l.bundle l.at j
