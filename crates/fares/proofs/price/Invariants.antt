-- `fares::price` meets its contract. The loop's invariant: it stands before leg k.
-- Assumes nothing.
use Rattle.bundle.specs.Records.{records_of}
use Rattle.fares.proofs.PriceLaws.{Before}
use Rattle.fares.proofs.price.Given as goal

abbrev pub invariant-loop-k : goal.invariant-loop-k
invariant-loop-k l = Before (records_of l.bundle) l.q l.k l.parts l.fare
