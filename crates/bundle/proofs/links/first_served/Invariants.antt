-- `bundle::links::first_served` meets its contract. The loop's invariant: the loop stands at record i, and the records from it on decide.
-- Assumes nothing.
use Prim.Native.Nat.{ℕ, ◌-◌}
use mathlib.Core.Path.{◌≡◌}
use lib.ListN.{length, drop}
use Rattle.common.specs.Lists.{any}
use Rattle.bundle.specs.Records.{rec, records_of}
use Rattle.bundle.specs.Links.{serves}
use Rattle.bundle.proofs.Here.{Here}
use Rattle.bundle.proofs.links.first_served.Given as goal

abbrev pub invariant-loop-t : goal.invariant-loop-t
invariant-loop-t l =
    (i : ℕ) × Here l.bundle l.at i
    × (any (serves l.link (rec l.table l.r)) (records_of l.bundle) ≡ any (serves l.link (rec l.table l.r)) (drop i (records_of l.bundle)))

abbrev pub decreases-loop-t : goal.decreases-loop-t
decreases-loop-t l = length l.bundle - l.at
