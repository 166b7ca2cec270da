-- `bundle::passes::second_pass` meets its contract. The outer loop stands at record i, the pass finds what it finds from there on, the records
-- before are kept unless it says so no more, and the hints are places; the inner loop stands at record j, and record i clashes with none before it.
-- Assumes nothing.
use Prim.Native.Nat.{◌-◌, ◌≤◌}
use mathlib.Core.Path.{◌≡◌}
use mathlib.Core.Bool.{true}
use lib.ListN.{length, get_or}
use Rattle.common.specs.Checks.{first_fault}
use Rattle.common.specs.Least.{least}
use Rattle.bundle.specs.Records.{rec, no_rec, records_of}
use Rattle.bundle.specs.Keys.{clash}
use Rattle.bundle.specs.Verdict.{second_pass}
use Rattle.bundle.specs.Apart.{Kept}
use Rattle.bundle.proofs.Here.{Here}
use Rattle.bundle.proofs.PassLaws.{second_from}
use Rattle.bundle.proofs.passes.second_pass.Given as goal

abbrev pub invariant-loop-j : goal.invariant-loop-j
invariant-loop-j l = Here l.bundle l.p l.j × (l.j ≤ l.i) × (least (λ k. clash (rec l.table l.r) (get_or (records_of l.bundle) k no_rec)) l.j ≡ l.j)

abbrev pub invariant-records : goal.invariant-records
invariant-records l =
    Here l.bundle l.at l.i × (first_fault (second_pass (records_of l.bundle)) ≡ second_from (records_of l.bundle) l.i) × (l.is_kept ≡ true → Kept l.bundle l.slots.heads.now l.slots.lows.now l.i)
    × (l.hints.bundle.now ≡ l.bundle)

abbrev pub decreases-records : goal.decreases-records
decreases-records l = length l.bundle - l.at
