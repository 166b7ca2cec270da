-- `bundle::links::missing_link` meets its contract. The loop's invariant: no link before k is lacked, and the hints are places.
-- Assumes nothing.
use mathlib.Core.Path.{◌≡◌}
use Rattle.common.specs.Least.{least}
use Rattle.bundle.specs.Records.{rec, records_of}
use Rattle.bundle.specs.Links.{lacks}
use Rattle.bundle.proofs.links.missing_link.Given as goal

abbrev pub invariant-loop-k : goal.invariant-loop-k
invariant-loop-k l = (least (lacks (records_of l.initial.hints.bundle.now) (rec l.table l.r)) l.k ≡ l.k) × (l.hints.bundle.now ≡ l.initial.hints.bundle.now)
