-- `layout::rows::broken_field` meets its contract. The loop's invariant: what is left of the rows decides.
-- Assumes nothing.
use mathlib.Core.Path.{◌≡◌}
use lib.ListN.{drop}
use Rattle.layout.specs.Rules.{first_broken}
use Rattle.layout.specs.Helpers.{obeys_row}
use Rattle.layout.proofs.rows.broken_field.Given as goal

abbrev pub invariant-loop-row : goal.invariant-loop-row
invariant-loop-row l = first_broken (obeys_row l.body) l.rows ≡ first_broken (obeys_row l.body) (drop l.row-index l.rows)
