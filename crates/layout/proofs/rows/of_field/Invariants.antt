-- `layout::rows::of_field` meets its contract. The loop's invariant: what is left of the rows decides.
-- Assumes nothing.
use mathlib.Core.Path.{◌≡◌}
use lib.Dec.{eqb}
use lib.ListN.{drop}
use Rattle.layout.specs.Fields.{row_with}
use Rattle.layout.specs.declared.rows.Row.{Row}
use Rattle.layout.proofs.rows.of_field.Given as goal

abbrev pub invariant-loop-row : goal.invariant-loop-row
invariant-loop-row l = row_with (λ (r : Row). eqb r.field l.field) l.rows ≡ row_with (λ (r : Row). eqb r.field l.field) (drop l.row-index l.rows)
