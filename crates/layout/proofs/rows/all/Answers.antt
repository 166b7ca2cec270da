-- `layout::rows::all` meets its contract: antt computes that the code's table is the layout, row by row.
-- Assumes nothing.
use mathlib.Core.Path.{refl}
use Rattle.layout.specs.Layout.{table_at, layout_from, layout}
use Rattle.layout.proofs.rows.all.Goals as goal

pub returns : goal.returns
unfolding layout layout_from table_at
returns c = refl
