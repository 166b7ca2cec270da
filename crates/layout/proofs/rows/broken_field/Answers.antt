-- `layout::rows::broken_field` meets its contract. The loop's invariant: what is left of the rows decides.
-- Assumes nothing.
use mathlib.Core.Path.{sym, ◌∙◌}
use Rattle.layout.specs.Layout.{no_row}
use Rattle.layout.proofs.RowLoops.{broken_step, broken_end}
use Rattle.layout.proofs.rows.broken_field.Goals as goal

pub returns-then-not-obeys : goal.returns-then-not-obeys
returns-then-not-obeys c = sym (c.loop-row.invariant ∙ (broken_step _ _ no_row _ _ c.loop-row-test.true c.obeys.ensures ∙ rw c.if-not-obeys.true))

pub loop-row-preserved : goal.loop-row-preserved
loop-row-preserved c = c.loop-row.invariant ∙ (broken_step _ _ no_row _ _ c.loop-row-test.true c.obeys.ensures ∙ rw c.if-not-obeys.false)

pub returns : goal.returns
returns c = sym (c.loop-row.invariant ∙ broken_end _ _ _ c.loop-row-test.false)
