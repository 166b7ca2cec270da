-- `layout::rows::of_field` meets its contract. The loop's invariant: what is left of the rows decides.
-- Assumes nothing.
use mathlib.Core.Path.{sym, ◌∙◌}
use mathlib.Core.Bool.{true, false}
use borrow.Author.Tests.{eq-eqb, ne_eqb}
use Rattle.layout.specs.Layout.{no_row}
use Rattle.layout.proofs.RowLoops.{with_step, with_end}
use Rattle.layout.proofs.rows.of_field.Goals as goal

pub returns-then-row-field : goal.returns-then-row-field
returns-then-row-field c = sym (c.loop-row.invariant ∙ with_step _ _ no_row _ true c.loop-row-test.true (eq-eqb _ _ c.if-row-field.true))

pub loop-row-preserved : goal.loop-row-preserved
loop-row-preserved c = c.loop-row.invariant ∙ with_step _ _ no_row _ false c.loop-row-test.true (ne_eqb _ _ c.if-row-field.false)

pub returns : goal.returns
returns c = sym (c.loop-row.invariant ∙ with_end _ _ _ c.loop-row-test.false)
