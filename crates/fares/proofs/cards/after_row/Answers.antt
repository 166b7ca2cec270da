-- `fares::cards::after_row` meets its contract. The loop's invariant: what is left, and the steps that are left.
-- Assumes nothing.
use mathlib.Core.Path.{sym, ◌∙◌}
use native.Mathlib.Omega.{arith}
use lib.ListN.{get_or}
use Rattle.fares.specs.Helpers.{no_step}
use Rattle.fares.proofs.StepLaws.{step_small}
use Rattle.fares.proofs.LegCards.{factor_at, row_step, row_last}
use Rattle.fares.proofs.cards.after_row.Goals as goal

pub reduce-left-requires : goal.reduce-left-requires
reduce-left-requires c =
    let k = c.loop-step.step-index in
    (omega (arith, c.loop-step.invariant.0, c.requires.0, c.requires.1, c.loop-step-test.true), factor_at c.args.row.now c.requires.2 k c.loop-step-test.true)

pub loop-step-preserved : goal.loop-step-preserved
loop-step-preserved c =
    let row = c.args.row.now in
    let k = c.loop-step.step-index in
    let small = step_small (get_or row k no_step).grant (factor_at row c.requires.2 k c.loop-step-test.true) c.loop-step.left in (
      omega (arith, c.reduce-left.ensures, small, c.loop-step.invariant.0),
      rw c.reduce-left.ensures (sym (row_step row k c.loop-step-test.true c.loop-step.left) ∙ c.loop-step.invariant.1),
    )

pub returns : goal.returns
returns c = sym (row_last c.args.row.now c.loop-step.step-index c.loop-step.left c.loop-step-test.false) ∙ c.loop-step.invariant.1
