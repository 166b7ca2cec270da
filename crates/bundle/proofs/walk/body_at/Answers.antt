-- `bundle::walk::body_at` meets its contract.
-- Assumes nothing.
use Prim.Native.Nat.{◌≤◌}
use mathlib.Core.Path.{◌∙◌}
use native.Mathlib.Omega.{arith}
use lib.ListN.{length}
use Rattle.bundle.specs.Helpers.{body_at}
use Rattle.bundle.proofs.Here.{over_there, step_lies, over_told, whole_told}
use Rattle.bundle.proofs.walk.body_at.Goals as goal

pub returns-in_default : goal.returns-in_default
unfolding body_at
returns-in_default c =
    let a = c.args in
    c.part.ensures ∙ over_told a.bundle.now a.place _ _ (over_there a.bundle.now a.place c.step_at-here.result c.in_default.not-Whole c.step_at-here.ensures)

pub slice_bounds-result-count : goal.slice_bounds-result-count
unfolding body_at
slice_bounds-result-count c =
    let lies : (c.in-Whole.start ≤ c.in-Whole.next) × (c.in-Whole.next ≤ length c.args.bundle.now) = step_lies _ _ c.step_at-here.ensures c.in-Whole.is in
    lies.0

pub slice_bounds-result-start : goal.slice_bounds-result-start
unfolding body_at
slice_bounds-result-start c =
    let lies : (c.in-Whole.start ≤ c.in-Whole.next) × (c.in-Whole.next ≤ length c.args.bundle.now) = step_lies _ _ c.step_at-here.ensures c.in-Whole.is in
    omega (arith, lies)

pub slice_bounds-result-end : goal.slice_bounds-result-end
unfolding body_at
slice_bounds-result-end c =
    let lies : (c.in-Whole.start ≤ c.in-Whole.next) × (c.in-Whole.next ≤ length c.args.bundle.now) = step_lies _ _ c.step_at-here.ensures c.in-Whole.is in
    lies.1

pub returns : goal.returns
unfolding body_at
returns c = whole_told _ _ _ _ c.step_at-here.ensures c.in-Whole.is
