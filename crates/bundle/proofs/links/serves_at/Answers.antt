-- `bundle::links::serves_at` meets its contract.
-- Assumes nothing.
use Prim.Native.Nat.{◌≤◌}
use mathlib.Core.Path.{◌∙◌}
use native.Mathlib.Omega.{arith}
use lib.ListN.{length}
use mathlib.Core.Bool.{false}
use Rattle.layout.proofs.Tables.{differ, agree}
use Rattle.bundle.specs.Records.{rec, between}
use Rattle.bundle.specs.Links.{serves}
use Rattle.bundle.specs.Hints.{serves_at}
use Rattle.bundle.proofs.Here.{over_there, step_lies, over_told, whole_told}
use Rattle.bundle.proofs.links.serves_at.Goals as goal

pub returns-in_default : goal.returns-in_default
unfolding serves_at
returns-in_default c =
    let a = c.args in
    over_told a.bundle.now a.place _ _ (over_there _ _ c.step_at-here.result c.in_default.not-Whole c.step_at-here.ensures)

pub slice_bounds-are_joined-count : goal.slice_bounds-are_joined-count
slice_bounds-are_joined-count c =
    let lies : (c.in-Whole.start ≤ c.in-Whole.next) × (c.in-Whole.next ≤ length c.args.bundle.now) = step_lies _ _ c.step_at-here.ensures c.in-Whole.is in
    lies.0

pub slice_bounds-are_joined-start : goal.slice_bounds-are_joined-start
slice_bounds-are_joined-start c =
    let lies : (c.in-Whole.start ≤ c.in-Whole.next) × (c.in-Whole.next ≤ length c.args.bundle.now) = step_lies _ _ c.step_at-here.ensures c.in-Whole.is in
    omega (arith, lies)

pub slice_bounds-are_joined-end : goal.slice_bounds-are_joined-end
slice_bounds-are_joined-end c =
    let lies : (c.in-Whole.start ≤ c.in-Whole.next) × (c.in-Whole.next ≤ length c.args.bundle.now) = step_lies _ _ c.step_at-here.ensures c.in-Whole.is in
    lies.1

-- a record of another table does not serve
pub returns-then-ne : goal.returns-then-ne
unfolding serves_at serves
returns-then-ne c =
    let a = c.args in
    rw (differ c.ne.ensures c.if-ne.true) at (whole_told a.bundle.now a.place false (λ t start next. serves a.link (rec a.table a.r.now) (rec t (between start next a.bundle.now))) c.step_at-here.ensures c.in-Whole.is)

pub returns : goal.returns
unfolding serves_at serves
returns c =
    let a = c.args in
    c.are_joined.ensures ∙ (rw (agree c.ne.ensures c.if-ne.false) at (whole_told a.bundle.now a.place false (λ t start next. serves a.link (rec a.table a.r.now) (rec t (between start next a.bundle.now))) c.step_at-here.ensures c.in-Whole.is))
