-- `choice::choose` meets its contract. The loop's invariant: the loop stands at record j, none before it is the railway's own and valid, and `chosen` is
-- what those before it come to.
-- Assumes nothing.
use Prim.Native.Nat.{ℕ, ◌+◌}
use mathlib.Core.Path.{◌∙◌, ap}
use mathlib.Core.List.{List}
use native.Mathlib.Omega.{arith}
use Rattle.common.proofs.Least.{start as none_yet, more}
use Rattle.bundle.proofs.Here.{Stands, here_start, stands, over_there, over_count}
use Rattle.choice.specs.Helpers.{noted_at}
use Rattle.choice.proofs.WalkLaws.{fits_own, fits_not, fits_other, standing_start, remembers, own_met, none_met}
use Rattle.choice.proofs.choose.Goals as goal

pub loop-table-init : goal.loop-table-init
loop-table-init g c = (0, here_start _, none_yet _, standing_start _ _)

pub returns : goal.returns
returns g c =
    let i = c.loop-table.invariant in
    let o = over_there _ _ c.step_at.result c.in_default-step_at.not-Whole c.step_at.ensures in
    rw (← c.named.ensures, c.in-Ok.is) (i.3 ∙ none_met _ _ i.0 (over_count _ _ _ i.1 o) i.2)

pub slice_bounds-fit-count : goal.slice_bounds-fit-count
slice_bounds-fit-count g c =
    let bundle-of : List ℕ = c.args.bundle.now in
    let found : Stands (bundle-of) c.loop-table.at c.loop-table.invariant.0 c.in-Whole.table c.in-Whole.start c.in-Whole.next = stands _ _ _ c.loop-table.invariant.1 c.step_at.ensures c.in-Whole.is in
    found.ends

pub slice_bounds-fit-start : goal.slice_bounds-fit-start
slice_bounds-fit-start g c =
    let bundle-of : List ℕ = c.args.bundle.now in
    let found : Stands (bundle-of) c.loop-table.at c.loop-table.invariant.0 c.in-Whole.table c.in-Whole.start c.in-Whole.next = stands _ _ _ c.loop-table.invariant.1 c.step_at.ensures c.in-Whole.is in
    omega (arith, found.ends, found.inside)

pub slice_bounds-fit-end : goal.slice_bounds-fit-end
slice_bounds-fit-end g c =
    let bundle-of : List ℕ = c.args.bundle.now in
    let found : Stands (bundle-of) c.loop-table.at c.loop-table.invariant.0 c.in-Whole.table c.in-Whole.start c.in-Whole.next = stands _ _ _ c.loop-table.invariant.1 c.step_at.ensures c.in-Whole.is in
    found.inside

pub returns-in-Own : goal.returns-in-Own
returns-in-Own g c =
    let bundle-of : List ℕ = c.args.bundle.now in
    let found : Stands (bundle-of) c.loop-table.at c.loop-table.invariant.0 c.in-Whole.table c.in-Whole.start c.in-Whole.next = stands _ _ _ c.loop-table.invariant.1 c.step_at.ensures c.in-Whole.is in
    let i = c.loop-table.invariant in
    rw (← c.named.ensures, c.in-Ok.is) (own_met _ _ _ i.0 (found) i.2 (rw found.at (fits_own _ _ c.fit-f.ensures c.in-Own.is)))

pub loop-table-smaller : goal.loop-table-smaller
loop-table-smaller g c =
    let bundle-of : List ℕ = c.args.bundle.now in
    let found : Stands (bundle-of) c.loop-table.at c.loop-table.invariant.0 c.in-Whole.table c.in-Whole.start c.in-Whole.next = stands _ _ _ c.loop-table.invariant.1 c.step_at.ensures c.in-Whole.is in
    let w = found in omega (arith, w.starts, w.ends, w.inside)

pub loop-table-preserved : goal.loop-table-preserved
loop-table-preserved g c =
    let bundle-of : List ℕ = c.args.bundle.now in
    let found : Stands (bundle-of) c.loop-table.at c.loop-table.invariant.0 c.in-Whole.table c.in-Whole.start c.in-Whole.next = stands _ _ _ c.loop-table.invariant.1 c.step_at.ensures c.in-Whole.is in
    let i = c.loop-table.invariant in
    let n = c.in_default-f.not-Own in (
      i.0 + 1,
      found.then,
      more _ i.0 i.2 (rw found.at (fits_not _ _ c.fit-f.ensures n)),
      c.noted-chosen.ensures
          ∙ (ap (λ x. noted_at x c.fit-f.result c.loop-table.at) i.3
          ∙ remembers _ _ _ i.0 (found) (rw found.at (fits_other _ _ c.fit-f.ensures n))),
    )
