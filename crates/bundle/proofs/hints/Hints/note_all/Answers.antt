-- `bundle::hints::Hints::note_all` meets its contract. The loop's invariant: the loop stands at record i, and the hints are places.
-- Assumes nothing.
use Prim.Native.Nat.{◌+◌}
use mathlib.Core.Path.{refl, ◌∙◌}
use native.Mathlib.Omega.{arith}
use Rattle.bundle.proofs.Here.{Stands, here_start, stands}
use Rattle.bundle.proofs.HintedPlaces.{is_place}
use Rattle.bundle.proofs.hints.Hints.note_all.Goals as goal

pub loop-table-init : goal.loop-table-init
loop-table-init c = (0, here_start _, refl)

pub returns : goal.returns
returns c = c.loop-table.invariant.2

pub slice_bounds-note-count : goal.slice_bounds-note-count
slice_bounds-note-count c =
    let found : Stands c.args.self.now.bundle.now c.loop-table.at c.loop-table.invariant.0 c.in-Whole.table c.in-Whole.start c.in-Whole.next = stands _ _ _ c.loop-table.invariant.1 c.step_at.ensures c.in-Whole.is in
    found.ends

pub slice_bounds-note-start : goal.slice_bounds-note-start
slice_bounds-note-start c =
    let found : Stands c.args.self.now.bundle.now c.loop-table.at c.loop-table.invariant.0 c.in-Whole.table c.in-Whole.start c.in-Whole.next = stands _ _ _ c.loop-table.invariant.1 c.step_at.ensures c.in-Whole.is in
    let w = found in omega (arith, w.ends, w.inside)

pub slice_bounds-note-end : goal.slice_bounds-note-end
slice_bounds-note-end c =
    let found : Stands c.args.self.now.bundle.now c.loop-table.at c.loop-table.invariant.0 c.in-Whole.table c.in-Whole.start c.in-Whole.next = stands _ _ _ c.loop-table.invariant.1 c.step_at.ensures c.in-Whole.is in
    found.inside

pub loop-table-smaller : goal.loop-table-smaller
loop-table-smaller c =
    let found : Stands c.args.self.now.bundle.now c.loop-table.at c.loop-table.invariant.0 c.in-Whole.table c.in-Whole.start c.in-Whole.next = stands _ _ _ c.loop-table.invariant.1 c.step_at.ensures c.in-Whole.is in
    let w = found in omega (arith, w.starts, w.ends, w.inside)

pub loop-table-preserved : goal.loop-table-preserved
loop-table-preserved c =
    let found : Stands c.args.self.now.bundle.now c.loop-table.at c.loop-table.invariant.0 c.in-Whole.table c.in-Whole.start c.in-Whole.next = stands _ _ _ c.loop-table.invariant.1 c.step_at.ensures c.in-Whole.is in
    let i = c.loop-table.invariant in
    (i.0 + 1, found.then, c.note.ensures ∙ i.2)

pub note-requires : goal.note-requires
note-requires c =
    let found : Stands c.args.self.now.bundle.now c.loop-table.at c.loop-table.invariant.0 c.in-Whole.table c.in-Whole.start c.in-Whole.next = stands _ _ _ c.loop-table.invariant.1 c.step_at.ensures c.in-Whole.is in
    rw c.loop-table.invariant.2 (is_place _ _ _ found.below found.place)
