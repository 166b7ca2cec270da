-- `bundle::links::first_served` meets its contract. The loop's invariant: the loop stands at record i, and the records from it on decide.
-- Assumes nothing.
use Prim.Native.Nat.{◌+◌}
use mathlib.Core.Path.{◌≡◌, refl, sym, ◌∙◌}
use mathlib.Core.Bool.{false}
use native.Mathlib.Omega.{arith}
use lib.ListN.{drop}
use Rattle.common.specs.Lists.{any}
use Rattle.common.proofs.Lists.{at_any}
use Rattle.bundle.specs.Records.{rec, no_rec, between, records_of}
use Rattle.bundle.specs.Links.{serves}
use Rattle.bundle.proofs.Here.{Stands, here_start, stands, over_there, over_nil}
use Rattle.bundle.proofs.HintedPlaces.{is_place}
use Rattle.bundle.proofs.links.first_served.Goals as goal

pub loop-t-init : goal.loop-t-init
loop-t-init c = (0, here_start _, refl)

pub returns : goal.returns
unfolding any
returns c =
    let i = c.loop-t.invariant in
    let o = over_nil _ _ _ i.1 (over_there _ _ c.step_at.result c.in_default.not-Whole c.step_at.ensures) in
    i.2 ∙ rw o

pub slice_bounds-are_joined-count : goal.slice_bounds-are_joined-count
slice_bounds-are_joined-count c =
    let found : Stands c.args.bundle.now c.loop-t.at c.loop-t.invariant.0 c.in-Whole.t c.in-Whole.start c.in-Whole.next = stands _ _ _ c.loop-t.invariant.1 c.step_at.ensures c.in-Whole.is in
    found.ends

pub slice_bounds-are_joined-start : goal.slice_bounds-are_joined-start
slice_bounds-are_joined-start c =
    let found : Stands c.args.bundle.now c.loop-t.at c.loop-t.invariant.0 c.in-Whole.t c.in-Whole.start c.in-Whole.next = stands _ _ _ c.loop-t.invariant.1 c.step_at.ensures c.in-Whole.is in
    let w = found in omega (arith, w.ends, w.inside)

pub slice_bounds-are_joined-end : goal.slice_bounds-are_joined-end
slice_bounds-are_joined-end c =
    let found : Stands c.args.bundle.now c.loop-t.at c.loop-t.invariant.0 c.in-Whole.t c.in-Whole.start c.in-Whole.next = stands _ _ _ c.loop-t.invariant.1 c.step_at.ensures c.in-Whole.is in
    found.inside

pub returns-then-are_joined : goal.returns-then-are_joined
unfolding serves
returns-then-are_joined c =
    let found : Stands c.args.bundle.now c.loop-t.at c.loop-t.invariant.0 c.in-Whole.t c.in-Whole.start c.in-Whole.next = stands _ _ _ c.loop-t.invariant.1 c.step_at.ensures c.in-Whole.is in
    let w = found in
    let i = c.loop-t.invariant in
    (is_place _ i.0 _ w.below w.place, at_any _ no_rec _ i.0 w.below (rw w.at (rw (sym c.eq.ensures ∙ c.if-eq.true) (sym c.are_joined.ensures ∙ c.if-are_joined.true))))

pub loop-t-smaller-else-are_joined : goal.loop-t-smaller-else-are_joined
loop-t-smaller-else-are_joined c =
    let found : Stands c.args.bundle.now c.loop-t.at c.loop-t.invariant.0 c.in-Whole.t c.in-Whole.start c.in-Whole.next = stands _ _ _ c.loop-t.invariant.1 c.step_at.ensures c.in-Whole.is in
    let w = found in omega (arith, w.starts, w.ends, w.inside)

-- the record is of the table that is wanted and does not serve, or it is of another
pub loop-t-preserved-else-are_joined : goal.loop-t-preserved-else-are_joined
unfolding any serves
loop-t-preserved-else-are_joined c =
    let found : Stands c.args.bundle.now c.loop-t.at c.loop-t.invariant.0 c.in-Whole.t c.in-Whole.start c.in-Whole.next = stands _ _ _ c.loop-t.invariant.1 c.step_at.ensures c.in-Whole.is in
    let passed : let a = c.args in let p = serves a.link (rec a.table a.r.now) in false ≡ p (rec c.in-Whole.t (between c.in-Whole.start c.in-Whole.next a.bundle.now)) → any p (records_of a.bundle.now) ≡ any p (drop (c.loop-t.invariant.0 + 1) (records_of a.bundle.now)) = λ q. c.loop-t.invariant.2 ∙ rw (found.cons, ← q) in
    (c.loop-t.invariant.0 + 1, found.then, passed (rw (sym c.eq.ensures ∙ c.if-eq.true) (sym c.if-are_joined.false ∙ c.are_joined.ensures)))

pub loop-t-smaller : goal.loop-t-smaller
loop-t-smaller c =
    let found : Stands c.args.bundle.now c.loop-t.at c.loop-t.invariant.0 c.in-Whole.t c.in-Whole.start c.in-Whole.next = stands _ _ _ c.loop-t.invariant.1 c.step_at.ensures c.in-Whole.is in
    let w = found in omega (arith, w.starts, w.ends, w.inside)

pub loop-t-preserved : goal.loop-t-preserved
unfolding any serves
loop-t-preserved c =
    let found : Stands c.args.bundle.now c.loop-t.at c.loop-t.invariant.0 c.in-Whole.t c.in-Whole.start c.in-Whole.next = stands _ _ _ c.loop-t.invariant.1 c.step_at.ensures c.in-Whole.is in
    let passed : let a = c.args in let p = serves a.link (rec a.table a.r.now) in false ≡ p (rec c.in-Whole.t (between c.in-Whole.start c.in-Whole.next a.bundle.now)) → any p (records_of a.bundle.now) ≡ any p (drop (c.loop-t.invariant.0 + 1) (records_of a.bundle.now)) = λ q. c.loop-t.invariant.2 ∙ rw (found.cons, ← q) in
    (c.loop-t.invariant.0 + 1, found.then, passed (rw (sym c.eq.ensures ∙ c.if-eq.false)))
