-- `fares::cards::together` meets its contract. The loop's invariant: the records met so far in their row, and those that are left.
-- Assumes nothing.
use Prim.Native.Nat.{◌<◌}
use mathlib.Core.Path.{◌≡◌, sym, ◌∙◌, ap}
use mathlib.Core.List.{[]}
use native.Mathlib.Omega.{arith}
use lib.ListN.{length, get_or}
use Rattle.layout.specs.Layout.{AR}
use Rattle.layout.specs.Fields.{is_yes}
use Rattle.fares.specs.Helpers.{bodies_at}
use Rattle.fares.proofs.LegCards.{built_first, built_more, built_same, built_last, card_bodies_long, card_body_at}
use Rattle.fares.proofs.cards.together.Goals as goal
use Rattle.fares.proofs.cards.together.Goals.{then-is_cumulative, else-is_cumulative}

pub loop-place-init : goal.loop-place-init
loop-place-init c = rw c.new-row.ensures (built_first _)

pub loop-place-preserved : goal.loop-place-preserved
loop-place-preserved c =
    let a = c.args in
    let k = c.loop-place.place-index in
    let row = c.loop-place.row.items in
    let ars = bodies_at a.bundle.now a.places.now in
    let inside : k < length ars = omega (arith, c.loop-place-test.true, card_bodies_long a.bundle.now a.places.now) in
    let body : c.body_at-ar.result.now ≡ get_or ars k [] = c.body_at-ar.ensures ∙ sym (card_body_at a.bundle.now a.places.now k c.loop-place-test.true) in
    let e = ap (is_yes AR 6) (sym body) in
    elim c.if-is_cumulative.branch [
      | then-is_cumulative w ↦
          rw (w.row-is, w.insert.ensures, w.step_of.ensures, body) (built_more ars k row c.loop-place.invariant inside (e ∙ (sym c.is_cumulative.ensures ∙ w.if-is_cumulative.true)))
      | else-is_cumulative w ↦ rw w.row-is (built_same ars k row c.loop-place.invariant inside (e ∙ (sym c.is_cumulative.ensures ∙ w.if-is_cumulative.false)))
    ]

pub returns : goal.returns
returns c =
    let a = c.args in
    let ars = bodies_at a.bundle.now a.places.now in
    built_last ars c.loop-place.place-index c.loop-place.row.items c.loop-place.invariant (omega (arith, c.loop-place-test.false, card_bodies_long a.bundle.now a.places.now))
