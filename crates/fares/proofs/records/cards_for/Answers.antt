-- `fares::records::cards_for` meets its contract. The loop's invariant: the places found so far, and the slots that are left.
-- Assumes nothing.
use mathlib.Core.Path.{◌≡◌, sym, ◌∙◌}
use native.Mathlib.Omega.{arith}
use lib.ListN.{length}
use borrow.Author.Rules.{rules}
use Rattle.choice.proofs.WalkLaws.{not_at}
use Rattle.fares.proofs.LegLaws.{looked_first, looked_found, looked_none, looked_last}
use Rattle.fares.proofs.records.cards_for.Goals as goal
use Rattle.fares.proofs.records.cards_for.Goals.{in-At, in_default}

pub loop-card-init : goal.loop-card-init
loop-card-init c = rw c.new-places.ensures (looked_first c.args.bundle.now c.args.q c.args.leg)

pub loop-card-preserved : goal.loop-card-preserved
loop-card-preserved c =
    let a = c.args in
    let s = a.bundle.now in
    let k = c.loop-card.card-index in
    let seen = c.loop-card.places.items in
    let w = c.loop-card.invariant in
    let long : length a.q.cards ≡ 4 = search rules in
    elim c.match-card_for.branch [
      | in-At v ↦ rw (v.places-is, v.push.ensures.items) (looked_found s a.q a.leg k seen w (omega (arith, long)) (sym v.in-At.is ∙ c.card_for.ensures))
      | in_default v ↦
          rw v.places-is (looked_none s a.q a.leg k seen w (omega (arith, long)) (not_at s c.card_for.result v.in_default.not-At c.card_for.ensures))
    ]

pub returns : goal.returns
returns c =
    let a = c.args in
    let long : length a.q.cards ≡ 4 = search rules in
    looked_last a.bundle.now a.q a.leg c.loop-card.card-index c.loop-card.places.items c.loop-card.invariant (omega (arith, long, c.loop-card-test.false))
