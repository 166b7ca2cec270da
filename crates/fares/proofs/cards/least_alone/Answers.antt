-- `fares::cards::least_alone` meets its contract. The loop's invariant: the least so far, and the records that are left.
-- Assumes nothing.
use Prim.Native.Nat.{ℕ, ◌+◌, ◌<◌}
use mathlib.Core.Path.{◌≡◌, sym, ◌∙◌}
use mathlib.Core.Bool.{Bool, cond}
use mathlib.Core.List.{List, []}
use native.Mathlib.Omega.{arith}
use lib.ListN.{length, drop, get_or}
use Rattle.fares.specs.Reductions.{card_grants, reduce_by}
use Rattle.fares.specs.Cards.{is_together, lesser, least_from}
use Rattle.fares.specs.Helpers.{bodies_at, alone_from}
use Rattle.fares.proofs.LeastLaws.{least_is}
use Rattle.fares.proofs.LegCards.{card_bodies_long, card_body_at, alone_step, alone_last}
use Rattle.fares.proofs.cards.least_alone.Goals as goal
use Rattle.fares.proofs.cards.least_alone.Goals.{then-not-is_cumulative, else-not-is_cumulative}

pub loop-place-preserved : goal.loop-place-preserved
loop-place-preserved c =
    let a = c.args in
    let k = c.loop-place.place-index in
    let least = c.loop-place.least in
    let ars : List (List ℕ) = bodies_at a.bundle.now a.places.now in
    let ar : List ℕ = get_or ars k [] in
    let n : k < length ars = omega (arith, c.loop-place-test.true, card_bodies_long a.bundle.now a.places.now) in
    let body : c.body_at-ar.result.now ≡ ar = c.body_at-ar.ensures ∙ sym (card_body_at a.bundle.now a.places.now k c.loop-place-test.true) in
    let step : (t : Bool) → c.is_cumulative.result ≡ t
    → least_from (cond t least (lesser least (reduce_by a.amount (card_grants ar)))) (alone_from a.amount (drop (k + 1) ars)) ≡ least_from a.first (alone_from a.amount ars) =
    λ t e.
    let f : is_together ar ≡ t = rw (← body) (sym c.is_cumulative.ensures ∙ e) in
    sym (alone_step a.amount ars k n least f) ∙ c.loop-place.invariant
    in
    elim c.if-not-is_cumulative.branch [
      | then-not-is_cumulative w ↦
          let e : w.min-least.result ≡ lesser least (reduce_by a.amount (card_grants ar)) =
          w.min-least.ensures ∙ (rw (w.after_alone.ensures, body) (least_is least (reduce_by a.amount (card_grants ar)))) in
          rw (w.least-is ∙ e) (step _ w.if-not-is_cumulative.true)
      | else-not-is_cumulative w ↦ rw w.least-is (step _ w.if-not-is_cumulative.false)
    ]

pub returns : goal.returns
returns c =
    let a = c.args in
    let ars = bodies_at a.bundle.now a.places.now in
    sym (alone_last a.amount c.loop-place.least c.loop-place.place-index ars (omega (arith, c.loop-place-test.false, card_bodies_long a.bundle.now a.places.now)))
    ∙ c.loop-place.invariant
