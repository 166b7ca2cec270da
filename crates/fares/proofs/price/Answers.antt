-- `fares::price` meets its contract. The loop's invariant: it stands before leg k.
-- Assumes nothing.
use Rattle.std.proofs.Common.{sym, ◌∙◌, arith}
use Rattle.std.proofs.lemmas.Result.{err_from_is_err_and}
use Rattle.fares.proofs.FareLaws.{asked}
use Rattle.fares.proofs.PriceLaws.{limits_fail, cards_fail, before_first, fare_small, fare_of_leg, leg_refused, leg_priced, all_well}
use Rattle.fares.proofs.price.Goals as goal

pub returns-then-not-in_limits : goal.returns-then-not-in_limits
returns-then-not-in_limits c = limits_fail _ _ (sym c.if-not-in_limits.ensures) c.refuse.ensures

pub returns-then-not-cards_differ : goal.returns-then-not-cards_differ
returns-then-not-cards_differ c = cards_fail _ _ (sym c.if-not-in_limits.ensures) (sym c.if-not-cards_differ.ensures) c.refuse-then-not-cards_differ.ensures

pub loop-k-init : goal.loop-k-init
loop-k-init c = before_first _ _ (sym c.if-not-in_limits.ensures) (sym c.if-not-cards_differ.ensures)

pub bounds-legs-k : goal.bounds-legs-k
bounds-legs-k c = omega (arith, (asked _ c.loop-k.invariant.limits).few)

pub price_leg-requires : goal.price_leg-requires
price_leg-requires c = (fare_of_leg _ _ c.loop-k.invariant c.loop-k-test.true, (asked _ c.loop-k.invariant.limits).persons)

pub returns-in_err-part : goal.returns-in_err-part
returns-in_err-part c =
    let p = err_from_is_err_and c.from_residual.result c.from_residual.ensures.1 in
    rw (p.1, p.2) (leg_refused _ _ c.loop-k.invariant c.loop-k-test.true (sym c.price_leg.ensures ∙ c.in_err-part.was))

pub bounds-parts-k : goal.bounds-parts-k
bounds-parts-k c = omega (arith, (asked _ c.loop-k.invariant.limits).few)

pub overflow_add-fare : goal.overflow_add-fare
overflow_add-fare c =
    omega (arith, fare_small _ _ (leg_priced _ _ c.loop-k.invariant c.loop-k-test.true (sym c.price_leg.ensures ∙ c.in_ok-part.was)))

-- a part was told: the loop stands before the next leg
pub loop-k-preserved : goal.loop-k-preserved
loop-k-preserved c = leg_priced _ _ c.loop-k.invariant c.loop-k-test.true (sym c.price_leg.ensures ∙ c.in_ok-part.was)

pub returns : goal.returns
returns c = all_well _ _ c.loop-k.invariant c.loop-k-test.false
