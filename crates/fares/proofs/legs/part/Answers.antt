-- `fares::legs::part` meets its contract.
-- Assumes nothing.
use Rattle.std.proofs.Common.{◌≡◌, ℕ, ◌≤◌, ◌*◌, List, length, ap, arith}
use lib.ListN.{length-map}
use Rattle.layout.specs.declared.fields.Grant.{Grant}
use Rattle.bundle.specs.Helpers.{body_at}
use Rattle.fares.specs.Reductions.{greatest_part, conditions_grant}
use Rattle.fares.specs.Legs.{part_by}
use Rattle.fares.specs.Helpers.{bodies_at}
use Rattle.fares.specs.declared.Leg.{Leg}
use Rattle.fares.specs.declared.Question.{Question}
use Rattle.fares.proofs.StepLaws.{conditions_small, step_small}
use Rattle.fares.proofs.LegLaws.{by_small}
use Rattle.fares.proofs.legs.part.Goals as goal

factor_small : (co : List ℕ) {g : Grant} → g ≡ conditions_grant co → g.factor ≤ 999
factor_small co e = rw e (conditions_small co)

-- an amount times the persons, told to be the part, is small
part_small : (bundle : List ℕ) (q : Question) (leg : Leg) (co places : List ℕ) {part : ℕ} → length places ≤ 4 → leg.fare ≤ 999999 → q.persons ≤ 99
    → part ≡ part_by q leg co (bodies_at bundle places) → part ≤ greatest_part
part_small bundle q leg co places few fare persons e =
    rw e (by_small 4 q leg co (bodies_at bundle places) (omega (arith, length-map places (body_at bundle))) fare persons)

pub reduce-reduced-requires : goal.reduce-reduced-requires
reduce-reduced-requires c = (omega arith, factor_small _ c.conditions_grant.ensures)

pub after_cards-amount-requires : goal.after_cards-amount-requires
after_cards-amount-requires c = (
  c.as_slice.ensures.fits,
  omega (arith, c.reduce-reduced.ensures, step_small c.conditions_grant.result (factor_small _ c.conditions_grant.ensures) c.args.leg.fare, c.requires.0),
)

pub overflow_mul-result : goal.overflow_mul-result
unfolding part_by
overflow_mul-result c =
    let a = c.args in
    let e : c.after_cards-amount.result * a.q.persons ≡ part_by a.q a.leg a.co.now (bodies_at a.bundle.now c.as_slice.result.now) = rw (← c.conditions_grant.ensures, ← c.reduce-reduced.ensures, ← c.after_cards-amount.ensures) in
    omega (arith, part_small a.bundle.now a.q a.leg a.co.now c.as_slice.result.now c.as_slice.ensures.fits c.requires.0 c.requires.1 e)

pub overflow_cast-result-2 : goal.overflow_cast-result-2
unfolding part_by
overflow_cast-result-2 c =
    let a = c.args in
    let e : c.after_cards-amount.result * a.q.persons ≡ part_by a.q a.leg a.co.now (bodies_at a.bundle.now c.as_slice.result.now) = rw (← c.conditions_grant.ensures, ← c.reduce-reduced.ensures, ← c.after_cards-amount.ensures) in
    omega (arith, part_small a.bundle.now a.q a.leg a.co.now c.as_slice.result.now c.as_slice.ensures.fits c.requires.0 c.requires.1 e)

pub returns : goal.returns
unfolding part_by
returns c = rw (← c.conditions_grant.ensures, ← c.reduce-reduced.ensures, ← c.as_slice.ensures.value, ← c.after_cards-amount.ensures)
