-- `fares::limits::in_limits` meets its contract: what is asked for besides cards and legs, then the cards, then the legs.
-- Assumes nothing.
use mathlib.Core.Path.{◌≡◌, refl, sym, ◌∙◌, ap}
use mathlib.Core.Bool.{true}
use native.Mathlib.Omega.{arith}
use lib.ListN.{length, take}
use borrow.Author.Rules.{rules}
use Rattle.common.specs.Lists.{every}
use Rattle.common.proofs.Tests.{fails, holds}
use Rattle.fares.specs.Question.{leg_in_limits, no_leg, legs_of, card_slots, cards_in_limits}
use Rattle.fares.specs.Helpers.{trip_in_limits}
use Rattle.fares.specs.declared.Question.{Question}
use Rattle.fares.proofs.Chains.{all_is, first_is}
use Rattle.fares.proofs.QuestionLimits.{limits_apart, trip_few}
use Rattle.fares.proofs.limits.in_limits.Goals as goal

pub returns-then-not-trip_in_limits : goal.returns-then-not-trip_in_limits
returns-then-not-trip_in_limits c = sym (limits_apart c.args.q ∙ rw (fails c.trip_in_limits.result c.if-not-trip_in_limits.true-raw c.trip_in_limits.ensures))

pub returns-then-not-cards_in_limits : goal.returns-then-not-cards_in_limits
returns-then-not-cards_in_limits c =
    let asked : Question = c.args.q in
    let trip-in : let q = asked in trip_in_limits q.offer q.day q.persons q.count ≡ true = holds c.trip_in_limits.result c.if-not-trip_in_limits.false-raw c.trip_in_limits.ensures in
    sym (limits_apart (asked) ∙ rw (trip-in, fails c.cards_in_limits.result c.if-not-cards_in_limits.true-raw c.cards_in_limits.ensures))

pub shared_ref_as_front-legs_in_limits : goal.shared_ref_as_front-legs_in_limits
shared_ref_as_front-legs_in_limits c =
    let asked : Question = c.args.q in
    let trip-in : let q = asked in trip_in_limits q.offer q.day q.persons q.count ≡ true = holds c.trip_in_limits.result c.if-not-trip_in_limits.false-raw c.trip_in_limits.ensures in
    trip_few _ _ _ _ (trip-in)

pub returns : goal.returns
returns c =
    let asked : Question = c.args.q in
    let trip-in : let q = asked in trip_in_limits q.offer q.day q.persons q.count ≡ true = holds c.trip_in_limits.result c.if-not-trip_in_limits.false-raw c.trip_in_limits.ensures in
    let cards-in : cards_in_limits (card_slots (asked)) ≡ true = holds c.cards_in_limits.result c.if-not-cards_in_limits.false-raw c.cards_in_limits.ensures in
    let n = asked.count in
    let long : length (asked).legs ≡ 8 = search rules in
    let few = trip_few _ _ _ _ (trip-in) in
    let legs-in : c.legs_in_limits.result ≡ every leg_in_limits (legs_of (asked)) =
    c.legs_in_limits.ensures
    ∙ (all_is leg_in_limits leg_in_limits (λ leg. refl) (take n (asked).legs) ∙ ap (every leg_in_limits) (first_is no_leg n (asked).legs (omega (arith, long, few)))) in
    sym (limits_apart (asked) ∙ rw (trip-in, cards-in, ← legs-in))
