-- THE LIMITS OF A QUESTION: the test passes exactly if each value is within its own.
-- Assumes nothing.
use Prim.Native.Nat.{ℕ, ◌≤◌, ◌<◌}
use mathlib.Core.Path.{◌≡◌, refl}
use mathlib.Core.Bool.{Bool, true, false, ◌&&◌, and-true}
use native.Mathlib.Omega.{arith}
use lib.Dec.{leb}
use lib.ListN.{length, get_or}
use borrow.Author.Tests.{leb-true, le-leb}
use Rattle.common.specs.Lists.{every}
use Rattle.common.proofs.Tests.{both_true, in_range}
use Rattle.common.proofs.Lists.{every_at, every_by, first_length, first_at}
use Rattle.layout.specs.Company.{is_railway}
use Rattle.layout.specs.Dates.{is_day}
use Rattle.layout.proofs.Calendar.{a_day_is_real, real_is_a_day}
use Rattle.fares.specs.Question.{between, leg_in_limits, no_leg, legs_of, card_slots, cards_in_limits, limits_of, in_limits}
use Rattle.fares.specs.Helpers.{trip_in_limits}
use Rattle.fares.specs.Meaning.{LegInLimits, leg_at, InLimits}
use Rattle.fares.specs.declared.Leg.{Leg}
use Rattle.fares.specs.declared.Question.{Question}
use Rattle.fares.proofs.CardSlots.{slots_mean, means_slots}

is_between : (lowest v highest : ℕ) → (lowest ≤ v) × (v ≤ highest) → between lowest highest v ≡ true
is_between lowest v highest h = rw (le-leb lowest v h.0, le-leb v highest h.1)

leg_means : (leg : Leg) → leg_in_limits leg ≡ true → LegInLimits leg
unfolding is_railway
leg_means leg e =
    let b = both_true (is_railway leg.railway) (leb leg.fare 999999) e in
    record { railway = in_range 1 leg.railway 9999 b.0; fare = leb-true leg.fare 999999 b.1 }

means_leg : (leg : Leg) → LegInLimits leg → leg_in_limits leg ≡ true
unfolding is_railway
means_leg leg h = rw (is_between 1 leg.railway 9999 h.railway, le-leb leg.fare 999999 h.fare)

-- no more than eight legs
pub trip_few : (offer day persons count : ℕ) → trip_in_limits offer day persons count ≡ true → count ≤ 8
unfolding trip_in_limits
trip_few offer day persons count e =
    let a = both_true (between 1 99999 offer) (is_day day && (between 1 99 persons && between 1 8 count)) e in
    let b = both_true (is_day day) (between 1 99 persons && between 1 8 count) a.1 in
    (in_range 1 count 8 (both_true (between 1 99 persons) (between 1 8 count) b.1).1).1

module _ (q : Question) where
  leg_is : (k : ℕ) → k < q.count → get_or (legs_of q) k no_leg ≡ leg_at q k
  leg_is k l = first_at no_leg q.count q.legs k l

  count_is : length (legs_of q) ≡ q.count
  count_is = first_length no_leg q.count q.legs

  -- what is asked for besides cards and legs, then the cards, then the legs
  pub limits_apart : in_limits q ≡ (trip_in_limits q.offer q.day q.persons q.count && (cards_in_limits (card_slots q) && every leg_in_limits (legs_of q)))
  unfolding in_limits every trip_in_limits
  limits_apart =
      go (between 1 99999 q.offer) (is_day q.day) (between 1 99 q.persons) (cards_in_limits (card_slots q)) (between 1 8 q.count)
      (every leg_in_limits (legs_of q))
    where
      go : (offer day persons cards count legs : Bool)
          → (offer && (day && (persons && (cards && (count && (legs && true)))))) ≡ ((offer && (day && (persons && count))) && (cards && legs))
      go false day persons cards count legs = refl
      go true false persons cards count legs = refl
      go true true false cards count legs = refl
      go true true true false true legs = refl
      go true true true false false legs = refl
      go true true true true false legs = refl
      go true true true true true legs = and-true legs

  pub limits_mean : in_limits q ≡ true → InLimits q
  unfolding in_limits
  limits_mean e =
      let t : (k : ℕ) → k < 6 → get_or (limits_of q) k true ≡ true = λ k l. every_at (λ b. b) (limits_of q) e k true l in
      record {
        offer = in_range 1 q.offer 99999 (t 0 (omega arith));
        day = a_day_is_real q.day (t 1 (omega arith));
        persons = in_range 1 q.persons 99 (t 2 (omega arith));
        cards = (slots_mean q (t 3 (omega arith))).0;
        used_first = (slots_mean q (t 3 (omega arith))).1;
        count = in_range 1 q.count 8 (t 4 (omega arith));
        legs = λ k l. leg_means (leg_at q k) (rw (leg_is k l) at (every_at leg_in_limits (legs_of q) (t 5 (omega arith)) k no_leg (omega (arith, count_is))));
      }

  pub means_limits : InLimits q → in_limits q ≡ true
  unfolding in_limits every
  means_limits h =
      let legs : every leg_in_limits (legs_of q) ≡ true =
      every_by leg_in_limits no_leg (legs_of q)
      (λ k l. let m : k < q.count = omega (arith, count_is) in rw (leg_is k m) (means_leg (leg_at q k) (h.legs k m))) in
      rw (
        is_between 1 q.offer 99999 h.offer,
        real_is_a_day q.day h.day,
        is_between 1 q.persons 99 h.persons,
        means_slots q h.cards h.used_first,
        is_between 1 q.count 8 h.count,
        legs,
      )
