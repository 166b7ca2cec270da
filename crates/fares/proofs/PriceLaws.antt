-- What each leg adds to the price: the laws that the loop over the legs cites.
-- Assumes nothing.
use Prim.Native.Nat.{ℕ, ◌+◌, ◌-◌, ◌≤◌, ◌<◌}
use mathlib.Core.Path.{◌≡◌, refl, sym, ◌∙◌, ap₂}
use mathlib.Core.Bool.{true, false}
use mathlib.Core.List.{List, ◌++◌, map}
use mathlib.Core.Logic.{⊎_elim}
use native.Mathlib.Nat.{mul-le-mul_right, le_antisymm}
use native.Mathlib.Omega.{arith}
use lib.ListN.{length, take, drop, get_or, set, replicate}
use lib.Seq.{take_all}
use Rattle.std.specs.Prelude.{Ok, Err}
use Rattle.common.specs.declared.reasons.Reason.TheVariants.{OutsideLimits, CardTwice}
use Rattle.common.specs.Lists.{sum}
use Rattle.common.specs.Checks.{refuse, Finding, clean, fault, first_fault, each_from}
use Rattle.common.specs.declared.Refusal.{Refusal}
use Rattle.common.proofs.Lists.{first_length, first_at}
use Rattle.common.proofs.Checks.{by_finding, as_found, or_else, each_step, each_end}
use Rattle.common.proofs.Sums.{sum_padded, sum_next, fill_next}
use Rattle.bundle.specs.Records.{Rec}
use Rattle.fares.specs.Question.{no_leg, legs_of, card_slots, cards_differ, in_limits}
use Rattle.fares.specs.Reductions.{greatest_part, greatest_fare}
use Rattle.fares.specs.Legs.{leg_checks, part_of}
use Rattle.fares.specs.Fare.{parts_of, price_checks, quote}
use Rattle.fares.specs.Helpers.{answered, answer_of, price_of}
use Rattle.fares.specs.declared.Leg.{Leg}
use Rattle.fares.specs.declared.Question.{Question}
use Rattle.fares.proofs.FareLaws.{Asked, asked, sum_of_parts}

-- an answer tells what was found
module _ (f : Finding) (part : ℕ) where
  is_refused : (r : Refusal) → answered f part ≡ Err r → f ≡ fault r
  is_refused r e = ⊎_elim (λ h. cc) (λ h. cc) (by_finding f part e)

  is_part : (x : ℕ) → answered f part ≡ Ok x → (f ≡ clean) × (part ≡ x)
  is_part x e = ⊎_elim (λ h. (h.0, cc)) (λ h. (cc, cc)) (by_finding f part e)

module _ (R : List Rec) (q : Question) where
  no_fare_told : {r x : Refusal} → first_fault (price_checks R q) ≡ fault r → x ≡ r → Err x ≡ price_of R q
  unfolding price_of
  no_fare_told e f = as_found _ e f

  pub limits_fail : {x : Refusal} → in_limits q ≡ false → x ≡ refuse OutsideLimits 0 0 → Err x ≡ price_of R q
  unfolding price_checks first_fault
  limits_fail e = no_fare_told (rw e)

  pub cards_fail : {x : Refusal} → in_limits q ≡ true → cards_differ (card_slots q) ≡ false → x ≡ refuse CardTwice 0 0 → Err x ≡ price_of R q
  unfolding price_checks first_fault
  cards_fail e f = no_fare_told (rw (e, f))

  -- what is found from leg k on
  pub left : ℕ → Finding
  left k = first_fault (each_from k (leg_checks R q) (drop k (legs_of q)))

  -- WHERE THE LOOP STANDS: the question is in its limits; the parts of the legs before k are in front, the fare is their sum, and what is found is found from
  -- leg k on
  pub record Before (k : ℕ) (parts : List ℕ) (fare : ℕ) : Type 0 where
    pub inside : k ≤ q.count
    pub limits : in_limits q ≡ true
    pub differ : cards_differ (card_slots q) ≡ true
    pub filled : parts ≡ map (part_of R q) (take k (legs_of q)) ++ replicate (8 - k) 0
    pub summed : fare ≡ sum (map (part_of R q) (take k (legs_of q)))
    pub yet : first_fault (price_checks R q) ≡ left k

  pub before_first : in_limits q ≡ true → cards_differ (card_slots q) ≡ true → Before 0 (replicate 8 0) 0
  unfolding price_checks first_fault left sum
  before_first e d = record { inside = omega arith; limits = e; differ = d; filled = refl; summed = refl; yet = rw (e, d) }

  as_many : length (legs_of q) ≡ q.count
  as_many = first_length no_leg q.count q.legs

  module _ {k : ℕ} {parts : List ℕ} {fare : ℕ} (b : Before k parts fare) where
    abbrev of_question : Asked q
    of_question = asked q b.limits

    pub fare_small : fare ≤ greatest_fare
    fare_small =
        let i = b.inside in
        let h : k ≤ 8 = omega (arith, of_question.few) in
        omega (arith, b.summed, sum_of_parts R q of_question k (omega (arith, as_many)), mul-le-mul_right greatest_part h)

    -- one leg more: it is refused, or its part is the next
    module _ (l : k < q.count) where
      abbrev leg : Leg
      leg = get_or (legs_of q) k no_leg

      below : k < length (legs_of q)
      below = omega (arith, as_many)

      pub fare_of_leg : (get_or q.legs k no_leg).fare ≤ 999999
      fare_of_leg = rw (← first_at no_leg q.count q.legs k l) (of_question.fares k below)

      on_leg : answer_of R q k (get_or q.legs k no_leg) ≡ answered (first_fault (leg_checks R q k leg)) (part_of R q leg)
      unfolding answer_of
      on_leg = rw (first_at no_leg q.count q.legs k l)

      step : left k ≡ or_else (first_fault (leg_checks R q k leg)) (left (k + 1))
      unfolding left
      step = each_step (leg_checks R q) (legs_of q) k no_leg below

      pub leg_refused : {r : Refusal} → answer_of R q k (get_or q.legs k no_leg) ≡ Err r → Err r ≡ price_of R q
      leg_refused {r} h =
          let f = is_refused (first_fault (leg_checks R q k leg)) (part_of R q leg) r (sym on_leg ∙ h) in
          no_fare_told (b.yet ∙ (step ∙ rw f)) refl

      pub leg_priced : {x : ℕ} → answer_of R q k (get_or q.legs k no_leg) ≡ Ok x → Before (k + 1) (set parts k x) (fare + x)
      leg_priced {x} h =
          let d = is_part (first_fault (leg_checks R q k leg)) (part_of R q leg) x (sym on_leg ∙ h) in
          record {
            inside = omega arith;
            limits = b.limits;
            differ = b.differ;
            filled = ap₂ (λ xs y. set xs k y) b.filled (sym d.1) ∙ fill_next (part_of R q) (legs_of q) k no_leg below 8 (omega (arith, of_question.few));
            summed = omega (arith, b.summed, d.1, sum_next (part_of R q) (legs_of q) k no_leg below);
            yet = b.yet ∙ (step ∙ rw d.0);
          }

    -- no leg is left: all is well
    module _ (l : q.count ≤ k) where
      all_legs : take k (legs_of q) ≡ legs_of q
      all_legs = take_all k (legs_of q) (omega (arith, as_many))

      all_parts : parts ≡ parts_of R q
      unfolding parts_of
      all_parts = b.filled ∙ rw (all_legs, le_antisymm b.inside l)

      all_sum : fare ≡ sum (parts_of R q)
      unfolding parts_of
      all_sum = b.summed ∙ rw all_legs (sym (sum_padded (map (part_of R q) (legs_of q)) (8 - q.count)))

      none_found : first_fault (price_checks R q) ≡ clean
      unfolding left
      none_found = b.yet ∙ each_end (leg_checks R q) (legs_of q) k (omega (arith, as_many))

      pub all_well : Ok (quote fare parts) ≡ price_of R q
      unfolding price_of
      all_well = (λ j. Ok (quote (all_sum j) (all_parts j))) ∙ rw none_found
