-- ONE CARD OR NONE: the base's limits, its parts and its first fault, and so its fare.
-- Assumes nothing.
use Prim.Native.Nat.{ℕ, zero, suc, ◌-◌, ◌*◌, ◌<◌, zero-le}
use mathlib.Core.Path.{◌≡◌, refl, sym, ◌∙◌, ap}
use mathlib.Core.Bool.{Bool, true, false, cond, not, ◌&&◌, ◌||◌, and-true}
use mathlib.Core.List.{List, [], ◌∷◌, ◌++◌, append-nil, map, flat_map}
use native.Mathlib.Omega.{arith}
use lib.Dec.{eqb, leb}
use lib.ListN.{length, get_or, replicate}
use lib.Seq.{ext_get_or}
use borrow.Author.Tests.{le-leb}
use Rattle.common.specs.Lists.{every, any, only}
use Rattle.common.specs.Rising.{insert_all}
use Rattle.common.specs.Checks.{first_fault}
use Rattle.common.proofs.Lists.{first_length, first_at}
use Rattle.common.proofs.Checks.{fault_append}
use Rattle.layout.specs.Layout.{CO, AR}
use Rattle.layout.specs.Fields.{is_yes}
use Rattle.bundle.specs.Records.{Rec, no_rec, records_of}
use Rattle.choice.specs.Choice.{choice_of}
use Rattle.bundle.specs.Verdict.{checks}
use Rattle.choice.specs.declared.Choice.{Choice}
use Rattle.choice.specs.declared.Choice.TheVariants.{At, NotThatDay, Nothing}
use Rattle.fares.specs.Question.{between, legs_of, is_given, card_slots, cards_of, cards_in_limits, cards_differ, in_limits}
use Rattle.fares.specs.Reductions.{conditions_grant, card_grants, reduce_by, reduce_all, part_bound}
use Rattle.fares.specs.Cards.{after_cards}
use Rattle.fares.specs.Legs.{wanted_for, conditions_for, found, bodies, body_of, card_for, cards_for, part_by, part_of}
use Rattle.fares.specs.Fare.{parts_of, price_checks, fare_checks, fare_of}
use Rattle.fares.specs.Meaning.{card_at}
use Rattle.fares.specs.OneCard.{OneCard, base_in_limits, base_part, base_parts, base_price, base_checks, base_fare, base_bound}
use Rattle.fares.specs.declared.Leg.{Leg}
use Rattle.fares.specs.declared.Question.{Question}
use Rattle.fares.proofs.LegCards.{one_choice}

-- the first slot decides
by_first : (c : ℕ) → cards_in_limits (c ∷ 0 ∷ 0 ∷ 0 ∷ []) ≡ between 0 999 c
unfolding cards_in_limits every
by_first c = rw (le-leb 0 c zero-le) (go (eqb c 0))
  where
    go : (z : Bool) → (leb c 999 && cond (not z) true true) ≡ leb c 999
    go true = and-true (leb c 999)
    go false = and-true (leb c 999)

module _ (q : Question) (o : OneCard q) where
  -- ITS SLOTS
  pub slots_are : card_slots q ≡ card_at q 0 ∷ 0 ∷ 0 ∷ 0 ∷ []
  slots_are =
      ext_get_or 0 (card_slots q) (card_at q 0 ∷ 0 ∷ 0 ∷ 0 ∷ []) (first_length 0 4 q.cards)
      (λ k l. let m : k < 4 = omega (arith, first_length 0 4 q.cards) in first_at 0 4 q.cards k m ∙ at k m)
    where
      at : (k : ℕ) → k < 4 → card_at q k ≡ get_or (card_at q 0 ∷ 0 ∷ 0 ∷ 0 ∷ []) k 0
      at zero l = refl
      at (suc zero) l = o 1 (omega arith) l
      at (suc (suc zero)) l = o 2 (omega arith) l
      at (suc (suc (suc zero))) l = o 3 (omega arith) l
      at (suc (suc (suc (suc k)))) l = absurd (omega arith)

  -- its limits, and that no card is given twice
  pub limits_are : in_limits q ≡ base_in_limits q
  unfolding in_limits base_in_limits
  limits_are = rw (slots_are, by_first (card_at q 0))

  pub cards_apart : cards_differ (card_slots q) ≡ true
  unfolding cards_differ any
  cards_apart = rw slots_are (go (eqb (card_at q 0) 0))
    where
      go : (z : Bool) → (not (not z && (z || (z || (z || false)))) && true) ≡ true
      go true = refl
      go false = refl

  -- the bound on its parts
  pub bound_is : part_bound (length (cards_of q)) ≡ base_bound
  unfolding only
  bound_is = rw slots_are (go (eqb (card_at q 0) 0))
    where
      go : (z : Bool) → part_bound (length (cond (not z) (card_at q 0 ∷ []) [])) ≡ base_bound
      go true = refl
      go false = refl

  -- ITS PARTS: the record of the one card alone is found,
  module _ (R : List Rec) (leg : Leg) where
    one_found : cards_for R q leg ≡ found (card_for R q leg (card_at q 0))
    unfolding cards_for flat_map
    one_found = rw slots_are (append-nil (found (card_for R q leg (card_at q 0))))

    -- it is the one choice whichever its flag is,
    one_left : (amount : ℕ) (c : Choice) → after_cards amount (bodies R (found c)) ≡ reduce_all amount (map card_grants (bodies R (found c)))
    unfolding after_cards only insert_all reduce_all
    one_left amount (At i) = one_choice amount (get_or R i no_rec).body
    one_left amount NotThatDay = refl
    one_left amount Nothing = refl

    -- and so is the part
    part_is : part_of R q leg ≡ base_part R q leg
    unfolding part_by base_part reduce_all
    part_is = ap (◌* q.persons) (go (is_yes CO 33 co))
      where
        co : List ℕ
        co = body_of R (conditions_for R q leg)

        amount : ℕ
        amount = reduce_by leg.fare (conditions_grant co)

        go : (y : Bool) → after_cards amount (bodies R (cond y (cards_for R q leg) []))
            ≡ reduce_all amount (map card_grants (bodies R (found (cond (y && is_given (card_at q 0)) (choice_of R (wanted_for AR (card_at q 0) q leg)) Nothing))))
        go true = rw one_found (one_left amount (card_for R q leg (card_at q 0)))
        go false = one_left amount Nothing

  pub parts_are : (R : List Rec) → parts_of R q ≡ base_parts R q
  unfolding parts_of base_parts
  parts_are R = λ j. map (λ leg. part_is R leg j) (legs_of q) ++ replicate (8 - q.count) 0

  -- the first fault, and the fare
  module _ (s : List ℕ) where
    pub faults_are : first_fault (fare_checks s q) ≡ first_fault (base_checks s q)
    unfolding fare_checks price_checks base_checks first_fault
    faults_are =
        fault_append (checks s) (price_checks (records_of s) q)
        ∙ (rw (limits_are, cards_apart) (sym (fault_append (checks s) (base_price (records_of s) q))))

    pub fare_is : fare_of s q ≡ base_fare s q
    unfolding fare_of base_fare
    fare_is = rw (faults_are, parts_are (records_of s))
