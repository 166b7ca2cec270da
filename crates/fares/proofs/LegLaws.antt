-- What a leg's records and checks come to: the laws that the functions over a leg cite.
-- Assumes nothing.
use Prim.Native.Nat.{ℕ, ◌+◌, ◌≤◌, ◌<◌, zero-le, suc-le-suc}
use mathlib.Core.Path.{◌≡◌, refl, sym, ◌∙◌, ap₂}
use mathlib.Core.Bool.{Bool, true, false, cond}
use mathlib.Core.Logic.{◌⊎◌, ⊎_elim}
use mathlib.Core.List.{List, [], ◌∷◌, ◌++◌, map, flat_map, append-nil, append_assoc}
use native.Mathlib.Nat.{le_trans}
use native.Mathlib.Numerals.{add-one}
use native.Mathlib.Omega.{arith}
use lib.ListN.{length, get_or, drop, length-map, length-append, drop_of_length-le}
use lib.Seq.{drop-cons}
use Rattle.common.specs.declared.reasons.Reason.TheVariants.{NoConditions, DayOutside}
use Rattle.common.specs.Lists.{only}
use Rattle.common.specs.Checks.{refuse, fault, first_fault}
use Rattle.common.proofs.Only.{only_few}
use Rattle.common.proofs.Lists.{first_length, first_at}
use Rattle.layout.specs.Layout.{CO, AR, table_at}
use Rattle.layout.specs.Fields.{row_with, row_of, byte_of, is_yes}
use Rattle.bundle.specs.Records.{Rec, no_rec, records_of}
use Rattle.choice.specs.Choice.{choice_of}
use Rattle.choice.specs.Helpers.{at_place}
use Rattle.choice.specs.declared.Choice.{Choice}
use Rattle.choice.specs.declared.Choice.TheVariants.{At, NotThatDay, Nothing}
use Rattle.bundle.proofs.Here.{at_place_lem}
use Rattle.choice.proofs.WalkLaws.{is_nothing_lem, is_off_day_lem, choice_inside}
use Rattle.fares.specs.Question.{is_given, card_slots, cards_of}
use Rattle.fares.specs.Reductions.{conditions_grant, reduce_by, part_bound, greatest_part}
use Rattle.fares.specs.Cards.{after_cards}
use Rattle.fares.specs.Legs.{wanted_for, conditions_for, found, bodies, body_of, card_for, cards_for, applied_for, leg_checks, part_by, part_of}
use Rattle.fares.specs.Helpers.{place_of, bodies_at, cards_by, places_in, answer_of, answer_by}
use Rattle.fares.specs.declared.Leg.{Leg}
use Rattle.fares.specs.declared.Question.{Question}
use Rattle.arrayvec.specs.ArrayVec.{ArrayVec}
use Rattle.fares.proofs.StepLaws.{conditions_small, step_small, greater_is, bound_grows, part_small}
use Rattle.fares.proofs.LegCards.{after_small}

-- no question's bound is above the greatest
few_cards : (q : Question) → length (cards_of q) ≤ 4
few_cards q = omega (arith, only_few is_given (card_slots q), first_length 0 4 q.cards)

pub bound_most : (q : Question) → part_bound (length (cards_of q)) ≤ greatest_part
bound_most q = bound_grows (length (cards_of q)) 4 (few_cards q)

-- THE BOUND on a leg's part: a step for the CO, and one at most for each card
pub by_small : (n : ℕ) (q : Question) (leg : Leg) (co : List ℕ) (ars : List (List ℕ)) → length ars ≤ n → leg.fare ≤ 999999 → q.persons ≤ 99
    → part_by q leg co ars ≤ part_bound n
unfolding part_by
by_small n q leg co ars l hf hp =
    let a = step_small (conditions_grant co) (conditions_small co) leg.fare in
    part_small n (after_cards (reduce_by leg.fare (conditions_grant co)) ars) q.persons
    (omega (arith, a, after_small (reduce_by leg.fare (conditions_grant co)) ars, greater_is 1 n)) hp

module _ (R : List Rec) (q : Question) (leg : Leg) where
  -- each card has one record at most
  found_few : (cs : List ℕ) → length (flat_map (λ card. found (card_for R q leg card)) cs) ≤ length (only is_given cs)
  unfolding flat_map only
  found_few [] = zero-le
  found_few (c ∷ cs) = go (is_given c) (choice_of R (wanted_for AR c q leg)) (found_few cs)
    where
      go : (b : Bool) (v : Choice) → length (flat_map (λ card. found (card_for R q leg card)) cs) ≤ length (only is_given cs)
          → length (found (cond b v Nothing) ++ flat_map (λ card. found (card_for R q leg card)) cs) ≤ length (cond b (c ∷ only is_given cs) (only is_given cs))
      go true (At i) h = suc-le-suc h
      go true NotThatDay h = omega (arith, h)
      go true Nothing h = omega (arith, h)
      go false v h = h

  pub cards_few : length (cards_for R q leg) ≤ length (cards_of q)
  unfolding cards_for
  cards_few = found_few (card_slots q)

  applied_few : (co : List ℕ) → length (applied_for R q leg co) ≤ length (cards_of q)
  applied_few co = go (is_yes CO 33 co)
    where
      go : (b : Bool) → length (cond b (cards_for R q leg) []) ≤ length (cards_of q)
      go true = cards_few
      go false = zero-le

  pub applied_four : (co : List ℕ) → length (applied_for R q leg co) ≤ 4
  applied_four co = le_trans (applied_few co) (few_cards q)

  pub leg_small : leg.fare ≤ 999999 → q.persons ≤ 99 → part_of R q leg ≤ part_bound (length (cards_of q))
  leg_small =
      let co = body_of R (conditions_for R q leg) in
      let is = applied_for R q leg co in
      by_small (length (cards_of q)) q leg co (bodies R is) (omega (arith, length-map is (λ i. (get_or R i no_rec).body), applied_few co))

module _ (s : List ℕ) (q : Question) (leg : Leg) where
  abbrev R : List Rec
  R = records_of s

  abbrev conditions : Choice
  conditions = conditions_for R q leg

  -- the records that apply have the same bytes at their places
  abbrev per_card : ℕ → List ℕ
  per_card card = found (card_for R q leg card)

  found_bodies : (cs : List ℕ) → bodies_at s (map (place_of s) (flat_map per_card cs)) ≡ bodies R (flat_map per_card cs)
  unfolding flat_map
  found_bodies [] = refl
  found_bodies (c ∷ cs) =
      let w = wanted_for AR c q leg in
      go (is_given c) (choice_of R w) (choice_inside R w) (found_bodies cs)
    where
      go : (b : Bool) (v : Choice) → ((i : ℕ) → v ≡ At i → i < length R) → bodies_at s (map (place_of s) (flat_map per_card cs)) ≡ bodies R (flat_map per_card cs)
          → bodies_at s (map (place_of s) (found (cond b v Nothing) ++ flat_map per_card cs)) ≡ bodies R (found (cond b v Nothing) ++ flat_map per_card cs)
      go true (At i) h e = ap₂ ◌∷◌ (at_place_lem s i (h i refl)).0 e
      go true NotThatDay h e = e
      go true Nothing h e = e
      go false v h e = e

  -- THE LOOP over the slots: where the records found so far stand, and the slots yet to come
  abbrev places : List ℕ → List ℕ
  places cs = map (place_of s) (flat_map per_card cs)

  abbrev pub Looked : ℕ → List ℕ → Type 0
  Looked k seen = (length seen ≤ k) × (seen ++ places (drop k (card_slots q)) ≡ places (card_slots q))

  pub looked_first : Looked 0 []
  looked_first = (zero-le, refl)

  slots_long : length (card_slots q) ≡ 4
  slots_long = first_length 0 4 q.cards

  module _ (k : ℕ) (seen : List ℕ) (w : Looked k seen) (l : k < 4) where
    abbrev card : ℕ
    card = get_or q.cards k 0

    -- the slot at hand
    to_come : {v : Choice} → v ≡ card_for R q leg card
        → seen ++ (map (place_of s) (found v ++ flat_map per_card (drop (k + 1) (card_slots q)))) ≡ places (card_slots q)
    unfolding flat_map
    to_come e = rw (e, add-one, ← first_at 0 4 q.cards k l) (rw (drop-cons (card_slots q) k 0 (omega (arith, slots_long))) at w.1)

    yet_found : (v : Choice) {p : ℕ} → At p ≡ at_place s v → v ≡ card_for R q leg card
        → (seen ++ (p ∷ [])) ++ places (drop (k + 1) (card_slots q)) ≡ places (card_slots q)
    yet_found (At i) {p} e f =
        let g : place_of s i ≡ p = cc in
        append_assoc seen (p ∷ []) _ ∙ (rw (← g) (to_come f))
    yet_found NotThatDay e f = let z : ◌≡◌ {A = ℕ} 0 1 = cc in absurd (omega arith)
    yet_found Nothing e f = let z : ◌≡◌ {A = ℕ} 0 1 = cc in absurd (omega arith)

    pub looked_found : {p : ℕ} → At p ≡ at_place s (card_for R q leg card) → Looked (k + 1) (seen ++ (p ∷ []))
    looked_found {p} e = (omega (arith, length-append seen (p ∷ []), w.0), yet_found (card_for R q leg card) e refl)

    pub looked_none : (card_for R q leg card ≡ NotThatDay) ⊎ (card_for R q leg card ≡ Nothing) → Looked (k + 1) seen
    looked_none h = (omega (arith, w.0), ⊎_elim (λ e. to_come (sym e)) (λ e. to_come (sym e)) h)

  pub looked_last : (k : ℕ) (seen : List ℕ) → Looked k seen → 4 ≤ k → seen ≡ map (place_of s) (cards_for R q leg)
  unfolding cards_for flat_map
  looked_last k seen w l = sym (append-nil seen) ∙ (rw (drop_of_length-le (card_slots q) {i = k} (omega (arith, slots_long))) at w.1)

  applied_bodies : (co : List ℕ) → bodies_at s (map (place_of s) (applied_for R q leg co)) ≡ bodies R (applied_for R q leg co)
  unfolding cards_for
  applied_bodies co = go (is_yes CO 33 co)
    where
      go : (b : Bool) → bodies_at s (map (place_of s) (cond b (flat_map per_card (card_slots q)) [])) ≡ bodies R (cond b (flat_map per_card (card_slots q)) [])
      go true = found_bodies (card_slots q)
      go false = refl

  -- no card counts where there is no CO,
  pub no_conditions_cards : (conditions ≡ NotThatDay) ⊎ (conditions ≡ Nothing) → applied_for R q leg (body_of R conditions) ≡ []
  unfolding is_yes byte_of row_of row_with table_at
  no_conditions_cards h = ⊎_elim (λ e. rw e) (λ e. rw e) h

  -- and as the CO's flag 33 says
  pub flag_cards : {i : ℕ} {co : List ℕ} {b : Bool} → conditions ≡ At i → co ≡ (get_or R i no_rec).body → b ≡ is_yes CO 33 co
      → applied_for R q leg (body_of R conditions) ≡ cond b (cards_for R q leg) []
  flag_cards e f g = rw (e, g, f)

  -- what the choice of the CO says of the leg: a refusal,
  module _ (k : ℕ) where
    pub no_conditions : at_place s conditions ≡ Nothing → first_fault (leg_checks R q k leg) ≡ fault (refuse NoConditions k 0)
    unfolding first_fault
    no_conditions e = rw (is_nothing_lem s conditions e)

    pub off_day : at_place s conditions ≡ NotThatDay → first_fault (leg_checks R q k leg) ≡ fault (refuse DayOutside k 0)
    unfolding first_fault
    off_day e = rw (is_off_day_lem s conditions e)

    -- or the answer by its place and the places of the cards' records
    pub by_places : {i : ℕ} {co : List ℕ} {cards : ArrayVec ℕ} → conditions ≡ At i → co ≡ (get_or R i no_rec).body
        → cards ≡ cards_by (map (place_of s) (applied_for R q leg (body_of R conditions))) → answer_by q k leg co (bodies_at s (places_in cards)) ≡ answer_of R q k leg
    unfolding first_fault answer_of answer_by
    by_places e f g =
        rw (f, g, applied_bodies (body_of R conditions), e)
