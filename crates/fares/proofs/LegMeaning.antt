-- A LEG BY MEANING: what its checks find and what its part is, from the records that the rules choose, and back.
-- Assumes nothing.
use Prim.Native.Nat.{ℕ, ◌*◌, ◌≤◌, ◌<◌}
use mathlib.Core.Path.{◌≡◌, refl, sym, ◌∙◌, ap}
use mathlib.Core.Bool.{Bool, true, false, cond, ◌&&◌}
use mathlib.Core.List.{List, [], ◌∷◌, ◌++◌}
use mathlib.Core.Logic.{◌⊎◌, inl, inr, ⊎_elim}
use native.Mathlib.Omega.{arith}
use lib.Dec.{eqb, leb, ltb}
use borrow.Author.Tests.{eqb-true, eq-eqb, ne_eqb, leb-true, le-leb, ltb-true}
use Rattle.std.specs.Prelude.{Some, None}
use Rattle.common.specs.declared.reasons.Reason.{Reason}
use Rattle.common.specs.declared.reasons.Reason.TheVariants.{NoConditions, DayOutside, PersonsOutside, ConditionUnread}
use Rattle.common.specs.Lists.{every, any}
use Rattle.common.specs.Reasons.{number_of_reason}
use Rattle.common.specs.Checks.{refuse, clean, fault, first_fault, IsFault}
use Rattle.common.proofs.Tests.{never, both_true, either_false, refuted}
use Rattle.layout.specs.Bytes.{byte_Y}
use Rattle.layout.specs.Layout.{CO, table_at}
use Rattle.layout.specs.Fields.{row_with, row_of, byte_of, number_in, is_flag_row, is_yes, of_offers}
use Rattle.bundle.specs.Records.{Rec}
use Rattle.choice.specs.Choice.{for_legs}
use Rattle.choice.specs.Chosen.{For, Chosen, used, not_that_day, nothing}
use Rattle.bundle.specs.Meaning.{record_at, Good}
use Rattle.choice.specs.declared.Choice.{Choice}
use Rattle.choice.specs.declared.Choice.TheVariants.{At, NotThatDay, Nothing}
use Rattle.choice.proofs.Chosen.{choice_means, uses_either, chosen_only}
use Rattle.fares.specs.Reductions.{conditions_grant, reduce_by}
use Rattle.fares.specs.Cards.{after_cards}
use Rattle.fares.specs.Legs.{wanted_for, conditions_for, bodies, applied_for, most_of, persons_fit, unread, first_set, condition_checks, leg_checks, part_by, part_of}
use Rattle.fares.specs.Meaning.{CardsDiffer, PersonsFit, NoneSet, FirstSet, unread_fields, IsConditions, LegFare, TurnedAway, no_conditions, none_valid, persons_outside, unread as condition-unread}
use Rattle.fares.specs.declared.Leg.{Leg}
use Rattle.fares.specs.declared.Question.{Question}
use Rattle.fares.proofs.Grants.{Lawful, conditions_lawful}
use Rattle.fares.proofs.RecordMeaning.{reduced_by, reduced_only}
use Rattle.fares.proofs.PermittedMeaning.{cards_mean, cards_only}

-- THE PERSONS
module _ (co : List ℕ) (persons : ℕ) where
  fit_means : persons_fit co persons ≡ true → PersonsFit co persons
  unfolding persons_fit
  fit_means e =
      let b = both_true (leb (number_in CO 28 co) persons) (leb persons (most_of co)) e in
      (leb-true _ _ b.0, by_most (eqb (number_in CO 29 co) 0) refl b.1)
    where
      by_most : (z : Bool) → eqb (number_in CO 29 co) 0 ≡ z → leb persons (cond z 99 (number_in CO 29 co)) ≡ true
          → (persons ≤ number_in CO 29 co) ⊎ ((number_in CO 29 co ≡ 0) × (persons ≤ 99))
      by_most true u v = inr (eqb-true _ _ u, leb-true _ _ v)
      by_most false u v = inl (leb-true _ _ v)

  means_fit : PersonsFit co persons → persons_fit co persons ≡ true
  unfolding persons_fit
  means_fit h = rw (le-leb (number_in CO 28 co) persons h.0) (by_most (eqb (number_in CO 29 co) 0) refl)
    where
      by_most : (z : Bool) → eqb (number_in CO 29 co) 0 ≡ z → leb persons (cond z 99 (number_in CO 29 co)) ≡ true
      by_most true u = le-leb _ _ (⊎_elim (λ l. omega (arith, eqb-true (number_in CO 29 co) 0 u)) (λ l. l.1) h.1)
      by_most false u = le-leb _ _ (⊎_elim (λ l. l) (λ l. never (eq-eqb (number_in CO 29 co) 0 l.0) u) h.1)

-- THE CONDITIONS UNREAD, fields that are flags
abbrev AreFlags : List ℕ → Type 0
AreFlags fs = every (λ f. is_flag_row (row_of CO f)) fs ≡ true

abbrev is_set : List ℕ → ℕ → Bool
is_set co f = eqb (byte_of CO f co) byte_Y

module _ (co : List ℕ) where
  yes_is : (f : ℕ) → is_flag_row (row_of CO f) ≡ true → is_yes CO f co ≡ is_set co f
  unfolding is_yes
  yes_is f e = rw e

  abbrev SetOrNot : List ℕ → Type 0
  SetOrNot fs = ((first_set fs co ≡ None) × NoneSet fs co) ⊎ ((f : ℕ) × (first_set fs co ≡ Some f) × FirstSet fs co f)

  set_means : (fs : List ℕ) → AreFlags fs → SetOrNot fs
  unfolding every any
  set_means [] e = inl (refl, refl)
  set_means (f ∷ fs) e =
      let b = both_true (is_flag_row (row_of CO f)) (every (λ f. is_flag_row (row_of CO f)) fs) e in
      rw (yes_is f b.0) (go (is_set co f) refl (set_means fs b.1))
    where
      go : (y : Bool) → is_set co f ≡ y → SetOrNot fs
          → let g = cond y (Some f) (first_set fs co) in ((g ≡ None) × NoneSet (f ∷ fs) co) ⊎ ((h : ℕ) × (g ≡ Some h) × FirstSet (f ∷ fs) co h)
      go true y ih = inr (f, refl, record { earlier = []; later = fs; split = refl; set = eqb-true _ _ y; none_earlier = refl })
      go false y (inl h) = inl (h.0, rw y h.1)
      go false y (inr h) =
          let r = h.2 in
          inr (h.0, h.1, record { earlier = f ∷ r.earlier; later = r.later; split = ap (f ∷◌) r.split; set = r.set; none_earlier = rw y r.none_earlier })

  -- and the other way
  none_set : (fs : List ℕ) → AreFlags fs → NoneSet fs co → first_set fs co ≡ None
  unfolding every any
  none_set [] e h = refl
  none_set (f ∷ fs) e h =
      let b = both_true (is_flag_row (row_of CO f)) (every (λ f. is_flag_row (row_of CO f)) fs) e in
      let d = either_false (is_set co f) (any (is_set co) fs) h in
      rw (yes_is f b.0, d.0) (none_set fs b.1 d.1)

  one_set : (earlier : List ℕ) (f : ℕ) (later : List ℕ) → AreFlags (earlier ++ (f ∷ later)) → byte_of CO f co ≡ byte_Y → NoneSet earlier co
      → first_set (earlier ++ (f ∷ later)) co ≡ Some f
  unfolding every any
  one_set [] f later e s n =
      let b = both_true (is_flag_row (row_of CO f)) (every (λ f. is_flag_row (row_of CO f)) later) e in
      rw (yes_is f b.0, eq-eqb _ _ s)
  one_set (g ∷ earlier) f later e s n =
      let b = both_true (is_flag_row (row_of CO g)) (every (λ f. is_flag_row (row_of CO f)) (earlier ++ (f ∷ later))) e in
      let d = either_false (is_set co g) (any (is_set co) earlier) n in
      rw (yes_is g b.0, d.0) (one_set earlier f later b.1 s d.1)

unread_flags : AreFlags unread_fields
unfolding every row_of row_with table_at
unread_flags = refl

first_unread : (co : List ℕ) → SetOrNot co unread_fields
first_unread co = set_means co unread_fields unread_flags

none_unread_is : (co : List ℕ) → NoneSet unread_fields co → first_set unread co ≡ None
unfolding unread
none_unread_is co = none_set co unread_fields unread_flags

one_unread_is : (co : List ℕ) (f : ℕ) → FirstSet unread_fields co f → first_set unread co ≡ Some f
unfolding unread
one_unread_is co f h =
    ap (λ fs. first_set fs co) h.split ∙ one_set co h.earlier f h.later (rw h.split at unread_flags) h.set h.none_earlier

-- A LEG of an accepted bundle
conditions_legs : for_legs CO ≡ true
unfolding for_legs of_offers any every table_at
conditions_legs = refl

module _ (s : List ℕ) (R : List Rec) (g : Good s R) (q : Question) (leg : Leg) where
  conditions_mean : Chosen R CO q.offer 0 leg.railway q.day (conditions_for R q leg)
  conditions_mean = choice_means s R g (wanted_for CO 0 q leg) conditions_legs

  is_conditions : (c : Choice) → Chosen R CO q.offer 0 leg.railway q.day c → conditions_for R q leg ≡ c
  is_conditions c m = chosen_only s R g CO conditions_legs q.offer 0 leg.railway q.day _ c conditions_mean m

  conditions_at : (i : ℕ) → IsConditions R q leg i → conditions_for R q leg ≡ At i
  conditions_at i u = is_conditions (At i) (used i u)

  -- what the record grants
  conditions_grant_lem : (i : ℕ) → IsConditions R q leg i → Lawful (conditions_grant (record_at R i).body)
  conditions_grant_lem i u = ⊎_elim by_record by_record (uses_either R CO q.offer 0 leg.railway q.day i u).0
    where
      by_record : {railway : ℕ} → For R CO q.offer 0 railway i → Lawful (conditions_grant (record_at R i).body)
      by_record f = conditions_lawful (record_at R i) (g.fields i f.0) f.1.table

  -- what the cards leave of an amount
  abbrev after : List ℕ → ℕ → ℕ
  after co before = after_cards before (bodies R (applied_for R q leg co))

  -- WHAT IS FOUND of leg k
  module _ (k : ℕ) where
    at_record : (i : ℕ) → conditions_for R q leg ≡ At i → first_fault (leg_checks R q k leg) ≡ first_fault (condition_checks q k (record_at R i).body)
    unfolding first_fault
    at_record i e = rw e

    part_at : (i : ℕ) → conditions_for R q leg ≡ At i
        → part_of R q leg ≡ after (record_at R i).body (reduce_by leg.fare (conditions_grant (record_at R i).body)) * q.persons
    unfolding part_by
    part_at i e = rw e

    abbrev Found : Type 0
    Found = ((first_fault (leg_checks R q k leg) ≡ clean) × LegFare R q leg (part_of R q leg))
        ⊎ ((n : Reason) × (d : ℕ) × (first_fault (leg_checks R q k leg) ≡ fault (refuse n k d)) × TurnedAway R q leg (number_of_reason n) d)

    -- by its CO, where no card is given twice
    module _ (d : CardsDiffer q) (i : ℕ) (e : conditions_for R q leg ≡ At i) (u : IsConditions R q leg i) where
      abbrev co : List ℕ
      co = (record_at R i).body

      by_unread : PersonsFit co q.persons → persons_fit co q.persons ≡ true → Found
      unfolding first_fault unread
      by_unread p b =
          ⊎_elim
          (λ z. inl (
            at_record i e ∙ rw (b, z.0),
            record {
              at = i;
              is_conditions = u;
              persons_fit_lem = p;
              none_unread = z.1;
              amount = reduce_by leg.fare (conditions_grant co);
              reduced = reduced_by CO 39 40 41 co (conditions_grant_lem i u) leg.fare;
              last = after co (reduce_by leg.fare (conditions_grant co));
              by_cards = cards_mean s R g q leg co d (reduce_by leg.fare (conditions_grant co));
              times_persons = part_at i e;
            },
          ))
          (λ z. inr (ConditionUnread, z.0, at_record i e ∙ rw (b, z.1), condition-unread i u p z.0 z.2))
          (first_unread co)

      by_persons : (b : Bool) → persons_fit co q.persons ≡ b → Found
      unfolding first_fault
      by_persons false b = inr (PersonsOutside, 0, at_record i e ∙ rw b, persons_outside i u (λ p. never (means_fit co q.persons p) b))
      by_persons true b = by_unread (fit_means co q.persons b) b

    by_choice : CardsDiffer q → (c : Choice) → conditions_for R q leg ≡ c → Chosen R CO q.offer 0 leg.railway q.day c → Found
    unfolding first_fault
    by_choice d c e (used i u) = by_persons d i e u (persons_fit (record_at R i).body q.persons) refl
    by_choice d c e (not_that_day i f h) = inr (DayOutside, 0, rw e, none_valid i f h)
    by_choice d c e (nothing h) = inr (NoConditions, 0, rw e, no_conditions h)

    pub leg_means : CardsDiffer q → Found
    leg_means d = by_choice d (conditions_for R q leg) refl conditions_mean

    -- AND BACK
    pub means_turned : (n d : ℕ) → TurnedAway R q leg n d → IsFault (first_fault (leg_checks R q k leg)) n k d
    unfolding first_fault
    means_turned n d (no_conditions h) = (NoConditions, refl, refl, rw (is_conditions Nothing (nothing h)))
    means_turned n d (none_valid i f h) = (DayOutside, refl, refl, rw (is_conditions NotThatDay (not_that_day i f h)))
    means_turned n d (persons_outside i u p) =
        (PersonsOutside, refl, refl, at_record i (conditions_at i u) ∙ rw (refuted _ (λ b. p (fit_means (record_at R i).body q.persons b))))
    means_turned n d (condition-unread i u p f z) =
        let w = at_record i (conditions_at i u) ∙ rw (means_fit (record_at R i).body q.persons p, one_unread_is (record_at R i).body f z) in
        (ConditionUnread, refl, refl, w)

    pub means_priced : CardsDiffer q → (part : ℕ) → LegFare R q leg part → (first_fault (leg_checks R q k leg) ≡ clean) × (part ≡ part_of R q leg)
    unfolding first_fault
    means_priced d part l =
        let i = l.at in
        let co = (record_at R i).body in
        let e = conditions_at i l.is_conditions in
        let a = reduced_only CO 39 40 41 co (conditions_grant_lem i l.is_conditions) leg.fare l.reduced in (
          at_record i e ∙ rw (means_fit co q.persons l.persons_fit_lem, none_unread_is co l.none_unread),
          l.times_persons ∙ ap (◌* q.persons) (cards_only s R g q leg co d l.amount l.last l.by_cards ∙ ap (after co) a) ∙ sym (part_at i e),
        )
