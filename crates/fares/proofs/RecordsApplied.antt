-- WHICH RECORDS APPLY: the AR records of the cards of a leg that are in force; those with Y in their order, which is the only one, and those with N.
-- Assumes nothing.
use Prim.Native.Nat.{ℕ, ◌<◌}
use mathlib.Core.Path.{◌≡◌, refl, sym, ◌∙◌}
use mathlib.Core.Bool.{Bool, true, false, cond, not, ◌&&◌, ◌||◌, or-false}
use mathlib.Core.List.{List, [], ◌∷◌, ◌++◌, flat_map}
use mathlib.Core.Logic.{◌⊎◌, inl, inr, ⊎_elim}
use native.Mathlib.Omega.{arith}
use lib.Dec.{eqb}
use lib.ListN.{get_or}
use borrow.Author.Tests.{eqb-true, eq-eqb, ne_eqb, not-true}
use Rattle.common.specs.Lists.{every, any, only}
use Rattle.common.specs.Rising.{rising, is_rising}
use Rattle.common.proofs.Tests.{never, both_true, order}
use Rattle.common.proofs.Lists.{any_at, at_any, first_length, first_at}
use Rattle.common.proofs.Rising.{has, all_any, other, all_other, rises, rising_at, at_rising, rising_only}
use Rattle.common.proofs.Only.{has_at, at_has, has_each, has_only, every_has, any_flat, other_only}
use Rattle.layout.specs.Bytes.{byte_N, byte_Y}
use Rattle.layout.specs.Layout.{CO, AR, table_at}
use Rattle.layout.specs.Fields.{row_with, row_of, byte_of, number_in, is_yes, of_offers}
use Rattle.layout.specs.Rules.{ruled, kept_beside, keeps_row}
use Rattle.layout.proofs.Tables.{keeps_field}
use Rattle.bundle.specs.Records.{Rec}
use Rattle.choice.specs.Choice.{for_legs, choice_of}
use Rattle.choice.specs.Chosen.{Chosen, used, not_that_day, nothing}
use Rattle.bundle.specs.Meaning.{record_at, KeepsRules, Good}
use Rattle.choice.specs.declared.Choice.{Choice}
use Rattle.choice.specs.declared.Choice.TheVariants.{At, NotThatDay, Nothing}
use Rattle.choice.proofs.Chosen.{choice_means, uses_either, chosen_only}
use Rattle.fares.specs.Question.{is_given, card_slots, cards_differ}
use Rattle.fares.specs.Cards.{is_together, is_alone, rank_of}
use Rattle.fares.specs.Legs.{wanted_for, found, card_for, cards_for, applied_for}
use Rattle.fares.specs.Meaning.{card_at, CardsDiffer, Rises, IsCard, Applies, AppliesWith, AllTogether}
use Rattle.fares.specs.declared.Leg.{Leg}
use Rattle.fares.specs.declared.Question.{Question}
use Rattle.fares.proofs.StepLaws.{code_small}
use Rattle.fares.proofs.CardSlots.{means_differ}

-- AN AR is a leg's,
card_legs : for_legs AR ≡ true
unfolding for_legs of_offers any every table_at
card_legs = refl

-- its flag is Y or N: by the rules what is not together is alone
is_together_lem : (body : List ℕ) → is_together body ≡ eqb (byte_of AR 6 body) byte_Y
unfolding is_yes row_of row_with table_at
is_together_lem body = refl

flag_kept : (r : Rec) → KeepsRules r → r.table ≡ AR → (eqb (byte_of AR 6 r.body) byte_Y || eqb (byte_of AR 6 r.body) byte_N) ≡ true
unfolding any keeps_row kept_beside ruled byte_of row_of row_with table_at
flag_kept r keeps e = keeps_field AR 6 r.body (rw (← e) keeps) refl

not_together : (r : Rec) → KeepsRules r → r.table ≡ AR → eqb (byte_of AR 6 r.body) byte_Y ≡ false → byte_of AR 6 r.body ≡ byte_N
not_together r keeps e n = eqb-true (byte_of AR 6 r.body) byte_N (rw n at (flag_kept r keeps e))

-- THE ORDER by rating and code is that of the ranks
rises_below : (ar next : List ℕ) → Rises ar next → rank_of ar < rank_of next
rises_below ar next h = ⊎_elim (λ l. omega (arith, code_small ar)) (λ l. omega (arith, l.0, l.1)) h

below_rises : (ar next : List ℕ) → rank_of ar < rank_of next → Rises ar next
below_rises ar next h =
    ⊎_elim inl (⊎_elim (λ e. inr (e, omega (arith, e))) (λ l. absurd (omega (arith, code_small next)))) (order (number_in AR 7 ar) (number_in AR 7 next))

module _ (R : List Rec) where
  abbrev body : ℕ → List ℕ
  body i = (record_at R i).body

  abbrev rank : ℕ → ℕ
  rank i = rank_of (body i)

  abbrev pub is_with : ℕ → Bool
  is_with i = is_together (body i)

  abbrev is_own : ℕ → Bool
  is_own i = is_alone (body i)

  module _ (q : Question) (leg : Leg) (co : List ℕ) where
    -- THE ORDER OF THE RECORDS WITH Y IS THE ONLY ONE: by rank they rise, and they are the same records
    rank_rises : {is : List ℕ} → AllTogether R q leg co is → is_rising rank is ≡ true
    rank_rises {is} t = at_rising rank is 0 (λ j k m l. rises_below (body (get_or is j 0)) (body (get_or is k 0)) (t.in_order j k m l))

    same_records : {is js : List ℕ} → AllTogether R q leg co is → AllTogether R q leg co js → (i : ℕ) → has i is ≡ true → has i js ≡ true
    same_records {is} {js} t u i h =
        let p = has_at i is h in
        at_has i js (u.all i (rw (← p.2) (t.each p.0 p.1)))

    pub order_only : {is js : List ℕ} → AllTogether R q leg co is → AllTogether R q leg co js → is ≡ js
    order_only {is} {js} t u = rising_only rank is js (rank_rises t) (rank_rises u) (same_records t u) (same_records u t)

    -- the records that are applied, by their numbers: those together in rising order, and those alone
    abbrev pub applied : List ℕ
    applied = applied_for R q leg co

    abbrev pub with_others : List ℕ
    with_others = rising rank (only is_with applied)

    abbrev pub on_their_own : List ℕ
    on_their_own = only is_own applied

module _ (s : List ℕ) (R : List Rec) (g : Good s R) (q : Question) (leg : Leg) where
  -- THE RECORD OF A CARD is chosen, and has its code
  card_choice : (card : ℕ) → Chosen R AR q.offer card leg.railway q.day (choice_of R (wanted_for AR card q leg))
  card_choice card = choice_means s R g (wanted_for AR card q leg) card_legs

  code_is : (card i : ℕ) → IsCard R q leg card i → number_in AR 4 (body R i) ≡ card
  unfolding table_at
  code_is card i u =
      ⊎_elim (λ f. by_code f.1.of_code) (λ f. by_code f.1.of_code) (uses_either R AR q.offer card leg.railway q.day i u).0
    where
      by_code : (◌≡◌ {A = ℕ} 4 0) ⊎ (number_in AR 4 (body R i) ≡ card) → number_in AR 4 (body R i) ≡ card
      by_code c = ⊎_elim (λ e. absurd (omega (arith, e))) (λ e. e) c

  -- what is found for a card that is given is its record that day,
  abbrev FoundFor : ℕ → ℕ → Type 0
  FoundFor card i = (card ≡ 0 → ⊥) × IsCard R q leg card i

  abbrev finds : ℕ → ℕ → Bool
  finds i card = has i (found (card_for R q leg card))

  found_means : (card i : ℕ) → finds i card ≡ true → FoundFor card i
  unfolding any
  found_means card i = go (eqb card 0) refl
    where
      by_choice : (c : Choice) → Chosen R AR q.offer card leg.railway q.day c → (card ≡ 0 → ⊥) → has i (found c) ≡ true → FoundFor card i
      by_choice c (used j u) n e =
          let t : i ≡ j = eqb-true i j (sym (or-false (eqb i j)) ∙ e) in
          rw t (n, u)
      by_choice c (not_that_day j f h) n e = never e refl
      by_choice c (nothing h) n e = never e refl

      go : (z : Bool) → eqb card 0 ≡ z → has i (found (cond (not z) (choice_of R (wanted_for AR card q leg)) Nothing)) ≡ true → FoundFor card i
      go true z e = never e refl
      go false z e = by_choice (choice_of R (wanted_for AR card q leg)) (card_choice card) (λ h. never (eq-eqb card 0 h) z) e

  -- and such a record is found
  means_found : (card i : ℕ) → FoundFor card i → finds i card ≡ true
  unfolding any
  means_found card i f =
      let c : choice_of R (wanted_for AR card q leg) ≡ At i =
      chosen_only s R g AR card_legs q.offer card leg.railway q.day _ (At i) (card_choice card)
      (used i f.1) in
      rw (ne_eqb card 0 f.0, c, eq-eqb i i refl)

  -- THE RECORDS OF SOME CARDS are those found for one of them, and have its code
  abbrev found_in : List ℕ → List ℕ
  found_in cards = flat_map (λ card. found (card_for R q leg card)) cards

  finds_in : (cards : List ℕ) (i : ℕ) → has i (found_in cards) ≡ any (finds i) cards
  finds_in cards i = any_flat (eqb i) (λ card. found (card_for R q leg card)) cards

  code_in : (cards : List ℕ) (i : ℕ) → has i (found_in cards) ≡ true → any (eqb (number_in AR 4 (body R i))) cards ≡ true
  code_in cards i h =
      let a = any_at (finds i) 0 cards (sym (finds_in cards i) ∙ h) in
      let card = get_or cards a.0 0 in
      at_any (eqb (number_in AR 4 (body R i))) 0 cards a.0 a.1
      (eq-eqb (number_in AR 4 (body R i)) card (code_is card i (found_means card i a.2).1))

  -- so those of different cards differ in rank
  ranks_differ : (cards : List ℕ) → cards_differ cards ≡ true → all_other (rank R) (found_in cards) ≡ true
  unfolding flat_map all_other cards_differ any
  ranks_differ [] e = refl
  ranks_differ (card ∷ cards) e =
      let b = both_true (not (is_given card && any (eqb card) cards)) (cards_differ cards) e in
      go (card_for R q leg card) (found_means card) b.0 (ranks_differ cards b.1)
    where
      go : (c : Choice) → ((i : ℕ) → has i (found c) ≡ true → FoundFor card i)
          → not (is_given card && any (eqb card) cards) ≡ true → all_other (rank R) (found_in cards) ≡ true → all_other (rank R) (found c ++ found_in cards) ≡ true
      go (At i) f d ih =
          let h = f i (rw (eq-eqb i i refl)) in
          let n : any (eqb card) cards ≡ false = not-true (any (eqb card) cards) (rw (ne_eqb card 0 h.0) at d) in
          rw ih (rw (every_has (other (rank R) i) (found_in cards) (λ j t. rw (ne_eqb (rank R i) (rank R j)
          (λ same. let c : number_in AR 4 (body R j) ≡ card = omega (arith, same, code_is card i h.1, code_small (body R i), code_small (body R j)) in
          never (rw c at (code_in cards j t)) n)))))
      go NotThatDay f d ih = ih
      go Nothing f d ih = ih

  -- FOR A CO
  module _ (co : List ℕ) where
    abbrev Applying : ℕ → Type 0
    Applying i = Applies R q leg co i

    abbrev Saying : ℕ → ℕ → Type 0
    Saying flag i = AppliesWith R q leg co flag i

    allowed_is : is_yes CO 33 co ≡ eqb (byte_of CO 33 co) byte_Y
    unfolding is_yes row_of row_with table_at
    allowed_is = refl

    -- A RECORD IS AMONG THOSE THAT ARE APPLIED exactly if it applies
    pub applied_means : (i : ℕ) → has i (applied R q leg co) ≡ true → Applying i
    unfolding any cards_for
    applied_means i h = go (eqb (byte_of CO 33 co) byte_Y) refl (rw allowed_is at h)
      where
        go : (y : Bool) → eqb (byte_of CO 33 co) byte_Y ≡ y → has i (cond y (found_in (card_slots q)) []) ≡ true → Applying i
        go false y e = never e refl
        go true y e =
            let a = any_at (finds i) 0 (card_slots q) (sym (finds_in (card_slots q) i) ∙ e) in
            let m : a.0 < 4 = omega (arith, a.1, first_length 0 4 q.cards) in
            let f = found_means (card_at q a.0) i (rw (first_at 0 4 q.cards a.0 m) at a.2) in
            record { allowed = eqb-true (byte_of CO 33 co) byte_Y y; slot = a.0; inside = m; given = f.0; is_card = f.1 }

    pub means_applied : (i : ℕ) → Applying i → has i (applied R q leg co) ≡ true
    unfolding cards_for
    means_applied i a =
        let f = means_found (card_at q a.slot) i (a.given, a.is_card) in
        rw (allowed_is, eq-eqb (byte_of CO 33 co) byte_Y a.allowed, finds_in (card_slots q) i)
        (at_any (finds i) 0 (card_slots q) a.slot (omega (arith, a.inside, first_length 0 4 q.cards))
        (rw (first_at 0 4 q.cards a.slot a.inside) f))

    -- it is an AR that keeps the rules,
    pub keeps_AR : (i : ℕ) → Applying i → KeepsRules (record_at R i) × ((record_at R i).table ≡ AR)
    keeps_AR i a =
        ⊎_elim (λ f. (g.fields i f.0, f.1.table)) (λ f. (g.fields i f.0, f.1.table))
        (uses_either R AR q.offer (card_at q a.slot) leg.railway q.day i a.is_card).0

    -- and says Y or N
    says_Y : (i : ℕ) → Applying i → eqb (byte_of AR 6 (body R i)) byte_Y ≡ true → Saying byte_Y i
    says_Y i a e = record { applies = a; says = eqb-true (byte_of AR 6 (body R i)) byte_Y e }

    says_N : (i : ℕ) → Applying i → eqb (byte_of AR 6 (body R i)) byte_Y ≡ false → Saying byte_N i
    says_N i a e = let k = keeps_AR i a in record { applies = a; says = not_together (record_at R i) k.0 k.1 e }

    pub says_one : (i : ℕ) → Applying i → Saying byte_Y i ⊎ Saying byte_N i
    says_one i a = go (eqb (byte_of AR 6 (body R i)) byte_Y) refl
      where
        go : (y : Bool) → eqb (byte_of AR 6 (body R i)) byte_Y ≡ y → Saying byte_Y i ⊎ Saying byte_N i
        go true y = inl (says_Y i a y)
        go false y = inr (says_N i a y)

    -- THOSE TOGETHER are the records with Y,
    has_with : (i : ℕ) → has i (with_others R q leg co) ≡ (is_with R i && has i (applied R q leg co))
    unfolding any
    has_with i = all_any (rank R) (eqb i) [] (only (is_with R) (applied R q leg co)) ∙ has_only (is_with R) i (applied R q leg co)

    with_says : (i : ℕ) → has i (with_others R q leg co) ≡ true → Saying byte_Y i
    with_says i h =
        let b = both_true (is_with R i) (has i (applied R q leg co)) (sym (has_with i) ∙ h) in
        says_Y i (applied_means i b.1) (sym (is_together_lem (body R i)) ∙ b.0)

    says_with : (i : ℕ) → Saying byte_Y i → has i (with_others R q leg co) ≡ true
    says_with i a = rw (has_with i, is_together_lem (body R i), eq-eqb (byte_of AR 6 (body R i)) byte_Y a.says) (means_applied i a.applies)

    -- and THOSE ALONE the records with N
    pub own_says : (i : ℕ) → has i (on_their_own R q leg co) ≡ true → Saying byte_N i
    own_says i h =
        let b = both_true (is_own R i) (has i (applied R q leg co)) (sym (has_only (is_own R) i (applied R q leg co)) ∙ h) in
        says_N i (applied_means i b.1) (sym (is_together_lem (body R i)) ∙ not-true (is_with R i) b.0)

    pub says_own : (i : ℕ) → Saying byte_N i → has i (on_their_own R q leg co) ≡ true
    says_own i a =
        rw (has_only (is_own R) i (applied R q leg co), is_together_lem (body R i), ne_eqb (byte_of AR 6 (body R i)) byte_Y (λ y. omega (arith, y, a.says)))
        (means_applied i a.applies)

    -- WHERE NO CARD IS GIVEN TWICE those together are in their order
    module _ (d : CardsDiffer q) where
      with_rise : is_rising (rank R) (with_others R q leg co) ≡ true
      unfolding cards_for all_other
      with_rise = rises (rank R) (only (is_with R) (applied R q leg co)) (other_only (is_with R) (rank R) (applied R q leg co) (go (is_yes CO 33 co)))
        where
          go : (y : Bool) → all_other (rank R) (cond y (cards_for R q leg) []) ≡ true
          go true = ranks_differ (card_slots q) (means_differ q d)
          go false = refl

      pub all_together : AllTogether R q leg co (with_others R q leg co)
      all_together =
          let is = with_others R q leg co in
          record {
            each = λ k l. with_says (get_or is k 0) (has_each is k l);
            all = λ i a. has_at i is (says_with i a);
            in_order = λ j k m l. below_rises (body R (get_or is j 0)) (body R (get_or is k 0)) (rising_at (rank R) is with_rise 0 j k m l);
          }
