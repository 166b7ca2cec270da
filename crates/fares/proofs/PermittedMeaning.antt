-- THE AMOUNT AFTER THE CARDS BY MEANING: the choices whose amounts are compared are those that are permitted, and the least of their amounts is the only one.
-- Assumes nothing.
use Prim.Native.Nat.{ℕ, zero, suc, ◌≤◌, ◌<◌, zero-le, suc-le-suc}
use mathlib.Core.Path.{◌≡◌, refl, sym, ◌∙◌, ap, ap₂}
use mathlib.Core.List.{List, [], ◌∷◌, ◌++◌, map, map-append, map-map}
use mathlib.Core.Logic.{◌⊎◌, inl, inr, ⊎_elim}
use native.Mathlib.Nat.{le_antisymm, le_of_suc-le-suc, not-suc-le-zero}
use native.Mathlib.Omega.{arith}
use lib.ListN.{length, get_or, length-map}
use Rattle.common.specs.Lists.{only}
use Rattle.common.proofs.Rising.{all_map}
use Rattle.common.proofs.Only.{Stands, has_at, has_each, only_map}
use Rattle.common.proofs.Sums.{map_at}
use Rattle.layout.specs.Bytes.{byte_N}
use Rattle.layout.specs.Layout.{AR}
use Rattle.bundle.specs.Records.{Rec}
use Rattle.bundle.specs.Meaning.{record_at, Good}
use Rattle.fares.specs.Reductions.{card_grants, reduce_by, reduce_all}
use Rattle.fares.specs.Cards.{is_together, is_alone, rank_of, together_of, after_all, if_any, choices_of, least_or, after_cards}
use Rattle.fares.specs.Legs.{bodies}
use Rattle.fares.specs.Meaning.{CardsDiffer, Applies, AppliesWith, AllTogether, Permitted, together, alone, After, done, then, AfterCards, none_applies, least}
use Rattle.fares.specs.declared.Leg.{Leg}
use Rattle.fares.specs.declared.Question.{Question}
use Rattle.fares.proofs.Grants.{Lawful, card_lawful}
use Rattle.fares.proofs.LeastLaws.{least_below, least_one}
use Rattle.fares.proofs.RecordMeaning.{reduced_by, reduced_only}
use Rattle.fares.proofs.RecordsApplied.{applied, is_with, with_others, on_their_own, order_only, keeps_AR, says_one, own_says, says_own, all_together}

-- a choice of all that are applied together, if there are any, and of one alone
abbrev if_any_of : List ℕ → List (List ℕ)
if_any_of [] = []
if_any_of (i ∷ is) = (i ∷ is) ∷ []

abbrev single : ℕ → List ℕ
single i = i ∷ []

-- NO SECOND AMOUNT is left after the cards: a choice that is permitted has a record that applies, and of two least amounts none is below the other
module _ (R : List Rec) (q : Question) (leg : Leg) (co : List ℕ) where
  some_applies : {is : List ℕ} → Permitted R q leg co is → (i : ℕ) × Applies R q leg co i
  some_applies (together {is} t l) = (get_or is 0 0, (t.each 0 l).applies)
  some_applies (alone {i} a) = (i, a.applies)

  not_none : {A : Type 0} {is : List ℕ} → Permitted R q leg co is → ((i : ℕ) → Applies R q leg co i → ⊥) → A
  not_none p f = let i = some_applies p in absurd (f i.0 i.1)

  -- no choice that is permitted leaves less, and the amount is what one of them leaves, or none applies
  pub not_above : {before last : ℕ} → AfterCards R q leg co before last → (choice : List ℕ) (left : ℕ) → Permitted R q leg co choice
      → After R q leg choice before left → last ≤ left
  not_above (none_applies f) choice left p a = not_none p f
  not_above (least c r b m) choice left p a = m choice left p a

  pub by_one : {before last : ℕ} → AfterCards R q leg co before last
      → (((i : ℕ) → Applies R q leg co i → ⊥) × (last ≡ before)) ⊎ ((choice : List ℕ) × Permitted R q leg co choice × After R q leg choice before last)
  by_one (none_applies f) = inl (f, refl)
  by_one (least c p a m) = inr (c, p, a)

  pub one_amount : {before x y : ℕ} → AfterCards R q leg co before x → AfterCards R q leg co before y → x ≡ y
  one_amount (none_applies f) (none_applies g) = refl
  one_amount (none_applies f) (least c p a m) = not_none p f
  one_amount (least c p a m) (none_applies f) = not_none p f
  one_amount {x = x} {y} (least c p a m) (least d r b n) = le_antisymm (m d y r b) (n c x p a)

-- AFTER SOME RECORDS that grant what they may an amount is what their chain leaves, and nothing else is
module _ (R : List Rec) (q : Question) (leg : Leg) where
  abbrev body : ℕ → List ℕ
  body i = (record_at R i).body

  abbrev Granting : List ℕ → Type 0
  Granting is = (k : ℕ) → k < length is → Lawful (card_grants (body (get_or is k 0)))

  abbrev leaves : ℕ → List ℕ → ℕ
  leaves before is = after_all before (bodies R is)

  rest_grants : (i : ℕ) (is : List ℕ) → Granting (i ∷ is) → Granting is
  rest_grants i is l k m = l (suc k) (suc-le-suc m)

  after_is : (is : List ℕ) → Granting is → (before : ℕ) → After R q leg is before (leaves before is)
  unfolding reduce_all
  after_is [] l before = done
  after_is (i ∷ is) l before =
      then (reduced_by AR 5 9 10 (body i) (l 0 (suc-le-suc zero-le)) before) (after_is is (rest_grants i is l) (reduce_by before (card_grants (body i))))

  after_only : (is : List ℕ) → Granting is → {before last : ℕ} → After R q leg is before last → last ≡ leaves before is
  unfolding reduce_all
  after_only [] l done = refl
  after_only (i ∷ is) l {before} (then x y) =
      after_only is (rest_grants i is l) y ∙ ap (λ amount. leaves amount is) (reduced_only AR 5 9 10 (body i) (l 0 (suc-le-suc zero-le)) before x)

  -- THE CHOICES, by the numbers of their records: those together, if any, and each of those alone
  module _ (co : List ℕ) where
    abbrev singles : List (List ℕ)
    singles = map single (on_their_own R q leg co)

    abbrev choices : List (List ℕ)
    choices = if_any_of (with_others R q leg co) ++ singles

    -- what they leave of an amount are the amounts of which the least is taken
    leaves_together : together_of (bodies R (applied R q leg co)) ≡ bodies R (with_others R q leg co)
    leaves_together = rw (only_map body is_together (applied R q leg co)) (sym (all_map body rank_of [] (only (is_with R) (applied R q leg co))))

    leaves_any : (before : ℕ) (is : List ℕ) → if_any before (bodies R is) ≡ map (leaves before) (if_any_of is)
    leaves_any before [] = refl
    leaves_any before (i ∷ is) = refl

    leaves_alone : (before : ℕ) → map (λ ar. reduce_by before (card_grants ar)) (only is_alone (bodies R (applied R q leg co))) ≡ map (leaves before) singles
    unfolding reduce_all
    leaves_alone before =
        rw (only_map body is_alone (applied R q leg co))
        (map-map (λ ar. reduce_by before (card_grants ar)) body (on_their_own R q leg co) ∙ sym (map-map (leaves before) single (on_their_own R q leg co)))

    choices_leave : (before : ℕ) → choices_of before (bodies R (applied R q leg co)) ≡ map (leaves before) choices
    choices_leave before =
        ap₂ ◌++◌ (ap (if_any before) leaves_together ∙ leaves_any before (with_others R q leg co)) (leaves_alone before)
        ∙ sym (map-append (leaves before) (if_any_of (with_others R q leg co)) singles)

    abbrev least_left : ℕ → ℕ
    least_left before = least_or before (map (leaves before) choices)

    cards_leave : (before : ℕ) → after_cards before (bodies R (applied R q leg co)) ≡ least_left before
    unfolding after_cards
    cards_leave before = ap (least_or before) (choices_leave before)

-- IN A GOOD BUNDLE, for a CO
module _ (s : List ℕ) (R : List Rec) (g : Good s R) (q : Question) (leg : Leg) (co : List ℕ) where
  abbrev Allowed : List ℕ → Type 0
  Allowed is = Permitted R q leg co is

  -- the records of a choice that is permitted grant what they may
  applying_grants : (i : ℕ) → Applies R q leg co i → Lawful (card_grants (body R q leg i))
  applying_grants i a = let k = keeps_AR s R g q leg co i a in card_lawful (record_at R i) k.0 k.1

  permitted_grants : {is : List ℕ} → Allowed is → Granting R q leg is
  permitted_grants (together {is} t l) k m = applying_grants (get_or is k 0) (t.each k m).applies
  permitted_grants (alone {i} a) zero m = applying_grants i a.applies
  permitted_grants (alone {i} a) (suc k) m = absurd (not-suc-le-zero (le_of_suc-le-suc m))

  -- so that each such choice leaves an amount
  pub leaves_some : {is : List ℕ} → Allowed is → (before : ℕ) → (left : ℕ) × After R q leg is before left
  leaves_some {is} p before = (leaves R q leg before is, after_is R q leg is (permitted_grants p) before)

  -- each of those alone is permitted, and is a choice
  single_permitted : (k : ℕ) → k < length (singles R q leg co) → Allowed (get_or (singles R q leg co) k [])
  single_permitted k l =
      let own = on_their_own R q leg co in
      let m : k < length own = rw (length-map own single) at l in
      rw (map_at single own k [] 0 m) (alone (own_says s R g q leg co (get_or own k 0) (has_each own k m)))

  single_stands : (i : ℕ) → AppliesWith R q leg co byte_N i → Stands [] (singles R q leg co) (single i)
  single_stands i a =
      let own = on_their_own R q leg co in
      let p = has_at i own (says_own s R g q leg co i a) in (
        p.0,
        rw (length-map own single) p.1,
        map_at single own p.0 [] 0 p.1 ∙ ap single p.2,
      )

  -- WHERE NO CARD IS GIVEN TWICE each choice is permitted,
  module _ (d : CardsDiffer q) where
    abbrev row : List ℕ
    row = with_others R q leg co

    whole_row : AllTogether R q leg co row
    whole_row = all_together s R g q leg co d

    choice_permitted : (k : ℕ) → k < length (choices R q leg co) → Allowed (get_or (choices R q leg co) k [])
    choice_permitted = go row whole_row
      where
        go : (is : List ℕ) → AllTogether R q leg co is → (k : ℕ) → k < length (if_any_of is ++ singles R q leg co)
            → Allowed (get_or (if_any_of is ++ singles R q leg co) k [])
        go [] t k l = single_permitted k l
        go (i ∷ is) t zero l = together t (suc-le-suc zero-le)
        go (i ∷ is) t (suc k) l = single_permitted k (le_of_suc-le-suc l)

    -- what is permitted is a choice,
    permitted_stands : {is : List ℕ} → Allowed is → Stands [] (choices R q leg co) is
    permitted_stands (together {is} t l) = let e = order_only R q leg co t whole_row in rw e (go row (rw e at l))
      where
        go : (js : List ℕ) → 0 < length js → Stands [] (if_any_of js ++ singles R q leg co) js
        go [] m = absurd (not-suc-le-zero m)
        go (j ∷ js) m = (0, suc-le-suc zero-le, refl)
    permitted_stands (alone {i} a) = go row (single_stands i a)
      where
        go : (js : List ℕ) → Stands [] (singles R q leg co) (single i)
            → Stands [] (if_any_of js ++ singles R q leg co) (single i)
        go [] p = p
        go (j ∷ js) p = (suc p.0, suc-le-suc p.1, p.2)

    -- a record that applies stands in one,
    pub applying_permitted : (i : ℕ) → Applies R q leg co i → (is : List ℕ) × Allowed is × Stands 0 is i
    applying_permitted i a =
        ⊎_elim (λ y. let p = whole_row.all i y in (row, together whole_row (omega (arith, p.1)), p)) (λ n. (single i, alone n, (0, suc-le-suc zero-le, refl)))
        (says_one s R g q leg co i a)

    -- and none leaves less than the least
    none_less : (before : ℕ) (is : List ℕ) (amount : ℕ) → Allowed is → After R q leg is before amount → least_left R q leg co before ≤ amount
    none_less before is amount p a =
        let k = permitted_stands p in
        let e : leaves R q leg before (get_or (choices R q leg co) k.0 []) ≡ amount =
        ap (leaves R q leg before) k.2 ∙ sym (after_only R q leg is (permitted_grants p) a) in
        rw (← e) (least_below (leaves R q leg before) [] before (choices R q leg co) k.0 k.1)

    -- SO THE AMOUNT AFTER THE CARDS is the least of what they leave, and no other is
    pub cards_mean : (before : ℕ) → AfterCards R q leg co before (after_cards before (bodies R (applied R q leg co)))
    cards_mean before =
        rw (cards_leave R q leg co before)
        (⊎_elim
        (λ z. rw z.1 (none_applies (λ i a. let p = permitted_stands (applying_permitted i a).1 in omega (arith, z.0, p.1))))
        (λ p. let is = get_or (choices R q leg co) p.0 [] in
        let h = choice_permitted p.0 p.1 in
        least is h (rw p.2 (after_is R q leg is (permitted_grants h) before)) (none_less before))
        (least_one (leaves R q leg before) [] before (choices R q leg co)))

    pub cards_only : (before last : ℕ) → AfterCards R q leg co before last → last ≡ after_cards before (bodies R (applied R q leg co))
    cards_only before last a = one_amount R q leg co a (cards_mean before)
