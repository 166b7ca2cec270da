-- THE CHOICE of a leg's record is what document 02 means by it, and nothing else is.
-- Assumes nothing.
use Prim.Native.Nat.{ℕ, ◌≤◌, ◌<◌}
use mathlib.Core.Path.{◌≡◌, refl, sym, ◌∙◌, ap}
use mathlib.Core.Bool.{Bool, true, false, cond, not, ◌&&◌, ◌||◌, or-true}
use mathlib.Core.List.{List, []}
use mathlib.Core.Logic.{◌⊎◌, inl, inr, ⊎_elim}
use native.Mathlib.Omega.{arith}
use lib.Dec.{eqb, leb, ltb}
use lib.ListN.{length, length-take, length-drop}
use borrow.Author.Tests.{eqb-true, eq-eqb, ltb-true, leb-true, le-leb}
use Rattle.common.specs.Lists.{every, any}
use Rattle.common.specs.Digits.{digits_after, number_of, value_of}
use Rattle.common.proofs.Tests.{never, both_true, in_range}
use Rattle.common.proofs.Least.{passes, finds_none}
use Rattle.common.proofs.Lists.{is_same}
use Rattle.layout.specs.Layout.{is_table, table_at, end_of, length_of}
use Rattle.layout.specs.declared.Table.{Table}
use Rattle.layout.specs.Company.{is_company, company_of, is_all_railways}
use Rattle.layout.specs.Fields.{row_with, row_of, bytes_of, number_in, of_offers, offer_of, railway_of, code_of, code_fits, first_day, last_day, has_period, holds_day}
use Rattle.layout.proofs.Tables.{at_each, table_is, is_table_lem, if_so, period, offer_stands, railway_stands, railway_kept}
use Rattle.layout.proofs.Companies.{same_company, all_railways_zero}
use Rattle.bundle.specs.Records.{Rec}
use Rattle.bundle.specs.Meaning.{record_at, IsRecord, KeepsRules, HoldsDay, Good}
use Rattle.choice.specs.Choice.{for_legs, is_of, is_own, is_general, is_either, is_valid, first_with, choice_of}
use Rattle.choice.specs.Chosen.{IsFor, For, ForEither, Valid, Uses, Chosen, used, not_that_day, nothing}
use Rattle.choice.specs.declared.Wanted.{Wanted}
use Rattle.choice.specs.declared.Choice.{Choice}
use Rattle.choice.specs.declared.Choice.TheVariants.{At, NotThatDay, Nothing}
use Rattle.choice.proofs.Unique.{only_one}

-- THE TESTS of a record say what it is for
module _ (w : Wanted Table) (o : of_offers w.table ≡ true) (r : Rec) where
  abbrev t : Table
  t = w.table

  abbrev Is : ℕ → Type 0
  Is railway = IsFor t w.offer w.code railway r

  railway_number : number_in t 3 r.body ≡ company_of (railway_of r.body)
  unfolding number_in company_of
  railway_number = ap (λ s. value_of (number_of s)) (railway_stands t o r.body)

  of_for : {railway : ℕ} → is_of w r ≡ true → company_of (railway_of r.body) ≡ railway → Is railway
  unfolding is_of code_fits code_of number_in
  of_for h e =
      let b = both_true (is_table r.table t) (eqb (value_of (number_of (offer_of r.body))) w.offer && code_fits t w.code r.body) h in
      let c = both_true (eqb (value_of (number_of (offer_of r.body))) w.offer) (code_fits t w.code r.body) b.1 in
      record {
        table = table_is _ _ b.0;
        of_offer = ap (λ s. value_of (number_of s)) (offer_stands t o r.body) ∙ eqb-true _ _ c.0;
        of_railway_lem = railway_number ∙ e;
        of_code = by_code (eqb (table_at t).code 0) refl c.1;
      }
    where
      by_code : (z : Bool) → eqb (table_at t).code 0 ≡ z → cond z true (eqb (value_of (number_of (cond z [] (bytes_of t (table_at t).code r.body)))) w.code) ≡ true
          → ((table_at t).code ≡ 0) ⊎ (value_of (number_of (bytes_of t (table_at t).code r.body)) ≡ w.code)
      by_code true u v = inl (eqb-true _ _ u)
      by_code false u v = inr (eqb-true _ _ v)

  for_code : {railway : ℕ} → Is railway → code_fits t w.code r.body ≡ true
  unfolding code_fits code_of number_in
  for_code f = by_code (eqb (table_at t).code 0) refl
    where
      by_code : (z : Bool) → eqb (table_at t).code 0 ≡ z → cond z true (eqb (value_of (number_of (cond z [] (bytes_of t (table_at t).code r.body)))) w.code) ≡ true
      by_code true u = refl
      by_code false u = ⊎_elim (λ z. never (eq-eqb _ _ z) u) (λ e. eq-eqb _ _ e) f.of_code

  for_of : {railway : ℕ} → Is railway → (is_of w r ≡ true) × (company_of (railway_of r.body) ≡ railway)
  unfolding is_of number_in
  for_of f = (
    rw (is_table_lem r.table t f.table, ← offer_stands t o r.body, eq-eqb _ _ f.of_offer, for_code f),
    sym railway_number ∙ f.of_railway_lem,
  )

  is_own_lem : is_own w r ≡ true → Is w.railway
  is_own_lem h =
      let d = both_true (is_of w r) (eqb (company_of (railway_of r.body)) w.railway) h in
      of_for d.0 (eqb-true _ _ d.1)

  own_is : Is w.railway → is_own w r ≡ true
  own_is f = let d = for_of f in rw (d.0, eq-eqb _ _ d.1)

  is_general_lem : is_general w r ≡ true → Is 0
  is_general_lem h =
      let d = both_true (is_of w r) (is_all_railways (railway_of r.body)) h in
      of_for d.0 (all_railways_zero (railway_of r.body) d.1)

  -- a railway of four digits that says 0 is 0000
  long_enough : IsRecord r → r.table ≡ t → 13 ≤ length r.body
  unfolding every any of_offers length_of end_of table_at
  long_enough whole e =
      let l = leb-true 13 (length_of t) (if_so (of_offers t) o (at_each (λ u. not (of_offers u) || leb 13 (length_of u)) refl t)) in
      omega (arith, whole.long, ap length_of e)

  general_is : IsRecord r → KeepsRules r → Is 0 → is_general w r ≡ true
  unfolding is_all_railways company_of is_company number_of digits_after railway_of bytes_of row_of row_with table_at
  general_is whole keeps f =
      let d = for_of f in
      let l = long_enough whole f.table in
      let n : length (railway_of r.body) ≡ 4 = simp (length-take, length-drop) (omega arith) in
      rw d.0 (is_same _ _ (same_company (railway_of r.body) _ n (railway_kept t o r.body (rw (← f.table) keeps)) refl d.1))

-- WHAT IS CHOSEN, from the records of a good bundle
module _ (s : List ℕ) (R : List Rec) (g : Good s R) (w : Wanted Table) (legs : for_legs w.table ≡ true) where
  abbrev n : ℕ
  n = length R

  of_offers_lem : of_offers w.table ≡ true
  unfolding for_legs
  of_offers_lem = (both_true (of_offers w.table) _ legs).0

  abbrev Of : ℕ → ℕ → Type 0
  Of railway i = For R w.table w.offer w.code railway i

  abbrev ThatDay : ℕ → Type 0
  ThatDay i = HoldsDay w.table w.day (record_at R i)

  abbrev Means : Choice → Type 0
  Means c = Chosen R w.table w.offer w.code w.railway w.day c

  -- THE DAY: a record of the table is valid exactly if it holds the day
  valid_holds : (i : ℕ) → is_valid w (record_at R i) ≡ true → ThatDay i
  unfolding holds_day
  valid_holds i e =
      let r = (record_at R i).body in
      in_range (first_day w.table r) w.day (last_day w.table r) (both_true (has_period w.table) _ e).1

  holds_valid : {railway : ℕ} (i : ℕ) → Of railway i → ThatDay i → is_valid w (record_at R i) ≡ true
  unfolding holds_day
  holds_valid i f h =
      let r = (record_at R i).body in
      rw ((period w.table).has, le-leb (first_day w.table r) w.day h.0, le-leb w.day (last_day w.table r) h.1)

  own : (i : ℕ) → Of w.railway i → is_own w (record_at R i) ≡ true
  own i f = own_is w of_offers_lem (record_at R i) f.1

  general : (i : ℕ) → Of 0 i → is_general w (record_at R i) ≡ true
  general i f = general_is w of_offers_lem (record_at R i) (g.whole i f.0) (g.fields i f.0) f.1

  -- THE SEARCHES: each finds one that is such, or there is none
  abbrev first : (Rec → Bool) → ℕ
  first p = first_with p R

  abbrev pub own_valid : Rec → Bool
  own_valid r = is_own w r && is_valid w r

  abbrev pub general_valid : Rec → Bool
  general_valid r = is_general w r && is_valid w r

  found : (p : Rec → Bool) → ltb (first p) n ≡ true → (first p < n) × (p (record_at R (first p)) ≡ true)
  found p e = let l = ltb-true (first p) n e in (l, passes (λ k. p (record_at R k)) n l)

  none_such : (p : Rec → Bool) → ltb (first p) n ≡ false → (i : ℕ) → i < n → p (record_at R i) ≡ true → ⊥
  none_such p e i l h = never h (finds_none (λ k. p (record_at R k)) n e i l)

  found_own : ltb (first own_valid) n ≡ true → Valid R w.table w.offer w.code w.railway w.day (first own_valid)
  found_own e =
      let f = found own_valid e in
      let d = both_true (is_own w (record_at R (first own_valid))) _ f.1 in
      ((f.0, is_own_lem w of_offers_lem _ d.0), valid_holds (first own_valid) d.1)

  found_general : ltb (first general_valid) n ≡ true → Valid R w.table w.offer w.code 0 w.day (first general_valid)
  found_general e =
      let f = found general_valid e in
      let d = both_true (is_general w (record_at R (first general_valid))) _ f.1 in
      ((f.0, is_general_lem w of_offers_lem _ d.0), valid_holds (first general_valid) d.1)

  no_own : ltb (first own_valid) n ≡ false → (i : ℕ) → Of w.railway i → ThatDay i → ⊥
  no_own e i f h = none_such own_valid e i f.0 (rw (own i f, holds_valid i f h))

  no_general : ltb (first general_valid) n ≡ false → (i : ℕ) → Of 0 i → ThatDay i → ⊥
  no_general e i f h = none_such general_valid e i f.0 (rw (general i f, holds_valid i f h))

  found_either : ltb (first (is_either w)) n ≡ true → ForEither R w.table w.offer w.code w.railway (first (is_either w))
  found_either e = let f = found (is_either w) e in go f.0 (is_own w (record_at R (first (is_either w)))) refl f.1
    where
      i : ℕ
      i = first (is_either w)

      go : i < n → (b : Bool) → is_own w (record_at R i) ≡ b → (b || is_general w (record_at R i)) ≡ true → ForEither R w.table w.offer w.code w.railway i
      go l true u h = inl (l, is_own_lem w of_offers_lem _ u)
      go l false u h = inr (l, is_general_lem w of_offers_lem _ h)

  no_either : ltb (first (is_either w)) n ≡ false → (i : ℕ) → ForEither R w.table w.offer w.code w.railway i → ⊥
  no_either e i f =
      ⊎_elim (λ a. none_such (is_either w) e i a.0 (rw (own i a))) (λ a. none_such (is_either w) e i a.0 (rw (general i a, or-true (is_own w (record_at R i))))) f

  -- The record chosen is the one that is used,
  pub choice_means : Means (choice_of R w)
  unfolding choice_of
  choice_means = by_own (ltb (first own_valid) n) refl
    where
      by_either : (a : Bool) → ltb (first (is_either w)) n ≡ a → ltb (first own_valid) n ≡ false → ltb (first general_valid) n ≡ false → Means (cond a NotThatDay Nothing)
      by_either true e o h =
          not_that_day (first (is_either w)) (found_either e) (λ j f d. ⊎_elim (λ a. no_own o j a d) (λ a. no_general h j a d) f)
      by_either false e o h = nothing (no_either e)

      by_general : (a : Bool) → ltb (first general_valid) n ≡ a → ltb (first own_valid) n ≡ false
          → Means (cond a (At (first general_valid)) (cond (ltb (first (is_either w)) n) NotThatDay Nothing))
      by_general true e o = used (first general_valid) (inr (found_general e, λ j v. no_own o j v.0 v.1))
      by_general false e o = by_either (ltb (first (is_either w)) n) refl o e

      by_own : (a : Bool) → ltb (first own_valid) n ≡ a
          → Means (cond a (At (first own_valid)) (cond (ltb (first general_valid) n) (At (first general_valid)) (cond (ltb (first (is_either w)) n) NotThatDay Nothing)))
      by_own true e = used (first own_valid) (inl (found_own e))
      by_own false e = by_general (ltb (first general_valid) n) refl e

-- one that is used is for the railway or 0000, and holds the day
pub uses_either : (R : List Rec) (t : Table) (offer code railway day i : ℕ) → Uses R t offer code railway day i
    → ForEither R t offer code railway i × HoldsDay t day (record_at R i)
uses_either R t offer code railway day i u = ⊎_elim (λ a. (inl a.0, a.1)) (λ a. (inr a.0.0, a.0.1)) u

-- and nothing else is meant: a leg uses one record at most.
module _ (s : List ℕ) (R : List Rec) (g : Good s R) (t : Table) (legs : for_legs t ≡ true) (offer code railway day : ℕ) where
  abbrev Use : ℕ → Type 0
  Use i = Uses R t offer code railway day i

  pub uses_one : (i j : ℕ) → Use i → Use j → i ≡ j
  uses_one i j u v =
      ⊎_elim (λ a. ⊎_elim (λ b. only_one s R g t legs offer code railway day i j a b) (λ b. absurd (b.1 i a)) v)
      (λ a. ⊎_elim (λ b. absurd (a.1 j b)) (λ b. only_one s R g t legs offer code 0 day i j a.0 b.0) v) u

  pub chosen_only : (c d : Choice) → Chosen R t offer code railway day c → Chosen R t offer code railway day d → c ≡ d
  chosen_only c d (used i u) (used j v) = ap At (uses_one i j u v)
  chosen_only c d (used i u) (not_that_day j f k) = let h = uses_either R t offer code railway day i u in absurd (k i h.0 h.1)
  chosen_only c d (used i u) (nothing k) = absurd (k i (uses_either R t offer code railway day i u).0)
  chosen_only c d (not_that_day i f k) (used j v) = let h = uses_either R t offer code railway day j v in absurd (k j h.0 h.1)
  chosen_only c d (not_that_day i f k) (not_that_day j h l) = refl
  chosen_only c d (not_that_day i f k) (nothing h) = absurd (h i f)
  chosen_only c d (nothing k) (used j v) = absurd (k j (uses_either R t offer code railway day j v).0)
  chosen_only c d (nothing k) (not_that_day j h l) = absurd (k j h)
  chosen_only c d (nothing k) (nothing l) = refl
