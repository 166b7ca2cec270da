-- What each record adds to the choice: the laws that its loop cites.
-- Assumes nothing.
use Prim.Native.Nat.{ℕ, ◌+◌, ◌<◌}
use mathlib.Core.Path.{◌≡◌, refl, sym, ◌∙◌, ap}
use mathlib.Core.Bool.{Bool, true, false, cond, ◌&&◌, ◌||◌}
use mathlib.Core.List.{List}
use mathlib.Core.Logic.{◌⊎◌, inl, inr, ⊎_elim}
use native.Mathlib.Omega.{arith}
use native.Mathlib.Nat.{le_antisymm}
use lib.Dec.{eqb, ltb}
use lib.ListN.{length, get_or}
use borrow.Author.Tests.{lt-ltb, le-ltb, eq-eqb, ne_eqb, ltb-true, ltb-false}
use Rattle.common.specs.Least.{least}
use Rattle.common.proofs.Least.{within, start, more, hit, stays}
use Rattle.common.proofs.Tests.{never}
use Rattle.common.specs.Digits.{number_of, value_of}
use Rattle.layout.specs.Company.{company_of, is_all_railways}
use Rattle.layout.specs.Layout.{is_table}
use Rattle.layout.specs.declared.Table.{Table}
use Rattle.layout.proofs.Tables.{table_is}
use Rattle.layout.specs.Fields.{offer_of, railway_of, code_fits}
use Rattle.bundle.specs.Records.{Rec, no_rec, records_of}
use Rattle.bundle.specs.Helpers.{places_of, body_at}
use Rattle.bundle.proofs.Here.{Stands, at_place_lem}
use Rattle.choice.specs.Choice.{is_of, is_own, is_general, is_either, is_valid, first_with, choice_of}
use Rattle.choice.specs.Helpers.{at_place, whose_of, by_day, fit_of, if_at, noted_at}
use Rattle.choice.specs.declared.Choice.{Choice}
use Rattle.choice.specs.declared.Choice.TheVariants.{At, NotThatDay, Nothing}
use Rattle.choice.specs.declared.Role.{Role}
use Rattle.choice.specs.declared.Role.TheVariants.{Other, General, Own, OffItsDays}
use Rattle.choice.specs.declared.Wanted.{Wanted}

-- A RECORD HELD AGAINST WHAT IS WANTED, test by test
module _ (w : Wanted Table) (r : Rec) where
  pub by_table : is_table r.table w.table ≡ false → Other ≡ whose_of w r
  unfolding whose_of is_of
  by_table n = rw n

  module _ (t : is_table r.table w.table ≡ true) {o : ℕ} (e : o ≡ value_of (number_of (offer_of r.body))) where
    pub by_offer : (o ≡ w.offer → ⊥) → Other ≡ whose_of w r
    unfolding whose_of is_of
    by_offer n = rw (t, ← e, ne_eqb o w.offer n)

    module _ (p : o ≡ w.offer) {k : Bool} (f : k ≡ code_fits r.table w.code r.body) where
      is_of_lem : k ≡ is_of w r
      unfolding is_of
      is_of_lem = f ∙ rw (t, ← e, eq-eqb o w.offer p, table_is _ _ t)

      pub by_code : k ≡ false → Other ≡ whose_of w r
      unfolding whose_of
      by_code n = rw (← is_of_lem, n)

      module _ (q : k ≡ true) {c : ℕ} (g : c ≡ company_of (railway_of r.body)) where
        pub by_own : c ≡ w.railway → Own ≡ whose_of w r
        unfolding whose_of
        by_own n = rw (← is_of_lem, q, ← g, eq-eqb c w.railway n)

        pub by_all : (c ≡ w.railway → ⊥) → {b : Bool} → b ≡ is_all_railways (railway_of r.body) → cond b General Other ≡ whose_of w r
        unfolding whose_of
        by_all n h = rw (← is_of_lem, q, ← g, ne_eqb c w.railway n, h)

-- and against the day
day_other : (o : Role) (v : Bool) → o ≡ Other → Other ≡ by_day v o
day_other o v z = rw z refl

day_kept : (o : Role) (b : Bool) → (o ≡ Other → ⊥) → cond b o OffItsDays ≡ by_day b o
day_kept Other b n = absurd (n refl)
day_kept General b n = refl
day_kept Own b n = refl
day_kept OffItsDays true n = refl
day_kept OffItsDays false n = refl

module _ (w : Wanted Table) (r : Rec) {o : Role} (e : o ≡ whose_of w r) where
  pub by_other : o ≡ Other → Other ≡ fit_of w r
  unfolding fit_of
  by_other z = rw (← e) (day_other o (is_valid w r) z)

  pub by_valid : (o ≡ Other → ⊥) → {b : Bool} → b ≡ is_valid w r → cond b o OffItsDays ≡ fit_of w r
  unfolding fit_of
  by_valid n {b} h = rw (← e, ← h) (day_kept o b n)

-- and what its outcome says: the railway's own, or of the others one for all railways, both valid, or one of either that is not
abbrev whose : Bool → Bool → Bool → Role
whose a b d = cond a (cond b Own (cond d General Other)) Other

abbrev outcome : Bool → Bool → Bool → Bool → Role
outcome a b d v = by_day v (whose a b d)

own_by : (a b d v : Bool) → outcome a b d v ≡ Own → ((a && b) && v) ≡ true
own_by true true d true e = refl
own_by true true d false e = cc
own_by true false true true e = cc
own_by true false true false e = cc
own_by true false false v e = cc
own_by false b d v e = cc

not_own_by : (a b d v : Bool) → (outcome a b d v ≡ Own → ⊥) → ((a && b) && v) ≡ false
not_own_by true true d true f = absurd (f refl)
not_own_by true true d false f = refl
not_own_by true false d v f = refl
not_own_by false b d v f = refl

other_by : (a b d v : Bool) → (outcome a b d v ≡ Own → ⊥)
    → outcome a b d v ≡ cond ((a && d) && v) General (cond ((a && b) || (a && d)) OffItsDays Other)
other_by true true d true f = absurd (f refl)
other_by true true true false f = refl
other_by true true false false f = refl
other_by true false true true f = refl
other_by true false true false f = refl
other_by true false false v f = refl
other_by false b d v f = refl

module _ (w : Wanted Table) (r : Rec) {f : Role} (e : f ≡ fit_of w r) where
  abbrev of_it : Bool
  of_it = is_of w r

  abbrev own_railway : Bool
  own_railway = eqb (company_of (railway_of r.body)) w.railway

  abbrev all_railways_lem : Bool
  all_railways_lem = is_all_railways (railway_of r.body)

  pub fits_own : f ≡ Own → (is_own w r && is_valid w r) ≡ true
  unfolding fit_of whose_of
  fits_own h = own_by of_it own_railway all_railways_lem (is_valid w r) (sym e ∙ h)

  pub fits_not : (f ≡ Own → ⊥) → (is_own w r && is_valid w r) ≡ false
  unfolding fit_of whose_of
  fits_not n = not_own_by of_it own_railway all_railways_lem (is_valid w r) (λ h. n (e ∙ h))

  pub fits_other : (f ≡ Own → ⊥) → f ≡ cond (is_general w r && is_valid w r) General (cond (is_either w r) OffItsDays Other)
  unfolding fit_of whose_of
  fits_other n = e ∙ other_by of_it own_railway all_railways_lem (is_valid w r) (λ h. n (e ∙ h))

-- NOTED, where no place is kept yet: this one's, if it is valid
module _ (v : Choice) (x : (p : ℕ) → v ≡ At p → ⊥) where
  pub no_place : (other : Choice) → if_at v other ≡ other
  no_place other = go v x
    where
      go : (v : Choice) → ((p : ℕ) → v ≡ At p → ⊥) → if_at v other ≡ other
      go (At p) x = absurd (x p refl)
      go NotThatDay x = refl
      go Nothing x = refl

  pub now_at : (f : Role) (place : ℕ) → f ≡ General → At place ≡ noted_at v f place
  now_at f place e = rw (e, no_place (At place))

  pub off_its_days : (f : Role) (place : ℕ) → (f ≡ Other → ⊥) → (f ≡ General → ⊥) → NotThatDay ≡ noted_at v f place
  off_its_days Other place n g = absurd (n refl)
  off_its_days General place n g = absurd (g refl)
  off_its_days Own place n g = rw (no_place NotThatDay)
  off_its_days OffItsDays place n g = rw (no_place NotThatDay)

-- A SEARCH with one more: it found one before, or this is the first
next_found : (p : ℕ → Bool) (j : ℕ) (b x : Bool) → ltb (least p j) j ≡ b → p j ≡ x
    → (ltb (least p (j + 1)) (j + 1) ≡ (b || x)) × ((b || x) ≡ true → least p (j + 1) ≡ cond b (least p j) j)
next_found p j true x e q =
    let l = ltb-true (least p j) j e in
    let k = stays p j (j + 1) l (omega arith) in
    (rw k (lt-ltb (least p j) (j + 1) (omega arith)), λ _. k)
next_found p j false true e q =
    let z : least p j ≡ j = le_antisymm (within p j) (ltb-false (least p j) j e) in
    let k : least p (j + 1) ≡ j = hit p j (j + 1) z q (omega arith) in
    (rw k (lt-ltb j (j + 1) (omega arith)), λ _. k)
next_found p j false false e q =
    let z : least p j ≡ j = le_antisymm (within p j) (ltb-false (least p j) j e) in
    (rw (more p j z q) (le-ltb (j + 1) (j + 1) (omega arith)), λ h. never h refl)

module _ (s : List ℕ) (w : Wanted Table) where
  abbrev R : List Rec
  R = records_of s

  abbrev pub own : ℕ → Bool
  own i = is_own w (get_or R i no_rec) && is_valid w (get_or R i no_rec)

  abbrev pub general : ℕ → Bool
  general i = is_general w (get_or R i no_rec) && is_valid w (get_or R i no_rec)

  abbrev pub either : ℕ → Bool
  either i = is_either w (get_or R i no_rec)

  -- what the j records before come to, none of which is the railway's own and valid
  abbrev pub standing : ℕ → Choice
  standing j = cond (ltb (least general j) j) (At (get_or (places_of s) (least general j) 0)) (cond (ltb (least either j) j) NotThatDay Nothing)

  pub standing_start : Nothing ≡ standing 0
  standing_start = rw (start general, start either)

  -- one record more
  module _ (p j : ℕ) {t : Table} {start-at next : ℕ} (e : Stands s p j t start-at next) {f : Role} (g : f ≡ cond (general j) General (cond (either j) OffItsDays Other)) where
    pub remembers : noted_at (standing j) f p ≡ standing (j + 1)
    remembers = go (ltb (least general j) j) (general j) (ltb (least either j) j) (either j) refl refl refl refl
      where
        go : (b x c y : Bool) → ltb (least general j) j ≡ b → general j ≡ x → ltb (least either j) j ≡ c → either j ≡ y
            → noted_at (standing j) f p ≡ standing (j + 1)
        go true true c y k l m n = let u = next_found general j true true k l in rw (g, k, l, u.0, u.1 refl)
        go true false c true k l m n = let u = next_found general j true false k l in rw (g, k, l, n, u.0, u.1 refl)
        go true false c false k l m n = let u = next_found general j true false k l in rw (g, k, l, n, u.0, u.1 refl)
        go false true true y k l m n = let u = next_found general j false true k l in rw (g, k, l, m, u.0, u.1 refl, e.place)
        go false true false y k l m n = let u = next_found general j false true k l in rw (g, k, l, m, u.0, u.1 refl, e.place)
        go false false true true k l m n = rw (g, k, l, m, n, (next_found general j false false k l).0, (next_found either j true true m n).0)
        go false false true false k l m n = rw (g, k, l, m, n, (next_found general j false false k l).0, (next_found either j true false m n).0)
        go false false false true k l m n = rw (g, k, l, m, n, (next_found general j false false k l).0, (next_found either j false true m n).0)
        go false false false false k l m n = rw (g, k, l, m, n, (next_found general j false false k l).0, (next_found either j false false m n).0)

  -- the railway's own record, valid, was met
  pub own_met : (p j : ℕ) {t : Table} {start-at next : ℕ} → Stands s p j t start-at next → least own j ≡ j → own j ≡ true → At p ≡ at_place s (choice_of R w)
  unfolding choice_of
  own_met p j e l o =
      let k : least own (length R) ≡ j = hit own j (length R) l o e.below in
      rw (k, lt-ltb j (length R) e.below, e.place)

  -- none was met
  pub none_met : (n : ℕ) → length R ≡ n → least own n ≡ n → standing n ≡ at_place s (choice_of R w)
  unfolding choice_of
  none_met n e l = rw (e, l, le-ltb n n (omega arith)) (go (ltb (least general n) n) (ltb (least either n) n))
    where
      go : (a b : Bool) → cond a (At (get_or (places_of s) (least general n) 0)) (cond b NotThatDay Nothing)
          ≡ at_place s (cond a (At (least general n)) (cond b NotThatDay Nothing))
      go true b = refl
      go false true = refl
      go false false = refl

-- WHAT WAS CHOSEN, from the answer by places back to the records.
pub is_nothing_lem : (s : List ℕ) (c : Choice) → at_place s c ≡ Nothing → c ≡ Nothing
is_nothing_lem s (At i) e = let z : ◌≡◌ {A = ℕ} 0 1 = cc in absurd (omega arith)
is_nothing_lem s NotThatDay e = let z : ◌≡◌ {A = ℕ} 0 1 = cc in absurd (omega arith)
is_nothing_lem s Nothing e = refl

pub is_off_day_lem : (s : List ℕ) (c : Choice) → at_place s c ≡ NotThatDay → c ≡ NotThatDay
is_off_day_lem s (At i) e = let z : ◌≡◌ {A = ℕ} 0 1 = cc in absurd (omega arith)
is_off_day_lem s NotThatDay e = refl
is_off_day_lem s Nothing e = let z : ◌≡◌ {A = ℕ} 0 1 = cc in absurd (omega arith)

is_at : (s : List ℕ) (c : Choice) (p : ℕ) → at_place s c ≡ At p → (i : ℕ) × (c ≡ At i) × (get_or (places_of s) i 0 ≡ p)
is_at s (At i) p e = (i, refl, cc)
is_at s NotThatDay p e = let z : ◌≡◌ {A = ℕ} 0 1 = cc in absurd (omega arith)
is_at s Nothing p e = let z : ◌≡◌ {A = ℕ} 0 1 = cc in absurd (omega arith)

-- which of two answers it is
came_by : (a b c : Bool) (x y k : ℕ) → cond a (At x) (cond b (At y) (cond c NotThatDay Nothing)) ≡ At k → ((a ≡ true) × (x ≡ k)) ⊎ ((b ≡ true) × (y ≡ k))
came_by true b c x y k e = inl (refl, cc)
came_by false true c x y k e = inr (refl, cc)
came_by false false true x y k e = let z : ◌≡◌ {A = ℕ} 0 1 = cc in absurd (omega arith)
came_by false false false x y k e = let z : ◌≡◌ {A = ℕ} 0 1 = cc in absurd (omega arith)

-- the record chosen is one of the records
pub choice_inside : (R : List Rec) (w : Wanted Table) (i : ℕ) → choice_of R w ≡ At i → i < length R
unfolding choice_of
choice_inside R w i e =
    let own = first_with (λ r. is_own w r && is_valid w r) R in
    let general = first_with (λ r. is_general w r && is_valid w r) R in
    ⊎_elim (λ p. omega (arith, ltb-true own (length R) p.0, p.1)) (λ p. omega (arith, ltb-true general (length R) p.0, p.1))
    (came_by (ltb own (length R)) (ltb general (length R)) (ltb (first_with (is_either w) R) (length R)) own general i e)

pub chosen_at : (s : List ℕ) (w : Wanted Table) (p : ℕ) → at_place s (choice_of (records_of s) w) ≡ At p
    → (i : ℕ) × (choice_of (records_of s) w ≡ At i) × (body_at s p ≡ (get_or (records_of s) i no_rec).body)
chosen_at s w p e =
    let a = is_at s (choice_of (records_of s) w) p e in
    let l = choice_inside (records_of s) w a.0 a.1 in
    (a.0, a.1, sym (ap (body_at s) a.2) ∙ (at_place_lem s a.0 l).0)

-- an answer that is no place
pub not_at : (s : List ℕ) (v : Choice) {c : Choice} → ((p : ℕ) → v ≡ At p → ⊥) → v ≡ at_place s c → (c ≡ NotThatDay) ⊎ (c ≡ Nothing)
not_at s (At p) x e = absurd (x p refl)
not_at s NotThatDay {c} x e = inl (is_off_day_lem s c (sym e))
not_at s Nothing {c} x e = inr (is_nothing_lem s c (sym e))
