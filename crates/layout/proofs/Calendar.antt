-- The calendar of the definitions is the Gregorian one, said by meaning.
-- Assumes nothing.
use Prim.Native.Nat.{ℕ, zero, suc, ◌/◌, ◌%◌, ◌≤◌}
use mathlib.Core.Path.{◌≡◌, refl}
use mathlib.Core.Bool.{Bool, true, false, cond, ◌&&◌, and-false}
use mathlib.Core.Logic.{⊎_elim}
use native.Mathlib.Omega.{arith}
use native.Mathlib.Nat.{div-add-mod'}
use lib.Dec.{eqb, leb}
use lib.ListN.{get_or, get_or-eq_default}
use borrow.Author.Tests.{eq-eqb, ne_eqb, le-leb, leb-true}
use Rattle.common.specs.Least.{least}
use Rattle.common.proofs.Tests.{both_true, in_range, side}
use Rattle.layout.specs.Dates.{is_leap_year, month_lengths, month_length, year_of, month_of, day_in_month, is_day}
use Rattle.layout.specs.Calendar.{Multiple, LeapYears, Months, RealDay}
use Rattle.layout.proofs.Tables.{computed}

-- what is no multiple leaves a remainder
leaves : (k n : ℕ) → (Multiple k n → ⊥) → n % k ≡ 0 → ⊥
leaves k n none e = none (n / k, omega (arith, div-add-mod' n k))

-- LEAP YEARS
pub leap_years : LeapYears
leap_years = record {
  fourth_century = λ y m. let d : y % 400 ≡ 0 = omega (arith, m.1) in rw (eq-eqb _ _ d);
  other_century = λ y m n. let d : y % 100 ≡ 0 = omega (arith, m.1) in simp (ne_eqb _ _ (leaves 400 y n), eq-eqb _ _ d, and-false);
  other_fourth = λ y m n. let d : y % 4 ≡ 0 = omega (arith, m.1) in
      let c = leaves 100 y n in
      simp (ne_eqb (y % 400) 0 (λ z. c (omega arith)), eq-eqb _ _ d, ne_eqb _ _ c);
  any_other = λ y n. let c = leaves 4 y n in simp (ne_eqb (y % 400) 0 (λ z. c (omega arith)), ne_eqb _ _ c);
}

-- MONTHS
pub months : Months
unfolding month_length month_lengths
months = record {
  alike = λ y z m e. rw e;
  no_month_0 = λ y. refl;
  none_above_12 = λ y m h. rw (ne_eqb m 2 (λ e. omega arith), get_or-eq_default month_lengths 0 {n = m} h);
}

a_month : (y m : ℕ) → 1 ≤ month_length y m → (1 ≤ m) × (m ≤ 12)
a_month y zero h = absurd (omega (arith, months.no_month_0 y))
a_month y (suc m) h = (omega arith, ⊎_elim (λ l. omega arith) (λ l. absurd (omega (arith, months.none_above_12 y (suc m) l))) (side (suc m) 13))

month_short : (y m : ℕ) → m ≤ 12 → month_length y m ≤ 31
unfolding month_length month_lengths least
month_short y m h = go (eqb m 2 && is_leap_year y) (leb-true _ _ (computed (λ k. leb (get_or month_lengths k 0) 31) 13 refl m (omega arith)))
  where
    go : (b : Bool) {n : ℕ} → n ≤ 31 → cond b 29 n ≤ 31
    go true l = omega arith
    go false l = l

-- DAYS: what the definition calls a day is one,
pub a_day_is_real : (d : ℕ) → is_day d ≡ true → RealDay d
unfolding is_day
a_day_is_real d e =
    let b = both_true (leb 1583 (year_of d) && leb (year_of d) 9999) _ e in
    let m = in_range 1 (day_in_month d) (month_length (year_of d) (month_of d)) b.1 in
    record {
      year = year_of d;
      month = month_of d;
      day = day_in_month d;
      of_years = in_range 1583 (year_of d) 9999 b.0;
      of_year = a_month (year_of d) (month_of d) (omega arith);
      of_month = m;
      written = omega arith;
    }

-- and every day is called one.
pub real_is_a_day : (d : ℕ) → RealDay d → is_day d ≡ true
unfolding is_day
real_is_a_day d r =
    let s = month_short r.year r.month r.of_year.1 in
    let y : year_of d ≡ r.year = omega arith in
    let m : month_of d ≡ r.month = omega arith in
    let k : day_in_month d ≡ r.day = omega arith in
    rw (y, m, k, le-leb _ _ r.of_years.0, le-leb _ _ r.of_years.1, le-leb _ _ r.of_month.0, le-leb _ _ r.of_month.1)
