-- The Gregorian calendar by its meaning, with no remainder and no division (document 01, 'Values': "real Gregorian dates, years 1583-9999").
-- Assumes nothing.
use Rattle.std.specs.Prelude.{ℕ, ◌+◌, ◌*◌, ◌≤◌, ◌<◌, ◌≡◌, true, false}
use Rattle.layout.specs.Dates.{is_leap_year, month_length}

-- n is k, taken some number of times
abbrev pub Multiple : ℕ → ℕ → Type 0
Multiple k n = (times : ℕ) × (n ≡ times * k)

-- A LEAP YEAR is every fourth, but of the centuries only every fourth.
pub record LeapYears : Type 0 where
  pub fourth_century : (year : ℕ) → Multiple 400 year → is_leap_year year ≡ true
  pub other_century : (year : ℕ) → Multiple 100 year → (Multiple 400 year → ⊥) → is_leap_year year ≡ false
  pub other_fourth : (year : ℕ) → Multiple 4 year → (Multiple 100 year → ⊥) → is_leap_year year ≡ true
  pub any_other : (year : ℕ) → (Multiple 4 year → ⊥) → is_leap_year year ≡ false

-- MONTHS: the figures tell those of 2023 and of 2024. A leap year has the months of another leap year, and any other year those of another such; no
-- year has a month 0 or 13.
pub record Months : Type 0 where
  pub alike : (year other month : ℕ) → is_leap_year year ≡ is_leap_year other → month_length year month ≡ month_length other month
  pub no_month_0 : (year : ℕ) → month_length year 0 ≡ 0
  pub none_above_12 : (year month : ℕ) → 12 < month → month_length year month ≡ 0

-- a day of a month of a year, where months are so long
abbrev pub DayBy : (ℕ → ℕ → ℕ) → (year month day : ℕ) → Type 0
DayBy length year month day = (1 ≤ day) × (day ≤ length year month)

-- A DAY is a day of a month of a year, written YYYYMMDD.
pub record RealDay (d : ℕ) : Type 0 where
  pub year : ℕ
  pub month : ℕ
  pub day : ℕ
  pub of_years : (1583 ≤ year) × (year ≤ 9999)
  pub of_year : (1 ≤ month) × (month ≤ 12)
  pub of_month : DayBy month_length year month day
  pub written : d ≡ year * 10000 + month * 100 + day
