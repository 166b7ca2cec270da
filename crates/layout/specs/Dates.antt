-- Days as numbers YYYYMMDD (document 01, 'Values': real Gregorian dates, years 1583-9999).
-- Assumes nothing.
use Rattle.std.specs.Prelude.{ℕ, ◌/◌, ◌%◌, List, [], ◌∷◌, Bool, cond, not, ◌&&◌, ◌||◌, get_or, eqb, leb}

abbrev pub is_leap_year : ℕ → Bool
is_leap_year year = eqb (year % 400) 0 || (eqb (year % 4) 0 && not (eqb (year % 100) 0))

-- the months 1 to 12 of a year that is no leap year; there is no month 0
unfoldable pub month_lengths : List ℕ
month_lengths = 0 ∷ 31 ∷ 28 ∷ 31 ∷ 30 ∷ 31 ∷ 30 ∷ 31 ∷ 31 ∷ 30 ∷ 31 ∷ 30 ∷ 31 ∷ []

-- 0 where there is no such month
unfoldable pub month_length : ℕ → ℕ → ℕ
month_length year month = cond (eqb month 2 && is_leap_year year) 29 (get_or month_lengths month 0)

abbrev pub year_of : ℕ → ℕ
year_of day = day / 10000

abbrev pub month_of : ℕ → ℕ
month_of day = day / 100 % 100

abbrev pub day_in_month : ℕ → ℕ
day_in_month day = day % 100

unfoldable pub is_day : ℕ → Bool
is_day day =
    (leb 1583 (year_of day) && leb (year_of day) 9999)
    && (leb 1 (day_in_month day) && leb (day_in_month day) (month_length (year_of day) (month_of day)))
