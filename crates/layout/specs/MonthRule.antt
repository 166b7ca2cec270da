-- The rule by which the length of a month is worked out from month and year (document 02, R-3). Days are judged by the table in Dates.antt; the two agree.
-- Assumes nothing.
use Rattle.std.specs.Prelude.{ℕ, ◌+◌, ◌/◌, ◌%◌, cond, ◌&&◌, eqb, leb}
use Rattle.layout.specs.Dates.{is_leap_year}

-- February has 28 days, or 29 in a leap year. Of the others every other one is long, from January to July and anew from August on.
unfoldable pub length_by_rule : ℕ → ℕ → ℕ
length_by_rule year month =
    cond (eqb month 2)
    (cond (is_leap_year year) 29 28)
    (cond (leb 1 month && leb month 12) (30 + (month + month / 8) % 2) 0)
