-- The layout in figures: what source document 001 says of each table (Appendices C, H, I and O), the keys of document 01, the calendar's months, and the
-- letters and digits of a field.
-- Assumes nothing.
use Rattle.std.specs.Prelude.{ℕ, ◌+◌, ◌≡◌, true, List, [], ◌∷◌, ◌++◌, map, ◌↔◌, Some}
use Rattle.common.specs.Lists.{sum, up_to}
use Rattle.common.specs.Digits.{number_of}
use Rattle.layout.specs.Bytes.{byte_blank, byte_plus, byte_minus, byte_0, byte_N, byte_Y}
use Rattle.layout.specs.Layout.{CO, RE, AR, ME, table_at, length_of}
use Rattle.layout.specs.Fields.{bytes_of, number_in, offer_of, railway_of, code_of, same_key, first_day, last_day, holds_day}
use Rattle.layout.specs.Dates.{month_length}
use Rattle.layout.specs.Values.{InPeriod}
use Rattle.layout.specs.declared.Table.{Table}
use Rattle.layout.specs.declared.rows.Row.{Row}

-- fields that follow each other, by the lengths that 001 gives them: each has its number, starts behind the one before, and is so long
unfoldable pub in_a_row : (field position : ℕ) → List ℕ → List (List ℕ)
in_a_row f p [] = []
in_a_row f p (n ∷ ns) = (f ∷ p ∷ n ∷ []) ∷ in_a_row (f + 1) (p + n) ns

-- runs of such fields, each with the number of its first field
unfoldable pub in_runs : (position : ℕ) → List (ℕ × List ℕ) → List (List ℕ)
in_runs p [] = []
in_runs p (r ∷ rs) = in_a_row r.0 p r.1 ++ in_runs (p + sum r.1) rs

pub data Figure : Type 0 where
  -- a table's mark is these two letters, in ISO 8859-1
  marked : (table : Table) (first second : ℕ) → Figure
  -- its records are so long without it
  long : (table : Table) (bytes : ℕ) → Figure
  -- its fields are so long, from position 1 on
  fields : (table : Table) → List (ℕ × List ℕ) → Figure
  -- its code is this field, 0 where it has none
  coded : (table : Table) (field : ℕ) → Figure
  -- two of its records have the same key exactly if each of these is the same in both
  keyed : (table : Table) → List (List ℕ → List ℕ) → Figure
  -- the period of its records is from the day of the one field to that of the other, both inside
  period : (table : Table) (first last : ℕ) → Figure
  -- the months of a year are so long
  months : (year : ℕ) → List ℕ → Figure
  -- so many years have so many days
  years : (first count days : ℕ) → Figure
  -- a letter or sign has this number in ISO 8859-1
  letter : (byte code : ℕ) → Figure
  -- some bytes say this number
  digits : (bytes : List ℕ) (number : ℕ) → Figure

abbrev pub Alike : List (List ℕ → List ℕ) → List ℕ → List ℕ → Type 0
Alike [] a b = Unit
Alike (part ∷ parts) a b = (part a ≡ part b) × Alike parts a b

abbrev pub months_of : ℕ → List ℕ
months_of year = up_to (λ m. month_length year (m + 1)) 12

-- what a figure says
abbrev pub Says : Figure → Type 0
Says (marked t a b) = (table_at t).mark ≡ a ∷ b ∷ []
Says (long t n) = length_of t ≡ n
Says (fields t runs) = map (λ (r : Row). r.field ∷ r.start ∷ r.length ∷ []) (table_at t).rows ≡ in_runs 1 runs
Says (coded t f) = (body : List ℕ) → code_of t body ≡ bytes_of t f body
Says (keyed t parts) = (a b : List ℕ) → (same_key t a b ≡ true) ↔ Alike parts a b
Says (period t first last) =
    (body : List ℕ) → (first_day t body ≡ number_in t first body) × (last_day t body ≡ number_in t last body)
    × ((day : ℕ) → (holds_day t body day ≡ true) ↔ InPeriod t day body)
Says (months year lengths) = months_of year ≡ lengths
Says (years first count days) = sum (up_to (λ k. sum (months_of (first + k))) count) ≡ days
Says (letter byte code) = byte ≡ code
Says (digits bytes n) = number_of bytes ≡ Some n

-- The fields 4 to 26 of CO are read as one text, field 4.
abbrev pub figures : List Figure
figures =
    marked CO 67 79 ∷
    marked RE 82 69 ∷
    marked AR 65 82 ∷
    marked ME 77 69 ∷
    long CO 155 ∷
    long RE 440 ∷
    long AR 49 ∷
    long ME 1231 ∷
    fields CO (
    (1, 4 ∷ 5 ∷ 4 ∷ 100 ∷ []) ∷
    (27, 1 ∷ 2 ∷ 2 ∷ 1 ∷ 1 ∷ 1 ∷ 1 ∷ 1 ∷ 1 ∷ 1 ∷ 1 ∷ 1 ∷ 6 ∷ 1 ∷ 3 ∷ 8 ∷ 2 ∷ 8 ∷ []) ∷
    []) ∷
    fields RE ((1, 4 ∷ 3 ∷ 30 ∷ 30 ∷ 30 ∷ 30 ∷ 30 ∷ 265 ∷ 8 ∷ 2 ∷ 8 ∷ []) ∷ []) ∷
    fields AR ((1, 4 ∷ 5 ∷ 4 ∷ 3 ∷ 6 ∷ 1 ∷ 3 ∷ 1 ∷ 1 ∷ 3 ∷ 8 ∷ 2 ∷ 8 ∷ []) ∷ []) ∷
    fields ME ((1, 4 ∷ 5 ∷ 4 ∷ 240 ∷ 240 ∷ 240 ∷ 240 ∷ 240 ∷ 8 ∷ 2 ∷ 8 ∷ []) ∷ []) ∷
    coded CO 0 ∷
    coded RE 2 ∷
    coded AR 4 ∷
    coded ME 0 ∷
    keyed CO (offer_of ∷ railway_of ∷ []) ∷
    keyed ME (offer_of ∷ railway_of ∷ []) ∷
    keyed RE (code_of RE ∷ []) ∷
    keyed AR (offer_of ∷ railway_of ∷ code_of AR ∷ []) ∷
    period CO 42 44 ∷
    period RE 9 11 ∷
    period AR 11 13 ∷
    period ME 9 11 ∷
    months 2023 (31 ∷ 28 ∷ 31 ∷ 30 ∷ 31 ∷ 30 ∷ 31 ∷ 31 ∷ 30 ∷ 31 ∷ 30 ∷ 31 ∷ []) ∷
    months 2024 (31 ∷ 29 ∷ 31 ∷ 30 ∷ 31 ∷ 30 ∷ 31 ∷ 31 ∷ 30 ∷ 31 ∷ 30 ∷ 31 ∷ []) ∷
    years 1600 400 146097 ∷
    letter byte_blank 32 ∷
    letter byte_plus 43 ∷
    letter byte_minus 45 ∷
    letter byte_0 48 ∷
    letter byte_N 78 ∷
    letter byte_Y 89 ∷
    digits (48 ∷ 50 ∷ 53 ∷ 48 ∷ 48 ∷ 48 ∷ []) 25000 ∷
    digits (49 ∷ 50 ∷ 51 ∷ 52 ∷ 53 ∷ 54 ∷ 55 ∷ 56 ∷ 57 ∷ []) 123456789 ∷
    []
