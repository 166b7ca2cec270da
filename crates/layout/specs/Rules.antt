-- What each rule asks of a field, and the first field that breaks its rule (document 01, 'Values').
-- Assumes nothing.
use Rattle.std.specs.Prelude.{◌≡◌, true, false, Option, Some, None, ℕ, ◌-◌, List, [], ◌∷◌, Bool, cond, ◌&&◌, ◌||◌, eqb, leb}
use Rattle.common.specs.Lists.{every, byte_at}
use Rattle.common.specs.Digits.{number_of, value_of, is_within}
use Rattle.layout.specs.Bytes.{is_text, is_blank, byte_blank, byte_plus, byte_minus, byte_0, byte_N, byte_Y}
use Rattle.layout.specs.Company.{is_company, is_transferor}
use Rattle.layout.specs.Dates.{is_day}
use Rattle.layout.specs.Layout.{table_at}
use Rattle.layout.specs.Fields.{bytes_in, bytes_of, byte_of, is_first, day_row}
use Rattle.layout.specs.declared.Table.{Table}
use Rattle.layout.specs.declared.rows.Row.{Row}
use Rattle.layout.specs.declared.rules.Rule.{Rule}
use Rattle.layout.specs.declared.rules.Rule.TheVariants.{Text, Transferor, Railway, Number, NumberOrBlank, Flag, FlagOrBlank, MostPersons, Rounding, Factor, FirstDay, LastDay, Unlisted}

abbrev pub is_flag : ℕ → Bool
is_flag b = eqb b byte_Y || eqb b byte_N

-- "Field 27 alone may be blank, which means N."
abbrev pub flag_or_blank : ℕ → Bool
flag_or_blank b = eqb b byte_blank || is_flag b

-- "Rounding is one of + - 0 N."
abbrev pub is_rounding : ℕ → Bool
is_rounding b = eqb b byte_plus || (eqb b byte_minus || (eqb b byte_0 || eqb b byte_N))

unfoldable pub number_or_blank : ℕ → ℕ → List ℕ → Bool
number_or_blank lowest highest s = every is_blank s || is_within lowest highest (number_of s)

-- "most persons 01-99; two blanks mean .. 99. .. If most is 01-98, least must not be above it"; a blank least is 00
unfoldable pub most_persons : List ℕ → List ℕ → Bool
most_persons fewest s =
    every is_blank s
    || (is_within 1 99 (number_of s) && (eqb (value_of (number_of s)) 99 || leb (value_of (number_of fewest)) (value_of (number_of s))))

-- "Factor is three digits, 000-999, in cents; 000 is a fault unless rounding is N."
unfoldable pub factor_rule : ℕ → List ℕ → Bool
factor_rule mode s = is_within (cond (eqb mode byte_N) 0 1) 999 (number_of s)

unfoldable pub first_day_rule : List ℕ → Bool
first_day_rule s = is_day (value_of (number_of s))

-- "The last day must not be before the first"
unfoldable pub last_day_rule : List ℕ → List ℕ → Bool
last_day_rule first s = first_day_rule s && leb (value_of (number_of first)) (value_of (number_of s))

-- what a rule asks of a field, of its first byte or of its bytes; most persons is held to the fewest, the factor to the rounding, and the last day to the first
unfoldable pub ruled : List ℕ → ℕ → List ℕ → ℕ → List ℕ → Rule → Bool
ruled fewest mode first byte s Text = every is_text s
ruled fewest mode first byte s Transferor = is_transferor s
ruled fewest mode first byte s Railway = is_company s
ruled fewest mode first byte s (Number lowest highest) = is_within lowest highest (number_of s)
ruled fewest mode first byte s (NumberOrBlank lowest highest) = number_or_blank lowest highest s
ruled fewest mode first byte s Flag = is_flag byte
ruled fewest mode first byte s FlagOrBlank = flag_or_blank byte
ruled fewest mode first byte s MostPersons = most_persons fewest s
ruled fewest mode first byte s Rounding = is_rounding byte
ruled fewest mode first byte s Factor = factor_rule mode s
ruled fewest mode first byte s FirstDay = first_day_rule s
ruled fewest mode first byte s LastDay = last_day_rule first s
ruled fewest mode first byte s Unlisted = false

-- and so the rule of a row of a record
unfoldable pub kept_beside : List ℕ → ℕ → List ℕ → List ℕ → Row → Bool
kept_beside fewest mode first body row = ruled fewest mode first (byte_at row.start body) (bytes_in row body) row.rule

-- a record of table t keeps the rule of a row: the fewest persons, and the rounding, are the field before it
unfoldable pub keeps_row : Table → List ℕ → Row → Bool
keeps_row t body row =
    kept_beside (bytes_of t (row.field - 1) body) (byte_of t (row.field - 1) body) (bytes_in (day_row is_first t) body) body row

-- the field of the first of some rows that is not kept, none where all are
unfoldable pub first_broken : (Row → Bool) → List Row → Option ℕ
first_broken kept [] = None
first_broken kept (row ∷ rs) = cond (kept row) (first_broken kept rs) (Some row.field)

-- "fields from left to right": the first field that breaks its rule, if one does
unfoldable pub broken_field : Table → List ℕ → Option ℕ
broken_field t body = first_broken (keeps_row t body) (table_at t).rows

-- every field keeps its rule
unfoldable pub keeps_rules : Table → List ℕ → Bool
keeps_rules t body = every (keeps_row t body) (table_at t).rows

-- A rule that the layout knows, and rows of such rules.
abbrev pub is_listed : Rule → Bool
is_listed Unlisted = false
is_listed other = true

abbrev pub AllListed : List Row → Type 0
AllListed rows = every (λ row. is_listed row.rule) rows ≡ true
