-- A field of a record, by its table and its number in the document.
-- Assumes nothing.
use Rattle.std.specs.Prelude.{ℕ, ◌-◌, List, [], ◌∷◌, Bool, true, false, cond, ◌&&◌, eqb, leb, take, drop}
use Rattle.common.specs.Lists.{every, any, same, byte_at}
use Rattle.common.specs.Digits.{number_of, value_of}
use Rattle.layout.specs.Bytes.{byte_Y}
use Rattle.layout.specs.Layout.{CO, no_row, table_at}
use Rattle.layout.specs.declared.Table.{Table}
use Rattle.layout.specs.declared.rows.Row.{Row}
use Rattle.layout.specs.declared.rules.Rule.{Rule}
use Rattle.layout.specs.declared.rules.Rule.TheVariants.{Flag, FlagOrBlank, FirstDay, LastDay}
use Rattle.layout.specs.declared.fields.Grant.{Grant}

-- the bytes from a position on, which counts from 1
abbrev pub field_at : ℕ → ℕ → List ℕ → List ℕ
field_at start len body = take len (drop (start - 1) body)

abbrev pub bytes_in : Row → List ℕ → List ℕ
bytes_in row body = field_at row.start row.length body

-- the first of some rows that passes
unfoldable pub row_with : (Row → Bool) → List Row → Row
row_with p [] = no_row
row_with p (r ∷ rs) = cond (p r) r (row_with p rs)

-- the row of a field
unfoldable pub row_of : Table → ℕ → Row
row_of t f = row_with (λ r. eqb r.field f) (table_at t).rows

-- A FIELD: its bytes, its first byte, the number that it says (0 where it says none), and whether it is a flag that says Y
unfoldable pub bytes_of : Table → ℕ → List ℕ → List ℕ
bytes_of t f body = bytes_in (row_of t f) body

unfoldable pub byte_of : Table → ℕ → List ℕ → ℕ
byte_of t f body = byte_at (row_of t f).start body

unfoldable pub number_in : Table → ℕ → List ℕ → ℕ
number_in t f body = value_of (number_of (bytes_of t f body))

abbrev pub is_flag_rule : Rule → Bool
is_flag_rule Flag = true
is_flag_rule FlagOrBlank = true
is_flag_rule other = false

abbrev pub is_flag_row : Row → Bool
is_flag_row row = is_flag_rule row.rule

unfoldable pub is_yes : Table → ℕ → List ℕ → Bool
is_yes t f body = is_flag_row (row_of t f) && eqb (byte_of t f body) byte_Y

-- "all | 1 transferor" and "CO, AR, ME | 2 offer; 3 railway": these stand where CO has them, in every table and in every table of offers
-- (`the_transferor_stands_alike` and its fellows among the promises). A table of offers has field 3, the railway, in its key.
unfoldable pub of_offers : Table → Bool
of_offers t = any (eqb 3) (table_at t).key

unfoldable pub transferor_of : List ℕ → List ℕ
transferor_of body = bytes_of CO 1 body

unfoldable pub offer_of : List ℕ → List ℕ
offer_of body = bytes_of CO 2 body

unfoldable pub railway_of : List ℕ → List ℕ
railway_of body = bytes_of CO 3 body

-- the code of a record, nothing where its table has none
unfoldable pub code_of : Table → List ℕ → List ℕ
code_of t body = cond (eqb (table_at t).code 0) [] (bytes_of t (table_at t).code body)

-- a record has the code, if its table has one
unfoldable pub code_fits : Table → ℕ → List ℕ → Bool
code_fits t code body = cond (eqb (table_at t).code 0) true (eqb (value_of (number_of (code_of t body))) code)

-- "Keys": two records of a table have the same key if each field of its key is the same in both
unfoldable pub same_key : Table → List ℕ → List ℕ → Bool
same_key t a b = every (λ f. same (bytes_of t f a) (bytes_of t f b)) (table_at t).key

-- A PERIOD is the row of the first day and that of the last; a table without them has none. "Both days are inside the period."
abbrev pub is_first : Rule → Bool
is_first FirstDay = true
is_first other = false

abbrev pub is_last : Rule → Bool
is_last LastDay = true
is_last other = false

unfoldable pub day_row : (Rule → Bool) → Table → Row
day_row is_day t = row_with (λ r. is_day r.rule) (table_at t).rows

unfoldable pub has_period : Table → Bool
has_period t = any (λ r. is_first r.rule) (table_at t).rows

unfoldable pub first_day : Table → List ℕ → ℕ
first_day t body = value_of (number_of (bytes_in (day_row is_first t) body))

unfoldable pub last_day : Table → List ℕ → ℕ
last_day t body = value_of (number_of (bytes_in (day_row is_last t) body))

unfoldable pub holds_day : Table → List ℕ → ℕ → Bool
holds_day t body day = has_period t && (leb (first_day t body) day && leb day (last_day t body))

-- "their periods share no day": two periods share the days from the later first day to the earlier last day
abbrev pub later : ℕ → ℕ → ℕ
later a b = cond (leb a b) b a

abbrev pub earlier : ℕ → ℕ → ℕ
earlier a b = cond (leb a b) a b

unfoldable pub first_shared : Table → List ℕ → List ℕ → ℕ
first_shared t a b = later (first_day t a) (first_day t b)

unfoldable pub last_shared : Table → List ℕ → List ℕ → ℕ
last_shared t a b = earlier (last_day t a) (last_day t b)

unfoldable pub share_day : Table → List ℕ → List ℕ → Bool
share_day t a b = leb (first_shared t a b) (last_shared t a b)

-- A GRANT: discount, rounding and factor of a record, by their fields; a blank discount is 0
unfoldable pub grant_in : Table → ℕ → ℕ → ℕ → List ℕ → Grant
grant_in t d m f body = record { discount = number_in t d body; mode = byte_of t m body; factor = number_in t f body }
