-- What the code's helpers answer. Nothing here has to be believed: no promise and no answer of a call is stated with it.
-- Assumes nothing.
use Rattle.std.specs.Prelude.{ℕ, ◌+◌, ◌-◌, ◌*◌, Bool, cond, List, map, eqb, length, take, Result, Ok, Err}
use Rattle.common.specs.Lists.{sum, byte_at}
use Rattle.common.specs.Ranks.{rank_of}
use Rattle.layout.specs.Layout.{each_table, table_number, table_at}
use Rattle.layout.specs.Fields.{field_at, row_of}
use Rattle.layout.specs.Rules.{kept_beside}
use Rattle.layout.specs.declared.Table.{Table}
use Rattle.layout.specs.declared.NoTable.{NoTable}
use Rattle.layout.specs.declared.rows.Row.{Row}
use Rattle.layout.specs.declared.fields.Span.{Span}

-- where the rows of a table start in the layout: behind those of the tables before it
unfoldable pub first_row : Table → ℕ
first_row t = sum (map (λ (u : Table). length (table_at u).rows) (take (table_number t) each_table))

-- where a table's code stands and how many bytes it has, none where it has no code
abbrev pub no_span : Span
no_span = (0, 0)

unfoldable pub code_span : Table → Span
code_span t = cond (eqb (table_at t).code 0) no_span ((row_of t (table_at t).code).start, (row_of t (table_at t).code).length)

-- how many bytes the fields of a table's key have together
unfoldable pub key_length : Table → ℕ
key_length t = sum (map (λ f. (row_of t f).length) (table_at t).key)

-- one number for a record's table and key, which stands from position 5 on; the step tells the numbers of one table from those of another
abbrev pub table_step : ℕ
table_step = 1000003

unfoldable pub key_number : Table → List ℕ → ℕ
key_number t body = rank_of (field_at 5 (key_length t) body) + table_number t * table_step

-- the same of what is named: a number that is no table's has no key
abbrev pub named_key_number : Result Table NoTable → List ℕ → ℕ
named_key_number (Ok t) body = key_number t body
named_key_number (Err number) body = number.0 * table_step

-- a record keeps the rule of a row, whatever its table: the least persons and the rounding are read right before it, the first day before the version
unfoldable pub obeys_row : List ℕ → Row → Bool
obeys_row body row = kept_beside (field_at (row.start - 2) 2 body) (byte_at (row.start - 1) body) (field_at (row.start - 10) 8 body) body row
