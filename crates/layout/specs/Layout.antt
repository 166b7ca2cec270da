-- The tables and their layout, in the document's shape (document 01, 'The bundle'): one block for each table, with its mark, the fields of its key, the
-- field of its code and its rows. The rows own every position; elsewhere a field is a table and a field number.
-- Assumes nothing.
use Rattle.std.specs.Prelude.{ℕ, ◌+◌, ◌-◌, Bool, true, ◌&&◌, List, [], ◌∷◌, ◌++◌, eqb, ltb}
use denote.Enum.Bare.{sameb}
use Rattle.layout.specs.Bytes.{byte_A, byte_C, byte_E, byte_M, byte_O, byte_R}
use Rattle.layout.specs.contracts.Table.{the_type}
use Rattle.layout.specs.declared.Table.{Table}
use Rattle.layout.specs.declared.Table.TheVariants.{Co, Re, Ar, Me}
use Rattle.layout.specs.declared.rows.Row.{Row}
use Rattle.layout.specs.declared.rules.Rule.{Rule}
use Rattle.layout.specs.declared.rules.Rule.TheVariants.{Text, Transferor, Railway, Number, NumberOrBlank, Flag, FlagOrBlank, MostPersons, Rounding, Factor, FirstDay, LastDay}

-- the tables, in the order of their blocks
abbrev pub CO : Table
CO = Co

abbrev pub RE : Table
RE = Re

abbrev pub AR : Table
AR = Ar

abbrev pub ME : Table
ME = Me

abbrev pub each_table : List Table
each_table = CO ∷ RE ∷ AR ∷ ME ∷ []

-- the number of each in that order
abbrev pub table_number : Table → ℕ
table_number Co = 0
table_number Re = 1
table_number Ar = 2
table_number Me = 3

-- whether two are the same
abbrev pub is_table : Table → Table → Bool
is_table = sameb the_type

-- A ROW: field, first and last position, and the rule, which `Rules` says
abbrev pub row : ℕ → ℕ → ℕ → Rule → Row
row f first last asked = record { field = f; start = first; length = last + 1 - first; rule = asked }

abbrev pub no_row : Row
no_row = record { field = 0; start = 0; length = 0; rule = Text }

-- A BLOCK: the mark of its table, "the last two letters of its file name"; the fields of its key; the field of its code, 0 where it has none; its rows
pub record Block : Type 0 where
  pub mark : List ℕ
  pub key : List ℕ
  pub code : ℕ
  pub rows : List Row

abbrev pub co : Block
co = record {
  mark = byte_C ∷ byte_O ∷ [];
  key = 2 ∷ 3 ∷ [];
  code = 0;
  rows =
      row 1 1 4 Transferor ∷
      row 2 5 9 (Number 1 99999) ∷
      row 3 10 13 Railway ∷
      row 4 14 113 Text ∷
      row 27 114 114 FlagOrBlank ∷
      row 28 115 116 (NumberOrBlank 0 99) ∷
      row 29 117 118 MostPersons ∷
      row 30 119 119 (Number 0 9) ∷
      row 31 120 120 Flag ∷
      row 32 121 121 Flag ∷
      row 33 122 122 Flag ∷
      row 34 123 123 Flag ∷
      row 35 124 124 Flag ∷
      row 36 125 125 Flag ∷
      row 37 126 126 Flag ∷
      row 38 127 127 Flag ∷
      row 39 128 133 (NumberOrBlank 0 100000) ∷
      row 40 134 134 Rounding ∷
      row 41 135 137 Factor ∷
      row 42 138 145 FirstDay ∷
      row 43 146 147 (Number 1 99) ∷
      row 44 148 155 LastDay ∷
      [];
}

abbrev pub re : Block
re = record {
  mark = byte_R ∷ byte_E ∷ [];
  key = 2 ∷ [];
  code = 2;
  rows =
      row 1 1 4 Transferor ∷
      row 2 5 7 (Number 1 999) ∷
      row 3 8 37 Text ∷
      row 4 38 67 Text ∷
      row 5 68 97 Text ∷
      row 6 98 127 Text ∷
      row 7 128 157 Text ∷
      row 8 158 422 Text ∷
      row 9 423 430 FirstDay ∷
      row 10 431 432 (Number 1 99) ∷
      row 11 433 440 LastDay ∷
      [];
}

abbrev pub ar : Block
ar = record {
  mark = byte_A ∷ byte_R ∷ [];
  key = 2 ∷ 3 ∷ 4 ∷ [];
  code = 4;
  rows =
      row 1 1 4 Transferor ∷
      row 2 5 9 (Number 1 99999) ∷
      row 3 10 13 Railway ∷
      row 4 14 16 (Number 1 999) ∷
      row 5 17 22 (Number 0 100000) ∷
      row 6 23 23 Flag ∷
      row 7 24 26 (Number 1 999) ∷
      row 8 27 27 Flag ∷
      row 9 28 28 Rounding ∷
      row 10 29 31 Factor ∷
      row 11 32 39 FirstDay ∷
      row 12 40 41 (Number 1 99) ∷
      row 13 42 49 LastDay ∷
      [];
}

abbrev pub me : Block
me = record {
  mark = byte_M ∷ byte_E ∷ [];
  key = 2 ∷ 3 ∷ [];
  code = 0;
  rows =
      row 1 1 4 Transferor ∷
      row 2 5 9 (Number 1 99999) ∷
      row 3 10 13 Railway ∷
      row 4 14 253 Text ∷
      row 5 254 493 Text ∷
      row 6 494 733 Text ∷
      row 7 734 973 Text ∷
      row 8 974 1213 Text ∷
      row 9 1214 1221 FirstDay ∷
      row 10 1222 1223 (Number 1 99) ∷
      row 11 1224 1231 LastDay ∷
      [];
}

unfoldable pub table_at : Table → Block
table_at Co = co
table_at Re = re
table_at Ar = ar
table_at Me = me

-- where the last of some rows ends, p where there is none
unfoldable pub end_of : ℕ → List Row → ℕ
end_of p [] = p
end_of p (r ∷ rs) = end_of (r.start + r.length - 1) rs

-- a record's length without its mark is where its last row ends
unfoldable pub length_of : Table → ℕ
length_of t = end_of 0 (table_at t).rows

-- some rows stand one behind the other from position p on, with no gap and no overlap
unfoldable pub stand_from : ℕ → List Row → Bool
stand_from p [] = true
stand_from p (r ∷ rs) = eqb r.start p && (ltb 0 r.length && stand_from (p + r.length) rs)

-- THE LAYOUT: the rows of all tables in turn
unfoldable pub layout_from : List Table → List Row
layout_from [] = []
layout_from (t ∷ ts) = (table_at t).rows ++ layout_from ts

unfoldable pub layout : List Row
layout = layout_from each_table
