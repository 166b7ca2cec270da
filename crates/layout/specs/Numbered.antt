-- A table by its number.
-- Assumes nothing.
use Rattle.std.specs.Prelude.{◌≡◌, ℕ, ◌<◌, map, get_or, Result, Ok, Err, MatchResult}
use Rattle.layout.specs.Layout.{table_number, each_table}
use Rattle.layout.specs.declared.Table.{Table}
use Rattle.layout.specs.declared.NoTable.{NoTable}

-- the table of this number, or the number, which is above all of theirs
abbrev pub IsNumbered : ℕ → Result Table NoTable → Type 0
IsNumbered number r = MatchResult r (λ t. table_number t ≡ number) (λ none. (none.0 ≡ number) × (3 < number))

-- what a number names: the table of this number, or the number, where it is that of none
abbrev pub numbered : ℕ → Result Table NoTable
numbered number = get_or (map (λ t. Ok t) each_table) number (Err (record { 0 = number }))

-- what is answered of a table that is named, and where none is
abbrev pub of_named : {A : Type 0} → A → (Table → A) → Result Table NoTable → A
of_named none answer (Ok t) = answer t
of_named none answer (Err number) = none
