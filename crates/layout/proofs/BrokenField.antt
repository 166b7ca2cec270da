-- A walk over a table's rows, as the code has them, finds the first field that breaks its rule: the rows lie together in the layout, and the fields that a
-- rule looks at stand where the code reads them.
-- Assumes nothing.
use Prim.Native.Nat.{ℕ, ◌-◌}
use mathlib.Core.Path.{◌≡◌, refl}
use mathlib.Core.Bool.{Bool, true, ◌&&◌}
use mathlib.Core.List.{List, [], ◌∷◌}
use lib.Dec.{eqb}
use lib.ListN.{length, take, drop}
use borrow.Author.Tests.{eqb-true}
use Rattle.common.specs.Lists.{every, sum, byte_at}
use Rattle.common.proofs.Tests.{both_true}
use Rattle.layout.specs.Layout.{table_at, layout_from, layout}
use Rattle.layout.specs.Fields.{field_at, row_with, row_of, bytes_in, bytes_of, byte_of, is_first, day_row}
use Rattle.layout.specs.Rules.{ruled, kept_beside, keeps_row, first_broken, broken_field}
use Rattle.layout.specs.Helpers.{first_row, obeys_row}
use Rattle.layout.specs.declared.Table.{Table}
use Rattle.layout.specs.declared.Table.TheVariants.{Co, Re, Ar, Me}
use Rattle.layout.specs.declared.rows.Row.{Row}
use Rattle.layout.specs.declared.rules.Rule.{Rule}
use Rattle.layout.specs.declared.rules.Rule.TheVariants.{Text, Transferor, Railway, Number, NumberOrBlank, Flag, FlagOrBlank, MostPersons, Rounding, Factor, FirstDay, LastDay, Unlisted}
use Rattle.layout.proofs.Tables.{at_each}

-- THE ROWS OF A TABLE stand in the layout behind those of the tables before it
in_layout : (t : Table) → take (length (table_at t).rows) (drop (first_row t) layout) ≡ (table_at t).rows
unfolding first_row sum layout layout_from table_at
in_layout Co = refl
in_layout Re = refl
in_layout Ar = refl
in_layout Me = refl

-- LOOKING BACK: where a rule looks at another field, this stands where the code reads it,
module _ (t : Table) (row : Row) where
  abbrev row_before : Row
  row_before = row_of t (row.field - 1)

  abbrev stands_back : Rule → Bool
  stands_back MostPersons = eqb row_before.start (row.start - 2) && eqb row_before.length 2
  stands_back Factor = eqb row_before.start (row.start - 1)
  stands_back LastDay = eqb (day_row is_first t).start (row.start - 10) && eqb (day_row is_first t).length 8
  stands_back other = true

abbrev looks_back : Table → Row → Bool
looks_back t row = stands_back t row row.rule

look_back : (t : Table) → every (looks_back t) (table_at t).rows ≡ true
unfolding every day_row row_of row_with table_at
look_back t = at_each (λ u. every (looks_back u) (table_at u).rows) refl t

-- and a rule that looks at no other field is the same beside any; so the code's rule of a row is the table's.
looked_back : (t : Table) (body : List ℕ) (row : Row) → looks_back t row ≡ true → obeys_row body row ≡ keeps_row t body row
unfolding obeys_row keeps_row kept_beside ruled bytes_of byte_of
looked_back t body row h = go row.rule h
  where
    b : Row
    b = row_of t (row.field - 1)

    go : (r : Rule) → stands_back t row r ≡ true
        → ruled (field_at (row.start - 2) 2 body) (byte_at (row.start - 1) body) (field_at (row.start - 10) 8 body) (byte_at row.start body) (bytes_in row body) r
        ≡ ruled (bytes_of t (row.field - 1) body) (byte_of t (row.field - 1) body) (bytes_in (day_row is_first t) body) (byte_at row.start body) (bytes_in row body) r
    go Text e = refl
    go Transferor e = refl
    go Railway e = refl
    go (Number lowest highest) e = refl
    go (NumberOrBlank lowest highest) e = refl
    go Flag e = refl
    go FlagOrBlank e = refl
    go MostPersons e = let l = both_true (eqb b.start (row.start - 2)) _ e in rw (eqb-true b.start _ l.0, eqb-true b.length 2 l.1)
    go Rounding e = refl
    go Factor e = rw (eqb-true b.start _ e)
    go FirstDay e = refl
    go LastDay e =
        let d = day_row is_first t in
        let l = both_true (eqb d.start (row.start - 10)) _ e in rw (eqb-true d.start _ l.0, eqb-true d.length 8 l.1)
    go Unlisted e = refl

-- THE FIRST BROKEN FIELD is that of the first row that the code finds broken
alike_broken : (p q b : Row → Bool) → ((r : Row) → b r ≡ true → p r ≡ q r) → (rs : List Row) → every b rs ≡ true → first_broken p rs ≡ first_broken q rs
unfolding every first_broken
alike_broken p q b f [] e = refl
alike_broken p q b f (r ∷ rs) e = let d = both_true (b r) (every b rs) e in rw (f r d.0, alike_broken p q b f rs d.1)

pub broken_in_table : (t : Table) (body : List ℕ)
    → first_broken (obeys_row body) (take (length (table_at t).rows) (drop (first_row t) layout)) ≡ broken_field t body
unfolding broken_field
broken_in_table t body =
    rw (in_layout t)
    (alike_broken (obeys_row body) (keeps_row t body) (looks_back t) (looked_back t body) (table_at t).rows (look_back t))
