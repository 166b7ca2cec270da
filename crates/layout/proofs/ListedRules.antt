-- NO ROW of the layout has the rule that is none (Unlisted), and none that is taken or looked up from rows without it.
-- Assumes nothing.
use Rattle.std.proofs.Common.{◌≡◌, ℕ, refl, ap, Bool, true, false, cond, List, [], ◌∷◌, take, drop}
use Rattle.common.specs.Lists.{every}
use Rattle.common.proofs.Tests.{never, both_true}
use Rattle.common.proofs.Lists.{every_take, every_drop}
use Rattle.layout.specs.Layout.{table_at, layout_from, layout}
use Rattle.layout.specs.Fields.{row_with}
use Rattle.layout.specs.Rules.{is_listed, AllListed}
use Rattle.layout.specs.declared.Table.{Table}
use Rattle.layout.specs.declared.rows.Row.{Row}
use Rattle.layout.specs.declared.rules.Rule.{Rule}
use Rattle.layout.specs.declared.rules.Rule.TheVariants.{Unlisted}
use Rattle.layout.proofs.Tables.{at_each}

pub a_listed_rule_is_one : (r : Rule) → is_listed r ≡ true → r ≡ Unlisted → ⊥
a_listed_rule_is_one r e none = never e (ap is_listed none)

pub the_layout_is_listed : AllListed layout
unfolding layout layout_from table_at every
the_layout_is_listed = refl

pub a_table_is_listed : (t : Table) → AllListed (table_at t).rows
unfolding table_at every
a_table_is_listed = at_each (λ t. every (λ row. is_listed row.rule) (table_at t).rows) refl

pub a_part_is_listed : (rows : List Row) → AllListed rows → (n k : ℕ) → AllListed (take n (drop k rows))
a_part_is_listed rows e n k = every_take (λ row. is_listed row.rule) (drop k rows) n (every_drop (λ row. is_listed row.rule) rows k e)

pub a_found_row_is_listed : (p : Row → Bool) (rows : List Row) → AllListed rows → is_listed (row_with p rows).rule ≡ true
unfolding row_with every
a_found_row_is_listed p [] e = refl
a_found_row_is_listed p (row ∷ rows) e = let d = both_true (is_listed row.rule) _ e in go (p row) d.0 (a_found_row_is_listed p rows d.1)
  where
    go : (b : Bool) → is_listed row.rule ≡ true → is_listed (row_with p rows).rule ≡ true → is_listed (cond b row (row_with p rows)).rule ≡ true
    go true first rest = first
    go false first rest = rest
