-- A rule and a row as numbers, which a test can compare: the same numbers are of the same rule, and of the same row.
-- Assumes nothing.
use Prim.Native.Nat.{ℕ}
use mathlib.Core.Path.{◌≡◌, refl, sym, ap, ◌∙◌}
use mathlib.Core.Bool.{Bool, true}
use mathlib.Core.List.{List, [], ◌∷◌}
use lib.ListN.{get_or}
use Rattle.common.specs.Lists.{same}
use Rattle.common.proofs.Lists.{same_is}
use Rattle.layout.specs.declared.rows.Row.{Row}
use Rattle.layout.specs.declared.rules.Rule.{Rule}
use Rattle.layout.specs.declared.rules.Rule.TheVariants.{Text, Transferor, Railway, Number, NumberOrBlank, Flag, FlagOrBlank, MostPersons, Rounding, Factor, FirstDay, LastDay, Unlisted}

-- the kind of a rule, and its limits
abbrev pub rule_numbers : Rule → List ℕ
rule_numbers Text = 0 ∷ []
rule_numbers Transferor = 1 ∷ []
rule_numbers Railway = 2 ∷ []
rule_numbers (Number lowest highest) = 3 ∷ lowest ∷ highest ∷ []
rule_numbers (NumberOrBlank lowest highest) = 4 ∷ lowest ∷ highest ∷ []
rule_numbers Flag = 5 ∷ []
rule_numbers FlagOrBlank = 6 ∷ []
rule_numbers MostPersons = 7 ∷ []
rule_numbers Rounding = 8 ∷ []
rule_numbers Factor = 9 ∷ []
rule_numbers FirstDay = 10 ∷ []
rule_numbers LastDay = 11 ∷ []
rule_numbers Unlisted = 12 ∷ []

abbrev pub least_of : Rule → ℕ
least_of r = get_or (rule_numbers r) 1 0

abbrev pub most_of : Rule → ℕ
most_of r = get_or (rule_numbers r) 2 0

abbrev rules_at : ℕ → ℕ → List Rule
rules_at lowest highest =
    Text ∷ Transferor ∷ Railway ∷ Number lowest highest ∷ NumberOrBlank lowest highest ∷ Flag ∷ FlagOrBlank ∷ MostPersons ∷ Rounding ∷ Factor ∷ FirstDay ∷ LastDay ∷ Unlisted ∷ []

abbrev as_rule : List ℕ → Rule
as_rule e = get_or (rules_at (get_or e 1 0) (get_or e 2 0)) (get_or e 0 0) Text

rule_again : (r : Rule) → as_rule (rule_numbers r) ≡ r
rule_again Text = refl
rule_again Transferor = refl
rule_again Railway = refl
rule_again (Number lowest highest) = refl
rule_again (NumberOrBlank lowest highest) = refl
rule_again Flag = refl
rule_again FlagOrBlank = refl
rule_again MostPersons = refl
rule_again Rounding = refl
rule_again Factor = refl
rule_again FirstDay = refl
rule_again LastDay = refl
rule_again Unlisted = refl

abbrev pub alike_rules : Rule → Rule → Bool
alike_rules a b = same (rule_numbers a) (rule_numbers b)

pub same_rule : (a b : Rule) → alike_rules a b ≡ true → a ≡ b
same_rule a b e = sym (rule_again a) ∙ (ap as_rule (same_is (rule_numbers a) (rule_numbers b) e) ∙ rule_again b)

-- and so a row
abbrev row_numbers : Row → List ℕ
row_numbers r = r.field ∷ r.start ∷ r.length ∷ rule_numbers r.rule

abbrev as_row : List ℕ → Row
as_row e = record { field = get_or e 0 0; start = get_or e 1 0; length = get_or e 2 0; rule = as_rule (get_or e 3 0 ∷ get_or e 4 0 ∷ get_or e 5 0 ∷ []) }

row_again : (r : Row) → as_row (row_numbers r) ≡ r
row_again r = ap (λ rule. record { field = r.field; start = r.start; length = r.length; rule = rule }) (again r.rule)
  where
    again : (q : Rule) → as_rule (get_or (rule_numbers q) 0 0 ∷ get_or (rule_numbers q) 1 0 ∷ get_or (rule_numbers q) 2 0 ∷ []) ≡ q
    again q = rule_again q

abbrev pub alike_rows : Row → Row → Bool
alike_rows a b = same (row_numbers a) (row_numbers b)

pub same_row : (a b : Row) → alike_rows a b ≡ true → a ≡ b
same_row a b e = sym (row_again a) ∙ (ap as_row (same_is (row_numbers a) (row_numbers b) e) ∙ row_again b)
