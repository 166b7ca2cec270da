-- The rule for the lengths of months agrees with the table that days are judged by.
-- Assumes nothing.
use Prim.Native.Nat.{ℕ, ◌≤◌, ◌<◌}
use mathlib.Core.Path.{◌≡◌, refl, ◌∙◌}
use mathlib.Core.Bool.{Bool, true, false, not, and-false}
use mathlib.Core.Logic.{◌⊎◌, inl, inr, ◌↔◌}
use native.Mathlib.Omega.{arith}
use lib.Dec.{eqb}
use borrow.Author.Tests.{eqb-true, ne_eqb, lt-leb}
use Rattle.common.specs.Least.{least}
use Rattle.common.proofs.Tests.{side}
use Rattle.layout.specs.Dates.{is_leap_year, month_lengths, month_length}
use Rattle.layout.specs.Calendar.{DayBy}
use Rattle.layout.specs.MonthRule.{length_by_rule}
use Rattle.layout.proofs.Calendar.{months}
use Rattle.layout.proofs.Tables.{computed}

-- TABLE AND RULE agree in every month: above 12 there is none, and up to 12 a leap year is as 2024, any other as 2023.
pub table_is_rule : (y m : ℕ) → month_length y m ≡ length_by_rule y m
unfolding least month_lengths month_length length_by_rule
table_is_rule y m = go (is_leap_year y) refl (side m 13)
  where
    as_in : (z : ℕ) → is_leap_year y ≡ is_leap_year z → least (λ k. not (eqb (month_length z k) (length_by_rule z k))) 13 ≡ 13 → m < 13
        → month_length y m ≡ length_by_rule y m
    as_in z e c l = rw e (eqb-true _ _ (computed (λ k. eqb (month_length z k) (length_by_rule z k)) 13 c m l))

    go : (b : Bool) → is_leap_year y ≡ b → (m < 13) ⊎ (13 ≤ m) → month_length y m ≡ length_by_rule y m
    go true e (inl l) = as_in 2024 e refl l
    go false e (inl l) = as_in 2023 e refl l
    go b e (inr l) = months.none_above_12 y m l ∙ simp (ne_eqb m 2 (λ t. omega arith), lt-leb m 12 l, and-false)

-- So they do at every day.
pub rule_agrees : (y m d : ℕ) → DayBy length_by_rule y m d ↔ DayBy month_length y m d
rule_agrees y m d = rw (table_is_rule y m) (λ w. w, λ w. w)
