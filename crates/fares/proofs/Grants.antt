-- WHAT A RECORD GRANTS. In a bundle that keeps the rules every CO and every AR has a discount of at most the whole and one of the four roundings, with a
-- factor where it is used: so each step is rounded as its record says.
-- Assumes nothing.
use Prim.Native.Nat.{ℕ, ◌-◌, ◌*◌, ◌≤◌, ◌<◌}
use mathlib.Core.Path.{◌≡◌, refl}
use mathlib.Core.Bool.{Bool, true, false, cond}
use mathlib.Core.List.{List, [], ◌∷◌}
use mathlib.Core.Logic.{inl, inr}
use native.Mathlib.Omega.{arith}
use lib.Dec.{eqb, ltb}
use lib.ListN.{length}
use borrow.Author.Tests.{eqb-true, ne_eqb}
use Rattle.common.specs.Lists.{every, any}
use Rattle.common.specs.Digits.{digits_after, number_of, value_of}
use Rattle.std.specs.Prelude.{None}
use Rattle.common.proofs.Tests.{both_true}
use Rattle.common.proofs.Digits.{within_value}
use Rattle.layout.specs.Bytes.{byte_blank, byte_plus, byte_minus, byte_0, byte_N, is_blank}
use Rattle.layout.specs.Layout.{CO, AR, table_at}
use Rattle.layout.specs.declared.Table.{Table}
use Rattle.layout.specs.Fields.{row_with, row_of, bytes_of, byte_of, number_in, grant_in}
use Rattle.layout.specs.Rules.{is_rounding, number_or_blank, factor_rule, ruled, kept_beside, keeps_row}
use Rattle.layout.specs.declared.rows.Row.{Row}
use Rattle.layout.specs.declared.fields.Grant.{Grant}
use Rattle.layout.proofs.Tables.{keeps_field}
use Rattle.bundle.specs.Records.{Rec}
use Rattle.bundle.specs.Meaning.{KeepsRules}
use Rattle.fares.specs.Rounding.{unit, rounded, IsRounded}
use Rattle.fares.specs.Reductions.{conditions_grant, card_grants, reduce_by}
use Rattle.fares.proofs.RoundLaws.{up_is, down_is, near_is}

-- what a record may grant
pub record Lawful (g : Grant) : Type 0 where
  pub at_most_whole : g.discount ≤ unit
  pub one_of_four : is_rounding g.mode ≡ true
  pub factor_used : (g.mode ≡ byte_N → ⊥) → 0 < g.factor

-- rounded by the first of the four bytes that it is
by_mode : (n f mode : ℕ) (plus minus zero : Bool) → eqb mode byte_plus ≡ plus → eqb mode byte_minus ≡ minus → eqb mode byte_0 ≡ zero
    → is_rounding mode ≡ true → ((mode ≡ byte_N → ⊥) → 0 < f) → IsRounded mode n f (rounded mode n f)
unfolding rounded
by_mode n f mode true minus zero p m z h g =
    let e = eqb-true mode byte_plus p in
    inl (e, rw p (up_is n f (g (λ x. omega (arith, e, x)))))
by_mode n f mode false true zero p m z h g =
    let e = eqb-true mode byte_minus m in
    inr (inl (e, rw (p, m) (down_is n f (g (λ x. omega (arith, e, x))))))
by_mode n f mode false false true p m z h g =
    let e = eqb-true mode byte_0 z in
    inr (inr (inl (e, rw (p, m, z) (near_is n f (g (λ x. omega (arith, e, x)))))))
by_mode n f mode false false false p m z h g =
    let x : eqb mode byte_N ≡ true = rw (p, m, z) at h in
    inr (inr (inr (eqb-true mode byte_N x, rw (p, m, z, x) (near_is n 1 (omega arith)))))

pub rounded_as_said : (g : Grant) → Lawful g → (amount : ℕ) → IsRounded g.mode (amount * (unit - g.discount)) g.factor (reduce_by amount g)
unfolding reduce_by
rounded_as_said g l amount =
    by_mode (amount * (unit - g.discount)) g.factor g.mode (eqb g.mode byte_plus) (eqb g.mode byte_minus) (eqb g.mode byte_0)
    refl refl refl l.one_of_four l.factor_used

-- FROM THE ROWS of the layout: a number within its limits, or blank, and a factor where it is used
blank_value : (s : List ℕ) → every is_blank s ≡ true → value_of (number_of s) ≡ 0
unfolding every number_of digits_after
blank_value [] e = refl
blank_value (b ∷ bs) e =
    let x : b ≡ byte_blank = eqb-true b byte_blank (both_true (is_blank b) (every is_blank bs) e).0 in
    rw x (none (ltb 9 (length (byte_blank ∷ bs))))
  where
    none : (c : Bool) → value_of (cond c None None) ≡ 0
    none true = refl
    none false = refl

at_most : (highest : ℕ) (s : List ℕ) (b : Bool) → every is_blank s ≡ b → number_or_blank 0 highest s ≡ true → value_of (number_of s) ≤ highest
unfolding number_or_blank
at_most highest s true e h = rw (blank_value s e) (omega arith)
at_most highest s false e h = (within_value 0 highest (number_of s) (rw e at h)).1

factor_above : (mode : ℕ) (s : List ℕ) → factor_rule mode s ≡ true → (mode ≡ byte_N → ⊥) → 0 < value_of (number_of s)
unfolding factor_rule
factor_above mode s h n = (within_value 1 999 (number_of s) (rw (ne_eqb mode byte_N n) at h)).0

module _ (r : Rec) (keeps : KeepsRules r) where
  kept : (t : Table) (f : ℕ) → r.table ≡ t → any (λ (w : Row). eqb w.field f) (table_at t).rows ≡ true → keeps_row t r.body (row_of t f) ≡ true
  kept t f e h = keeps_field t f r.body (rw (← e) keeps) h

  pub conditions_lawful : r.table ≡ CO → Lawful (conditions_grant r.body)
  unfolding any keeps_row kept_beside ruled grant_in number_in byte_of bytes_of row_of row_with table_at
  conditions_lawful e =
      record {
        at_most_whole = at_most unit (bytes_of CO 39 r.body) _ refl (kept CO 39 e refl);
        one_of_four = kept CO 40 e refl;
        factor_used = factor_above (byte_of CO 40 r.body) (bytes_of CO 41 r.body) (kept CO 41 e refl);
      }

  pub card_lawful : r.table ≡ AR → Lawful (card_grants r.body)
  unfolding any keeps_row kept_beside ruled grant_in number_in byte_of bytes_of row_of row_with table_at
  card_lawful e =
      record {
        at_most_whole = (within_value 0 unit (number_of (bytes_of AR 5 r.body)) (kept AR 5 e refl)).1;
        one_of_four = kept AR 9 e refl;
        factor_used = factor_above (byte_of AR 9 r.body) (bytes_of AR 10 r.body) (kept AR 10 e refl);
      }
