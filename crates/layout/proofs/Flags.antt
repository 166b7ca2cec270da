-- The flags of CO: field 27, and fields 31 to 38 one behind the other, so that the code finds a flag by its number.
-- Assumes nothing.
use Prim.Native.Nat.{ℕ, ◌+◌, ◌<◌}
use mathlib.Core.Path.{◌≡◌, refl}
use mathlib.Core.Bool.{Bool, true, false, cond, not, ◌||◌}
use mathlib.Core.List.{List, [], ◌∷◌}
use native.Mathlib.Omega.{arith}
use lib.Dec.{eqb, leb}
use borrow.Author.Tests.{not-true, eqb-true, leb-true, ne_eqb}
use Rattle.common.specs.Least.{least}
use Rattle.common.specs.Lists.{every}
use Rattle.common.proofs.Tests.{both_true}
use Rattle.layout.specs.Layout.{CO, table_at}
use Rattle.layout.specs.Fields.{row_with, row_of, is_flag_row}
use Rattle.layout.specs.declared.rows.Row.{Row}
use Rattle.layout.proofs.Tables.{computed}

pub flags_stand : (k : ℕ) → k < 8 → (is_flag_row (row_of CO (31 + k)) ≡ true) × ((row_of CO (31 + k)).start ≡ 120 + k)
unfolding least row_of row_with table_at
flags_stand k h = (computed (λ j. is_flag_row (row_of CO (31 + j))) 8 refl k h, eqb-true _ _ (computed (λ j. eqb (row_of CO (31 + j)).start (120 + j)) 8 refl k h))

pub no_flag_before : (f : ℕ) → f < 31 → (f ≡ 27 → ⊥) → is_flag_row (row_of CO f) ≡ false
unfolding least row_of row_with table_at
no_flag_before f h n = not-true _ (rw (ne_eqb f 27 n) at (computed (λ g. eqb g 27 || not (is_flag_row (row_of CO g))) 31 refl f h))

none_beyond : (f : ℕ) → 38 < f → (rs : List Row) → every (λ (r : Row). not (is_flag_row r) || leb r.field 38) rs ≡ true
    → is_flag_row (row_with (λ r. eqb r.field f) rs) ≡ false
unfolding every row_with
none_beyond f h [] e = refl
none_beyond f h (r ∷ rs) e =
    let d = both_true (not (is_flag_row r) || leb r.field 38) _ e in
    go (eqb r.field f) refl (is_flag_row r) refl d.0 (none_beyond f h rs d.1)
  where
    go : (b : Bool) → eqb r.field f ≡ b → (g : Bool) → is_flag_row r ≡ g → (not g || leb r.field 38) ≡ true
        → is_flag_row (row_with (λ r. eqb r.field f) rs) ≡ false → is_flag_row (cond b r (row_with (λ r. eqb r.field f) rs)) ≡ false
    go true q true p k ih = absurd (omega (arith, eqb-true r.field f q, leb-true r.field 38 k))
    go true q false p k ih = p
    go false q g p k ih = ih

pub no_flag_behind : (f : ℕ) → 38 < f → is_flag_row (row_of CO f) ≡ false
unfolding row_of every table_at
no_flag_behind f h = none_beyond f h (table_at CO).rows refl
