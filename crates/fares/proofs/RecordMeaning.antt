-- WHAT A RECORD SAYS of an amount: the amount after it, which is one only.
-- Assumes nothing.
use Prim.Native.Nat.{ℕ}
use mathlib.Core.Path.{◌≡◌}
use mathlib.Core.List.{List}
use mathlib.Core.Logic.{⊎_elim}
use native.Mathlib.Omega.{arith}
use Rattle.layout.specs.declared.Table.{Table}
use Rattle.layout.specs.Fields.{grant_in}
use Rattle.fares.specs.Reductions.{reduce_by}
use Rattle.fares.specs.Rounding.{IsRounded}
use Rattle.fares.specs.Meaning.{IsReduced}
use Rattle.fares.proofs.RoundLaws.{up_only, down_only, near_only}
use Rattle.fares.proofs.Grants.{Lawful, rounded_as_said}

-- ROUNDED AS A BYTE SAYS: no other amount is
pub rounded_only : {mode n f r s : ℕ} → IsRounded mode n f r → IsRounded mode n f s → r ≡ s
rounded_only x y =
    ⊎_elim
    (λ a. ⊎_elim (λ b. up_only a.1 b.1) (⊎_elim (λ b. omega (arith, a.0, b.0)) (⊎_elim (λ b. omega (arith, a.0, b.0)) (λ b. omega (arith, a.0, b.0)))) y)
    (⊎_elim
    (λ a. ⊎_elim (λ b. omega (arith, a.0, b.0)) (⊎_elim (λ b. down_only a.1 b.1) (⊎_elim (λ b. omega (arith, a.0, b.0)) (λ b. omega (arith, a.0, b.0)))) y)
    (⊎_elim
    (λ a. ⊎_elim (λ b. omega (arith, a.0, b.0)) (⊎_elim (λ b. omega (arith, a.0, b.0)) (⊎_elim (λ b. near_only a.1 b.1) (λ b. omega (arith, a.0, b.0)))) y)
    (λ a. ⊎_elim (λ b. omega (arith, a.0, b.0)) (⊎_elim (λ b. omega (arith, a.0, b.0)) (⊎_elim (λ b. omega (arith, a.0, b.0)) (λ b. near_only a.1 b.1))) y))) x

-- A STEP by a record's grant is the amount after that record, and the only one
module _ (t : Table) (d m f : ℕ) (body : List ℕ) (l : Lawful (grant_in t d m f body)) (before : ℕ) where
  pub reduced_by : IsReduced t d m f body before (reduce_by before (grant_in t d m f body))
  unfolding grant_in
  reduced_by = record { at_most_whole = l.at_most_whole; rounded_once = rounded_as_said (grant_in t d m f body) l before }

  pub reduced_only : {after : ℕ} → IsReduced t d m f body before after → after ≡ reduce_by before (grant_in t d m f body)
  reduced_only x = rounded_only x.rounded_once reduced_by.rounded_once
