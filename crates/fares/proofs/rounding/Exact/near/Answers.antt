-- `fares::rounding::Exact::near` meets its contract.
-- Assumes nothing.
use mathlib.Core.Path.{sym, refl}
use native.Mathlib.Nat.{mul-zero}
use native.Mathlib.Omega.{arith}
use Rattle.fares.specs.Rounding.{nearest}
use Rattle.fares.proofs.Fit.{quotient_fits}
use Rattle.fares.proofs.rounding.Exact.near.Goals as goal

pub returns-then-self-eq0 : goal.returns-then-self-eq0
unfolding nearest
returns-then-self-eq0 c = rw c.if-self-eq0.true (sym (mul-zero _))

pub overflow_mul-result-3 : goal.overflow_mul-result-3
unfolding nearest
overflow_mul-result-3 c = record { fits = quotient_fits _ _ _ (omega arith) (omega arith) }

pub returns : goal.returns
unfolding nearest
returns c = refl
