-- `fares::rounding::Exact::down` meets its contract.
-- Assumes nothing.
use mathlib.Core.Path.{sym, refl}
use native.Mathlib.Nat.{mul-zero}
use native.Mathlib.Omega.{arith}
use Rattle.fares.specs.Rounding.{downwards}
use Rattle.fares.proofs.Fit.{quotient_fits}
use Rattle.fares.proofs.rounding.Exact.down.Goals as goal

pub returns-then-self-eq0 : goal.returns-then-self-eq0
unfolding downwards
returns-then-self-eq0 c = rw c.if-self-eq0.true (sym (mul-zero _))

pub overflow_mul-result : goal.overflow_mul-result
unfolding downwards
overflow_mul-result c = record { fits = quotient_fits _ _ _ (omega arith) (omega arith) }

pub returns : goal.returns
unfolding downwards
returns c = refl
