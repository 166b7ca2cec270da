-- `fares::rounding::Exact::up` meets its contract.
-- Assumes nothing.
use mathlib.Core.Path.{sym, refl}
use native.Mathlib.Nat.{mul-zero}
use native.Mathlib.Omega.{arith}
use Rattle.fares.specs.Rounding.{upwards}
use Rattle.fares.proofs.Fit.{quotient_fits}
use Rattle.fares.proofs.rounding.Exact.up.Goals as goal

pub returns-then-self-eq0 : goal.returns-then-self-eq0
unfolding upwards
returns-then-self-eq0 c = rw c.if-self-eq0.true (sym (mul-zero _))

pub overflow_mul-result : goal.overflow_mul-result
unfolding upwards
overflow_mul-result c = record { fits = quotient_fits _ _ _ (omega arith) (omega arith) }

pub returns : goal.returns
unfolding upwards
returns c = refl
