-- `seen::home` meets its contract.
-- Assumes nothing.
use Prim.Native.Nat.{◌-◌, ◌%◌}
use mathlib.Core.Path.{refl}
use native.Mathlib.Omega.{arith}
use native.Mathlib.Nat.{mul-le-mul}
use Rattle.seen.specs.Seen.{range, scattered, home_of}
use Rattle.seen.proofs.home.Goals as goal

pub overflow_mul-result : goal.overflow_mul-result
overflow_mul-result c = omega (arith, mul-le-mul {n₁ = scattered c.args.number} {m₁ = c.args.slots % range} {n₂ = range - 1} {m₂ = range - 1} (omega arith) (omega arith))

pub returns : goal.returns
unfolding home_of
returns c = refl
