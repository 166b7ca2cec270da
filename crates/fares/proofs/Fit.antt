-- A quotient times a small factor fits a word.
-- Assumes nothing.
use Prim.Native.Nat.{ℕ, ◌*◌, ◌/◌, ◌≤◌, ◌<◌, ◌^◌}
use native.Mathlib.Nat.{mul-le-mul, div-le_self, le_trans}
use native.Mathlib.Omega.{arith}

pub quotient_fits : (x q f : ℕ) → x ≤ 4000000000000000 → f ≤ 999 → x / q * f < 2 ^ 64
quotient_fits x q f hx hf = omega (arith, mul-le-mul (le_trans (div-le_self x q) hx) hf)
