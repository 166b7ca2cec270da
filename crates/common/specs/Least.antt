-- First such that: the one word for every search of the engine.
-- Assumes nothing.
use Rattle.std.specs.Prelude.{ℕ, zero, suc, Bool, cond}

-- the least k below n with p k, or n where there is none
unfoldable pub least : (ℕ → Bool) → ℕ → ℕ
least p zero = zero
least p (suc n) = cond (p zero) zero (suc (least (λ (k : ℕ). p (suc k)) n))
