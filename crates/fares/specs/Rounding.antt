-- Rounding (document 01, 'Pricing', its house reading of lists B.3.11 and B.3.12). n stands for the exact amount of n / 100,000 cents, and f is the factor
-- in cents. First how it is computed, then what it means.
-- Assumes nothing.
use Rattle.std.specs.Prelude.{ℕ, ◌+◌, ◌-◌, ◌*◌, ◌/◌, ◌≤◌, ◌≡◌, cond, ◌⊎◌, eqb}
use Rattle.layout.specs.Bytes.{byte_plus, byte_minus, byte_0, byte_N}

-- a cent in the thousandths of a percent of one
abbrev pub unit : ℕ
unit = 100000

unfoldable pub upwards : ℕ → ℕ → ℕ
upwards n f = (n + (f * unit - 1)) / (f * unit) * f

unfoldable pub downwards : ℕ → ℕ → ℕ
downwards n f = n / (f * unit) * f

unfoldable pub nearest : ℕ → ℕ → ℕ
nearest n f = (2 * n + f * unit) / (2 * (f * unit)) * f

-- by the rounding byte; a byte that is none of the four, which no accepted record has, gives 0
unfoldable pub rounded : ℕ → ℕ → ℕ → ℕ
rounded mode n f =
    cond (eqb mode byte_plus) (upwards n f)
    (cond (eqb mode byte_minus) (downwards n f) (cond (eqb mode byte_0) (nearest n f) (cond (eqb mode byte_N) (nearest n 1) 0)))

-- WHAT IT MEANS, with no division: a multiple k * f of the factor, in cents, against the amount of n / 100,000 cents.
-- "+ is the least multiple of the factor not below the exact amount"
pub record IsUp (n f r : ℕ) : Type 0 where
  pub multiple : (k : ℕ) × (r ≡ k * f)
  pub not_below : n ≤ r * unit
  pub least : (k : ℕ) → n ≤ k * f * unit → r ≤ k * f

-- "- the greatest not above"
pub record IsDown (n f r : ℕ) : Type 0 where
  pub multiple : (k : ℕ) × (r ≡ k * f)
  pub not_above : r * unit ≤ n
  pub greatest : (k : ℕ) → k * f * unit ≤ n → k * f ≤ r

-- how far two numbers are apart
abbrev pub apart : ℕ → ℕ → ℕ
apart a b = (a - b) + (b - a)

-- "0 the nearest with halves up"; "N the nearest cent with halves up" is the same at the factor 1
pub record IsNear (n f r : ℕ) : Type 0 where
  pub multiple : (k : ℕ) × (r ≡ k * f)
  pub near : (k : ℕ) → apart (r * unit) n ≤ apart (k * f * unit) n
  pub halves_up : (k : ℕ) → apart (r * unit) n ≡ apart (k * f * unit) n → k * f ≤ r

-- what the rounding byte of a record asks for
abbrev pub IsRounded : ℕ → ℕ → ℕ → ℕ → Type 0
IsRounded mode n f r =
    ((mode ≡ byte_plus) × IsUp n f r)
    ⊎ (((mode ≡ byte_minus) × IsDown n f r) ⊎ (((mode ≡ byte_0) × IsNear n f r) ⊎ ((mode ≡ byte_N) × IsNear n 1 r)))
