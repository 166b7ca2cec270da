-- Numbers from decimal digits.
-- Assumes nothing.
use Rattle.std.specs.Prelude.{ℕ, ◌+◌, ◌-◌, ◌*◌, Bool, false, cond, ◌&&◌, List, [], ◌∷◌, length, nat_le, nat_lt, Option, Some, None, unwrap_or}

-- the bytes 0 and 9
abbrev pub digit_0 : ℕ
digit_0 = 48

abbrev pub digit_9 : ℕ
digit_9 = 57

abbrev pub is_digit : ℕ → Bool
is_digit b = nat_le digit_0 b && nat_le b digit_9

-- the digit that a byte says
abbrev pub digit_of : ℕ → Option ℕ
digit_of b = cond (is_digit b) (Some (b - digit_0)) None

-- the number that the digits say after those that said v
unfoldable pub digits_after : ℕ → List ℕ → Option ℕ
digits_after v [] = Some v
digits_after v (b ∷ bs) = cond (is_digit b) (digits_after (v * 10 + (b - digit_0)) bs) None

-- the number that at most nine digits say
unfoldable pub number_of : List ℕ → Option ℕ
number_of s = cond (nat_lt 9 (length s)) None (digits_after 0 s)

-- the number, 0 where there is none
abbrev pub value_of : Option ℕ → ℕ
value_of n = unwrap_or n 0

abbrev pub is_within : ℕ → ℕ → Option ℕ → Bool
is_within lowest highest (Some v) = nat_le lowest v && nat_le v highest
is_within lowest highest None = false
