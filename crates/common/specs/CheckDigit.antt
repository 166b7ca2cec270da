-- THE CHECK DIGIT of a number (source document 003, Annex A), over any list of digits, which are counted from the right.
-- Assumes nothing.
use Rattle.std.specs.Prelude.{◌≡◌, ℕ, zero, suc, ◌+◌, ◌-◌, ◌*◌, ◌/◌, ◌%◌, ◌<◌, ◌≤◌, Bool, false, cond, List, [], ◌∷◌, length, ◌==◌, ◌≢◌, slice_index, slice_index_or}

-- a digit in an odd position is "multiplied by 2", and counts by "all the digits which constitute the partial products"
abbrev pub doubled : ℕ → ℕ
doubled d = 2 * d / 10 + 2 * d % 10

-- one in an even position is "taken at [its] own decimal value"
abbrev pub counted : ℕ → ℕ → ℕ
counted place d = cond (place % 2 == 1) (doubled d) d

-- the sum over digits, the first of which stands at a place
unfoldable pub sum_from : ℕ → List ℕ → ℕ
sum_from place [] = 0
sum_from place (d ∷ ds) = counted place d + sum_from (place + 1) ds

-- "the units digit of this sum is retained"; "the complement required to bring the units digit up to 10 forms the check-digit"; nought for nought
abbrev pub completed : ℕ → ℕ
completed units = cond (units == 0) 0 (10 - units)

-- the check digit of a basic number
unfoldable pub check_digit : List ℕ → ℕ
check_digit basic = completed (sum_from 1 basic % 10)

-- digits are right if the last of them, which is the first from the right, is the check digit of the others
unfoldable pub is_right : List ℕ → Bool
is_right [] = false
is_right (check ∷ basic) = check == check_digit basic

-- the last n digits of a number, from the right
unfoldable pub last_digits : ℕ → ℕ → List ℕ
last_digits zero number = []
last_digits (suc n) number = number % 10 ∷ last_digits n (number / 10)

-- WHAT IS NOTICED. Digits are 0 to 9; and ONE OF THEM IS WRONG: as many digits, of which one is another, whichever, the check digit too
abbrev pub AreDigits : List ℕ → Type 0
AreDigits ds = (k : ℕ) → slice_index ds k ≤ 9

pub record OneWrong (ds typed : List ℕ) : Type 0 where
  pub place : ℕ
  pub inside : place < length ds
  pub as_many : length ds ≡ length typed
  pub wrong : slice_index_or ds place 0 ≡ slice_index typed place → ⊥
  pub others : (k : ℕ) → (k ≢ place) → slice_index ds k ≡ slice_index typed k
