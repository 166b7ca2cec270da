-- Numbers with their check digits: the two that are printed in Annex A of source document 003, numbers of five digits, and what is not noticed.
-- Assumes nothing.
use Rattle.std.specs.Prelude.{◌≡◌, ℕ, true, false, List, [], ◌∷◌}
use Rattle.common.specs.CheckDigit.{check_digit, is_right, last_digits}

-- a basic number of so many digits has this check digit; a number of so many digits is right, or is not
pub data Figure : Type 0 where
  check : (digits basic digit : ℕ) → Figure
  right : (digits number : ℕ) → Figure
  wrong : (digits number : ℕ) → Figure

abbrev pub Says : Figure → Type 0
Says (check digits basic digit) = check_digit (last_digits digits basic) ≡ digit
Says (right digits number) = is_right (last_digits digits number) ≡ true
Says (wrong digits number) = is_right (last_digits digits number) ≡ false

abbrev pub figures : List Figure
figures =
    check 6 370295 8 ∷
    right 7 3702958 ∷
    check 7 4582693 0 ∷
    right 8 45826930 ∷
    check 5 12345 5 ∷
    right 6 123455 ∷
    check 5 0 0 ∷
    right 6 0 ∷
    check 5 1 8 ∷
    check 5 10 9 ∷
    check 5 99999 5 ∷
    -- the check digit by itself is no place 1, which would make 1 of 8 and 5 of 0
    wrong 7 3702951 ∷
    wrong 8 45826935 ∷
    -- neighbours that changed places are noticed, but for 09 and 90
    wrong 6 213455 ∷
    check 5 12093 1 ∷
    check 5 12903 1 ∷
    []
