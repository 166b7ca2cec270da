-- Records written out, byte by byte, in the order of their fields: what figures are asked of. All are of transferor 1185 and offer 42, and of the year 2024 where
-- no other period is given.
-- Assumes nothing.
use Rattle.std.specs.Prelude.{ℕ, zero, suc, ◌+◌, ◌/◌, ◌%◌, List, [], ◌∷◌, ◌++◌, replicate}
use Rattle.common.specs.Digits.{digit_0}
use Rattle.layout.specs.Bytes.{byte_blank, byte_A, byte_C, byte_E, byte_M, byte_N, byte_O, byte_R, byte_Y}

-- a number in so many digits
unfoldable pub digits : ℕ → ℕ → List ℕ
digits zero n = []
digits (suc width) n = digits width (n / 10) ++ ((digit_0 + n % 10) ∷ [])

abbrev pub text : ℕ → List ℕ
text width = replicate width byte_blank

-- a period: first day, version, last day
unfoldable pub period : ℕ → ℕ → List ℕ
period first last = digits 8 first ++ (digits 2 1 ++ digits 8 last)

unfoldable pub year : List ℕ
year = period 20240101 20241231

-- discount, rounding, factor
abbrev pub grant : ℕ → ℕ → ℕ → List ℕ
grant discount rounding factor = digits 6 discount ++ (rounding ∷ digits 3 factor)

-- a CO of a railway, with flag 33, that grants this in a period; its text, field 27 and the persons are blank
unfoldable pub conditions_in : List ℕ → ℕ → ℕ → List ℕ → List ℕ
conditions_in days railway flag_33 granted =
    byte_C ∷ byte_O ∷
    (digits 4 1185 ++ (digits 5 42 ++ (digits 4 railway ++ (text 105 ++ (digits 1 0 ++
    (byte_N ∷ byte_N ∷ flag_33 ∷ byte_N ∷ byte_N ∷ byte_N ∷ byte_N ∷ byte_N ∷
    (granted ++ days)))))))

abbrev pub conditions : ℕ → ℕ → List ℕ → List ℕ
conditions = conditions_in year

-- the RE of a card, and of card 7; an ME of a railway
unfoldable pub named_in : List ℕ → ℕ → List ℕ
named_in days code = byte_R ∷ byte_E ∷ (digits 4 1185 ++ (digits 3 code ++ (text 415 ++ days)))

abbrev pub named : ℕ → List ℕ
named = named_in year

abbrev pub card_name : List ℕ
card_name = named 7

unfoldable pub memo : ℕ → List ℕ
memo railway = byte_M ∷ byte_E ∷ (digits 4 1185 ++ (digits 5 42 ++ (digits 4 railway ++ (text 1200 ++ year))))

-- an AR of a railway, in a period: its code, whether it is applied with others, its rating, discount, rounding and factor; for all railways; and of card 7,
-- with others
unfoldable pub card_in : List ℕ → ℕ → ℕ → ℕ → ℕ → ℕ → ℕ → ℕ → List ℕ
card_in days railway code with-others rating discount rounding factor =
    byte_A ∷ byte_R ∷
    (digits 4 1185 ++ (digits 5 42 ++ (digits 4 railway ++ (digits 3 code ++ (digits 6 discount ++
    (with-others ∷ (digits 3 rating ++ (byte_N ∷ rounding ∷ (digits 3 factor ++ days)))))))))

abbrev pub card_with : ℕ → ℕ → ℕ → ℕ → ℕ → ℕ → List ℕ
card_with = card_in year 0

abbrev pub card : ℕ → ℕ → ℕ → List ℕ
card discount rounding factor = card_with 7 byte_Y 1 discount rounding factor
