-- What each field may say, by meaning, in the words and the order of document 01, 'Values'.
-- Assumes nothing.
use Rattle.std.specs.Prelude.{ℕ, ◌+◌, ◌-◌, ◌≤◌, ◌<◌, ◌≡◌, List, [], ◌∷◌, ◌++◌, true, ◌⊎◌, ◌↔◌, length, get_or, Some}
use Rattle.common.specs.Lists.{up_to}
use Rattle.common.specs.Digits.{number_of}
use Rattle.layout.specs.Bytes.{byte_blank, byte_plus, byte_minus, byte_0, byte_N, byte_Y}
use Rattle.layout.specs.Company.{is_all_railways, is_railway}
use Rattle.layout.specs.Layout.{CO, RE, AR, ME}
use Rattle.layout.specs.Fields.{bytes_of, byte_of, number_in, is_yes, first_day, last_day}
use Rattle.layout.specs.Calendar.{RealDay}
use Rattle.layout.specs.declared.Table.{Table}

-- each byte of a field
abbrev pub Each : (ℕ → Type 0) → List ℕ → Type 0
Each P s = (i : ℕ) → i < length s → P (get_or s i 0)

abbrev pub Blank : List ℕ → Type 0
Blank = Each (λ b. b ≡ byte_blank)

-- "Text .. : bytes 32 to 126 and 160 to 255."
abbrev pub Text : List ℕ → Type 0
Text = Each (λ b. ((32 ≤ b) × (b ≤ 126)) ⊎ ((160 ≤ b) × (b ≤ 255)))

-- "Numbers are decimal digits": they say n, and n is such a number
abbrev pub Number : (ℕ → Type 0) → List ℕ → Type 0
Number P s = (n : ℕ) × (number_of s ≡ Some n) × P n

abbrev pub Within : ℕ → ℕ → ℕ → Type 0
Within lowest highest n = (lowest ≤ n) × (n ≤ highest)

-- what a field may say; where that hangs on another field of the record, its number is given
pub data Value : Type 0 where
  text : Value
  transferor : Value
  railway : Value
  number : (lowest highest : ℕ) → Value
  number_or_blank_value : (lowest highest : ℕ) → Value
  flag : Value
  flag_or_blank_lem : Value
  most_persons_value : (fewest : ℕ) → Value
  rounding : Value
  factor : (round : ℕ) → Value
  first_day_value : Value
  last_day_value : (first : ℕ) → Value

-- and what that means of a field of a record, of its bytes or of its one byte
module _ (t : Table) (f : ℕ) (body : List ℕ) where
  abbrev bytes : List ℕ
  bytes = bytes_of t f body

  abbrev byte : ℕ
  byte = byte_of t f body

  abbrev pub Means : Value → Type 0
  Means text = Text bytes
  Means transferor = Number (Within 1 9999) bytes
  Means railway = Number (Within 0 9999) bytes
  Means (number lowest highest) = Number (Within lowest highest) bytes
  Means (number_or_blank_value lowest highest) = Blank bytes ⊎ Number (Within lowest highest) bytes
  -- "Flags are Y or N. Field 27 alone may be blank"
  Means flag = (byte ≡ byte_Y) ⊎ (byte ≡ byte_N)
  Means flag_or_blank_lem = (byte ≡ byte_blank) ⊎ ((byte ≡ byte_Y) ⊎ (byte ≡ byte_N))
  -- "most persons 01-99; two blanks .. If most is 01-98, least must not be above it"
  Means (most_persons_value fewest) = Blank bytes ⊎ Number (λ n. Within 1 99 n × (n ≤ 98 → number_in t fewest body ≤ n)) bytes
  -- "Rounding is one of + - 0 N."
  Means rounding = (byte ≡ byte_plus) ⊎ ((byte ≡ byte_minus) ⊎ ((byte ≡ byte_0) ⊎ (byte ≡ byte_N)))
  -- "Factor is three digits, 000-999 ..; 000 is a fault unless rounding is N."
  Means (factor round) = Number (λ n. (n ≤ 999) × ((byte_of t round body ≡ byte_N → ⊥) → 1 ≤ n)) bytes
  Means first_day_value = Number RealDay bytes
  -- "The last day must not be before the first"
  Means (last_day_value first) = Number (λ n. RealDay n × (number_in t first body ≤ n)) bytes

-- THE FIELDS of a table, from the first to the last of some that may say alike
pub record Field : Type 0 where
  pub table : Table
  pub field : ℕ
  pub value : Value

abbrev pub says : (table : Table) (first last : ℕ) → Value → List Field
says t first last v = up_to (λ k. record { table = t; field = first + k; value = v }) (last + 1 - first)

abbrev pub values : List Field
values =
    says CO 4 4 text ++ says RE 3 8 text ++ says ME 4 8 text
    ++ says CO 1 1 transferor ++ says RE 1 1 transferor ++ says AR 1 1 transferor ++ says ME 1 1 transferor
    -- offer
    ++ says CO 2 2 (number 1 99999) ++ says AR 2 2 (number 1 99999) ++ says ME 2 2 (number 1 99999)
    ++ says CO 3 3 railway ++ says AR 3 3 railway ++ says ME 3 3 railway
    -- code, and rating
    ++ says RE 2 2 (number 1 999) ++ says AR 4 4 (number 1 999)
    ++ says AR 7 7 (number 1 999)
    -- version, and the series digit
    ++ says CO 43 43 (number 1 99) ++ says RE 10 10 (number 1 99) ++ says AR 12 12 (number 1 99) ++ says ME 10 10 (number 1 99)
    ++ says CO 30 30 (number 0 9)
    ++ says CO 31 38 flag ++ says AR 6 6 flag ++ says AR 8 8 flag ++ says CO 27 27 flag_or_blank_lem
    -- least and most persons
    ++ says CO 28 28 (number_or_blank_value 0 99) ++ says CO 29 29 (most_persons_value 28)
    -- discount
    ++ says CO 39 39 (number_or_blank_value 0 100000) ++ says AR 5 5 (number 0 100000)
    ++ says CO 40 40 rounding ++ says AR 9 9 rounding
    ++ says CO 41 41 (factor 40) ++ says AR 10 10 (factor 9)
    ++ says CO 42 42 first_day_value ++ says RE 9 9 first_day_value ++ says AR 11 11 first_day_value ++ says ME 9 9 first_day_value
    ++ says CO 44 44 (last_day_value 42) ++ says RE 11 11 (last_day_value 9) ++ says AR 13 13 (last_day_value 11) ++ says ME 11 11 (last_day_value 9)

-- WHAT IS READ off a record. "Field 27 alone may be blank, which means N": a flag is set exactly if it is Y. A number is what its digits say, and "two
-- blanks mean 00", "six blanks mean 000000".
pub record Readings (body : List ℕ) : Type 0 where
  pub flags : (f : ℕ) → (f ≡ 27) ⊎ Within 31 38 f → (is_yes CO f body ≡ true) ↔ (byte_of CO f body ≡ byte_Y)
  pub digits : (t : Table) (f n : ℕ) → number_of (bytes_of t f body) ≡ Some n → number_in t f body ≡ n
  pub blanks : (t : Table) (f : ℕ) → Blank (bytes_of t f body) → number_in t f body ≡ 0

-- "railway 0000-9999 (0000 = all railways)"; a railway is asked for by a number 1-9999
pub record Railways : Type 0 where
  pub for_all : (s : List ℕ) → (is_all_railways s ≡ true) ↔ (s ≡ byte_0 ∷ byte_0 ∷ byte_0 ∷ byte_0 ∷ [])
  pub asked : (railway : ℕ) → (is_railway railway ≡ true) ↔ Within 1 9999 railway

-- PERIODS. "Both days are inside the period": a record holds a day; two records share one
abbrev pub InPeriod : Table → ℕ → List ℕ → Type 0
InPeriod t day body = (first_day t body ≤ day) × (day ≤ last_day t body)

abbrev pub Share : Table → List ℕ → List ℕ → Type 0
Share t a b = (day : ℕ) × InPeriod t day a × InPeriod t day b
