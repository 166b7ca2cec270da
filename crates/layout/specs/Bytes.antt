-- The bytes that document 01 names, and its text.
-- Assumes nothing.
use Rattle.std.specs.Prelude.{ℕ, Bool, ◌&&◌, ◌||◌, eqb, leb}

abbrev pub byte_blank : ℕ
byte_blank = 32

abbrev pub byte_plus : ℕ
byte_plus = 43

abbrev pub byte_minus : ℕ
byte_minus = 45

abbrev pub byte_0 : ℕ
byte_0 = 48

abbrev pub byte_A : ℕ
byte_A = 65

abbrev pub byte_C : ℕ
byte_C = 67

abbrev pub byte_E : ℕ
byte_E = 69

abbrev pub byte_M : ℕ
byte_M = 77

abbrev pub byte_N : ℕ
byte_N = 78

abbrev pub byte_O : ℕ
byte_O = 79

abbrev pub byte_R : ℕ
byte_R = 82

abbrev pub byte_Y : ℕ
byte_Y = 89

-- "Text (001: ISO 8859-1): bytes 32 to 126 and 160 to 255."
abbrev pub is_text : ℕ → Bool
is_text b = (leb 32 b && leb b 126) || (leb 160 b && leb b 255)

abbrev pub is_blank : ℕ → Bool
is_blank b = eqb b byte_blank
