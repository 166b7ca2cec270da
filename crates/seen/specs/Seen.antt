-- A table of values, each put into a slot under a number, and found again by it. Nothing here has to be believed: no promise and no answer of the front
-- door is stated with it.
-- Assumes nothing.
use Rattle.std.specs.Prelude.{ℕ, zero, suc, ◌+◌, ◌-◌, ◌*◌, ◌/◌, ◌%◌, ◌<◌, ◌≡◌, Bool, true, cond, ◌&&◌, List, eqb, ltb, length, get_or, set}

-- THE WAY OF A NUMBER through so many slots: from its home to the slot behind it, and so on around the end
abbrev pub range : ℕ
range = 4294967296

abbrev pub scattered : ℕ → ℕ
scattered number = number % 4294967291 * 2869860233 % range

unfoldable pub home_of : ℕ → ℕ → ℕ
home_of slots number = scattered number * (slots % range) / range

unfoldable pub slot_behind : ℕ → ℕ → ℕ
slot_behind slots slot = cond (ltb slot (slots - 1)) (slot + 1) 0

unfoldable pub slot_of : ℕ → ℕ → ℕ → ℕ
slot_of slots number zero = home_of slots number
slot_of slots number (suc k) = slot_behind slots (slot_of slots number k)

-- A SLOT has a head and a low part. The head is a tag of the number, which is not 0, and above it what of the value is too great for the low part; that
-- of an empty slot is 0
abbrev pub tag_of : ℕ → ℕ
tag_of number = number % 15 + 1

abbrev pub head_of : ℕ → ℕ → ℕ
head_of number value = value / 65536 * 16 + tag_of number

unfoldable pub has_tag : ℕ → ℕ → Bool
has_tag head number = eqb (head % 16) (tag_of number)

abbrev pub value_at : List ℕ → List ℕ → ℕ → ℕ
value_at heads lows slot = get_or heads slot 0 / 16 * 65536 + get_or lows slot 0

-- WHAT IS PUT where there is room for it
unfoldable pub is_room : List ℕ → List ℕ → ℕ → ℕ → Bool
is_room heads lows slot value = ltb slot (length heads) && (ltb slot (length lows) && ltb value 1048576)

unfoldable pub heads_with : List ℕ → List ℕ → ℕ → ℕ → ℕ → List ℕ
heads_with heads lows slot number value = cond (is_room heads lows slot value) (set heads slot (head_of number value)) heads

unfoldable pub lows_with : List ℕ → List ℕ → ℕ → ℕ → List ℕ
lows_with heads lows slot value = cond (is_room heads lows slot value) (set lows slot (value % 65536)) lows

abbrev pub IsPut : List ℕ → List ℕ → ℕ → ℕ → ℕ → Bool → List ℕ → List ℕ → Type 0
IsPut heads lows slot number value told heads_after lows_after =
    (told ≡ is_room heads lows slot value) × (heads_after ≡ heads_with heads lows slot number value) × (lows_after ≡ lows_with heads lows slot value)

-- WHAT IS HELD: no slot before a try of a number is empty, and a value stands at some such try
abbrev pub try_at : List ℕ → ℕ → ℕ → ℕ
try_at heads number k = get_or heads (slot_of (length heads) number k) 0

abbrev pub Filled : List ℕ → ℕ → ℕ → Type 0
Filled heads number k = (j : ℕ) → j < k → 0 < try_at heads number j

pub record Held (heads lows : List ℕ) (number value : ℕ) : Type 0 where
  pub tried : ℕ
  pub filled : Filled heads number tried
  pub tagged : has_tag (try_at heads number tried) number ≡ true
  pub there : value_at heads lows (slot_of (length heads) number tried) ≡ value

-- a change by which a value comes to be held under a number, and nothing is forgotten
abbrev pub Holds : ℕ → ℕ → List ℕ → List ℕ → List ℕ → List ℕ → Type 0
Holds number value heads lows heads_after lows_after =
    Held heads_after lows_after number value × ((m v : ℕ) → Held heads lows m v → Held heads_after lows_after m v)
