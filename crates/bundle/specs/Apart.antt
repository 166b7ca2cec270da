-- How the verdict finds that a record clashes with none before it. Nothing here has to be believed: no promise and no answer of a call is stated with it.
-- Assumes nothing.
use Rattle.std.specs.Prelude.{ℕ, ◌+◌, ◌<◌, ◌≡◌, Bool, true, false, ◌&&◌, List, length, get_or}
use Rattle.common.specs.Least.{least}
use Rattle.layout.specs.Helpers.{key_number}
use Rattle.seen.specs.Seen.{slot_of, has_tag, value_at, try_at, Held}
use Rattle.bundle.specs.Records.{Rec, rec, no_rec, if_whole, between, records_of}
use Rattle.bundle.specs.Keys.{clash}
use Rattle.bundle.specs.Helpers.{step_at, places_of}

abbrev pub number_of : Rec → ℕ
number_of r = key_number r.table r.body

-- the record at a place clashes
unfoldable pub clashes_at : List ℕ → Rec → ℕ → Bool
clashes_at s r p = if_whole (step_at s p) false (λ t start next. clash r (rec t (between start next s)))

-- that whose place is in a slot does, if the slot has the tag of a number
unfoldable pub slot_clashes : List ℕ → List ℕ → List ℕ → ℕ → Rec → ℕ → Bool
slot_clashes s heads lows number r slot = has_tag (get_or heads slot 0) number && clashes_at s r (value_at heads lows slot)

-- before a try of the number no slot is empty, and none has a record that clashes
abbrev pub Passed : List ℕ → List ℕ → List ℕ → ℕ → Rec → ℕ → Type 0
Passed s heads lows number r k =
    (j : ℕ) → j < k → (0 < try_at heads number j) × (slot_clashes s heads lows number r (slot_of (length heads) number j) ≡ false)

-- the slot of such a try is empty
abbrev pub IsFree : List ℕ → List ℕ → List ℕ → ℕ → Rec → ℕ → Type 0
IsFree s heads lows number r slot =
    (k : ℕ) × (slot ≡ slot_of (length heads) number k) × (get_or heads slot 0 ≡ 0) × Passed s heads lows number r k

-- the place of each record before i is kept, under the record's number
abbrev pub Kept : List ℕ → List ℕ → List ℕ → ℕ → Type 0
Kept s heads lows i = (j : ℕ) → j < i → Held heads lows (number_of (get_or (records_of s) j no_rec)) (get_or (places_of s) j 0)

-- what is told of the record at a place: if those before it are kept, it clashes with none of them, and is kept as well
abbrev pub ApartTells : List ℕ → List ℕ → List ℕ → Rec → ℕ → Bool → List ℕ → List ℕ → Type 0
ApartTells s heads lows r p told heads_after lows_after =
    told ≡ true → (i : ℕ) → i < length (records_of s) → get_or (records_of s) i no_rec ≡ r → get_or (places_of s) i 0 ≡ p → Kept s heads lows i
    → (least (λ j. clash r (get_or (records_of s) j no_rec)) i ≡ i) × Kept s heads_after lows_after (i + 1)
