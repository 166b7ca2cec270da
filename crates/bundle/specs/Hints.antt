-- Where the verdict looks for a link's record first. Nothing here has to be believed: no promise and no answer of a call is stated with it.
-- Assumes nothing.
use Rattle.std.specs.Prelude.{ℕ, ◌+◌, ◌*◌, ◌%◌, ◌<◌, ◌≡◌, Bool, true, false, cond, List, ◌∷◌, ◌==◌, Option, MatchOption, get_or}
use Rattle.common.specs.Lists.{any}
use Rattle.common.specs.Ranks.{rank_of}
use Rattle.layout.specs.Fields.{offer_of, code_of}
use Rattle.layout.specs.Helpers.{table_step}
use Rattle.layout.specs.declared.Table.{Table}
use Rattle.layout.specs.Layout.{table_number}
use Rattle.bundle.specs.Records.{Rec, rec, if_whole, between, records_of}
use Rattle.bundle.specs.Links.{links, link_rows, no_link, serves, missing_link}
use Rattle.bundle.specs.Helpers.{step_at, places_of}
use Rattle.bundle.specs.declared.links.Link.{Link}

-- PLACES of records, or the bundle's start
abbrev pub IsPlace : List ℕ → ℕ → Type 0
IsPlace s p = any (λ q. p == q) (0 ∷ places_of s) ≡ true

-- a hint is such a place, below this, and above it a tag of the number that the record is looked for by
abbrev pub place_limit : ℕ
place_limit = 2097152

abbrev pub place_in : ℕ → ℕ
place_in hint = hint % place_limit

abbrev pub Hinted : List ℕ → List ℕ → Type 0
Hinted s hints = (k : ℕ) → IsPlace s (place_in (get_or hints k 0))

-- a record is looked for by its code, or by its offer; one number for the table that is wanted and that
unfoldable pub name_of : Bool → Table → List ℕ → List ℕ
name_of coded t body = cond coded (code_of t body) (offer_of body)

unfoldable pub hint_number : Table → Bool → Table → List ℕ → ℕ
hint_number wants coded t body = rank_of (name_of coded t body) + table_number wants * table_step

-- the record at a place serves
unfoldable pub serves_at : List ℕ → Link → Rec → ℕ → Bool
serves_at s l r p = if_whole (step_at s p) false (λ t start next. serves l r (rec t (between start next s)))

-- what a search tells: where a record stands that serves, or that none does
abbrev pub Found : List ℕ → Link → Rec → ℕ → Type 0
Found s l r p = IsPlace s p × (any (serves l r) (records_of s) ≡ true)

abbrev pub SearchTells : List ℕ → Link → Rec → Option ℕ → Type 0
SearchTells s l r found = MatchOption found (any (serves l r) (records_of s) ≡ false) (Found s l r)

-- and what is told of the first link that a record lacks
abbrev pub LinkTells : List Rec → Rec → Option Link → Type 0
LinkTells R r told =
    MatchOption told (missing_link R r ≡ links) (λ l. (missing_link R r < links) × (get_or link_rows (missing_link R r) no_link ≡ l))
