-- What an entry and a book come to, for a railway and for all, over entries not cancelled (document 01, 'The sales book').
-- Assumes nothing.
use Rattle.std.specs.Prelude.{ℕ, cond, List, map, eqb, get_or}
use Rattle.common.specs.Lists.{sum, up_to}
use Rattle.book.specs.Words.{Entry, railway_at}

-- what of a question's words and its parts counts: the parts of a railway's legs, or all parts
abbrev pub leg_part : ℕ → List ℕ → List ℕ → ℕ → ℕ
leg_part railway asked parts j = cond (eqb (get_or asked (railway_at j) 0) railway) (get_or parts j 0) 0

abbrev pub of_railway : ℕ → List ℕ → List ℕ → ℕ
of_railway railway asked parts = sum (up_to (leg_part railway asked parts) 8)

abbrev pub of_all : List ℕ → List ℕ → ℕ
of_all asked parts = sum (up_to (λ j. get_or parts j 0) 8)

-- an entry counts unless it is cancelled
abbrev pub live_amount : (List ℕ → List ℕ → ℕ) → Entry → ℕ
live_amount f e = cond (eqb e.status 0) (f e.asked e.parts) 0

unfoldable pub balance_of : (List ℕ → List ℕ → ℕ) → List Entry → ℕ
balance_of f es = sum (map (live_amount f) es)
