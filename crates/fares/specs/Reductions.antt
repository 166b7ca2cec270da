-- A discount taken from an amount and rounded once, a chain of them, and the bounds on what comes of it (document 01, 'Pricing', and document 02, R-1 and R-13).
-- Assumes nothing.
use Rattle.std.specs.Prelude.{ℕ, ◌+◌, ◌-◌, ◌*◌, cond, List, [], ◌∷◌, leb}
use Rattle.layout.specs.Layout.{CO, AR}
use Rattle.layout.specs.Fields.{grant_in}
use Rattle.layout.specs.declared.fields.Grant.{Grant}
use Rattle.fares.specs.Rounding.{unit, rounded}

-- what a CO grants: "39 discount; 40 rounding; 41 factor", and an AR: "5 discount; .. 9 rounding; 10 factor"
abbrev pub conditions_grant : List ℕ → Grant
conditions_grant co = grant_in CO 39 40 41 co

abbrev pub card_grants : List ℕ → Grant
card_grants ar = grant_in AR 5 9 10 ar

-- ONE STEP: "plain fare times (100,000 - discount) / 100,000 as an exact fraction, rounded by the .. record"
unfoldable pub reduce_by : ℕ → Grant → ℕ
reduce_by amount g = rounded g.mode (amount * (unit - g.discount)) g.factor

-- "the same is done to that rounded amount": one step after the other
unfoldable pub reduce_all : ℕ → List Grant → ℕ
reduce_all amount [] = amount
reduce_all amount (g ∷ gs) = reduce_all (reduce_by amount g) gs

abbrev pub greater : ℕ → ℕ → ℕ
greater a b = cond (leb a b) b a

-- how many steps a leg has at most by the number of cards: CO's, and one for each card, of which one is always counted
abbrev pub steps_for : ℕ → ℕ
steps_for cards = 1 + greater 1 cards

-- "A part is at most 99,197,505 cents", and "rises by 998 cents a person for each card after the first": a step adds at most 998 cents, and 99 persons
-- pay at most 999,999 cents plus those
abbrev pub part_bound : ℕ → ℕ
part_bound cards = 99 * (999999 + 998 * steps_for cards)

-- the largest bound on a part: that of a question with four cards, the most that it may carry
abbrev pub greatest_part : ℕ
greatest_part = part_bound 4

-- "Eight parts add to at most 793,580,040 cents, a little more after R-1" (document 02, R-13): so no fare needs a refusal of its own
abbrev pub greatest_fare : ℕ
greatest_fare = 8 * greatest_part
