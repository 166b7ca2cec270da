-- The limits of a question (document 01, 'Pricing'), and its cards (document 02, R-1).
-- Assumes nothing.
use Rattle.std.specs.Prelude.{ℕ, Bool, true, cond, not, ◌&&◌, List, [], ◌∷◌, eqb, leb}
use Rattle.common.specs.Lists.{every, any, only, first_of}
use Rattle.layout.specs.Company.{is_railway}
use Rattle.layout.specs.Dates.{is_day}
use Rattle.fares.specs.declared.Leg.{Leg}
use Rattle.fares.specs.declared.Question.{Question}

abbrev pub between : ℕ → ℕ → ℕ → Bool
between lowest highest v = leb lowest v && leb v highest

-- "each with a railway 1-9999 and a plain fare per person of 0-999,999 cents"
abbrev pub leg_in_limits : Leg → Bool
leg_in_limits leg = is_railway leg.railway && leb leg.fare 999999

abbrev pub no_leg : Leg
no_leg = record { railway = 0; fare = 0 }

-- the legs that are asked for: slots beyond the leg count are not looked at
abbrev pub legs_of : Question → List Leg
legs_of q = first_of no_leg q.count q.legs

-- "up to four different cards": four slots, 0 where there is none; and the cards given, in their order
abbrev pub card_slots : Question → List ℕ
card_slots q = first_of 0 4 q.cards

abbrev pub is_given : ℕ → Bool
is_given card = not (eqb card 0)

abbrev pub cards_of : Question → List ℕ
cards_of q = only is_given (card_slots q)

-- "a card 0-999 (0 = none)", and behind a slot that is not used none is
unfoldable pub cards_in_limits : List ℕ → Bool
cards_in_limits [] = true
cards_in_limits (c ∷ cs) = leb c 999 && cond (is_given c) (cards_in_limits cs) (every (eqb 0) cs)

-- 17, a card given twice: it stands in a later slot as well
unfoldable pub cards_differ : List ℕ → Bool
cards_differ [] = true
cards_differ (c ∷ cs) = not (is_given c && any (eqb c) cs) && cards_differ cs

-- "an offer 1-99,999, a real date as day, persons 1-99, a card 0-999 (0 = none), and one to eight legs"
abbrev pub limits_of : Question → List Bool
limits_of q =
    between 1 99999 q.offer ∷
    is_day q.day ∷
    between 1 99 q.persons ∷
    cards_in_limits (card_slots q) ∷
    between 1 8 q.count ∷
    every leg_in_limits (legs_of q) ∷
    []

unfoldable pub in_limits : Question → Bool
in_limits q = every (λ b. b) (limits_of q)
