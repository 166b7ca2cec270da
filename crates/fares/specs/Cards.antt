-- What the cards of a leg make of its amount (document 02, R-1), from the AR records that apply.
-- Assumes nothing.
use Rattle.std.specs.Prelude.{ℕ, ◌+◌, ◌*◌, Bool, cond, not, List, [], ◌∷◌, ◌++◌, map, leb}
use Rattle.common.specs.Lists.{only}
use Rattle.common.specs.Rising.{rising}
use Rattle.layout.specs.Layout.{AR}
use Rattle.layout.specs.Fields.{number_in, is_yes}
use Rattle.fares.specs.Reductions.{card_grants, reduce_by, reduce_all}

-- "Field 6 = Y records are applied together .. A record with N is applied alone"
abbrev pub is_together : List ℕ → Bool
is_together ar = is_yes AR 6 ar

abbrev pub is_alone : List ℕ → Bool
is_alone ar = not (is_together ar)

-- "in rising rating and, at equal rating, rising code": fields 7 and 4, the code of three digits
abbrev pub rank_of : List ℕ → ℕ
rank_of ar = number_in AR 7 ar * 1000 + number_in AR 4 ar

abbrev pub together_of : List (List ℕ) → List (List ℕ)
together_of ars = rising rank_of (only is_together ars)

-- what some records leave of an amount, "rounding after each"
abbrev pub after_all : ℕ → List (List ℕ) → ℕ
after_all amount ars = reduce_all amount (map card_grants ars)

-- THE CHOICES by what they leave: those with Y together, "(if any)", and each with N alone
abbrev pub if_any : ℕ → List (List ℕ) → List ℕ
if_any amount [] = []
if_any amount (ar ∷ ars) = after_all amount (ar ∷ ars) ∷ []

abbrev pub choices_of : ℕ → List (List ℕ) → List ℕ
choices_of amount ars = if_any amount (together_of ars) ++ map (λ ar. reduce_by amount (card_grants ar)) (only is_alone ars)

-- "The leg takes the least of these amounts; if no record applies, the amount after CO stands."
abbrev pub lesser : ℕ → ℕ → ℕ
lesser a b = cond (leb a b) a b

unfoldable pub least_from : ℕ → List ℕ → ℕ
least_from a [] = a
least_from a (b ∷ bs) = least_from (lesser a b) bs

abbrev pub least_or : ℕ → List ℕ → ℕ
least_or stands [] = stands
least_or stands (a ∷ rest) = least_from a rest

unfoldable pub after_cards : ℕ → List (List ℕ) → ℕ
after_cards amount ars = least_or amount (choices_of amount ars)
