-- THE BASE'S RULE: what a question with one card, or none, was answered before a question could carry several (document 01, 'Pricing'). It is kept to say
-- that such a question is answered as it was, and it looks at the first slot alone. Which records a leg uses is today's choice (document 02, R-2).
-- Assumes nothing.
use Rattle.std.specs.Prelude.{ℕ, ◌-◌, ◌*◌, ◌<◌, ◌≡◌, Bool, cond, not, ◌&&◌, List, [], ◌∷◌, ◌++◌, map, eqb, replicate, Result}
use Rattle.common.specs.declared.reasons.Reason.TheVariants.{OutsideLimits}
use Rattle.common.specs.Lists.{every}
use Rattle.common.specs.declared.Refusal.{Refusal}
use Rattle.common.specs.Checks.{Check, check, first_fault, each_from}
use Rattle.layout.specs.Dates.{is_day}
use Rattle.layout.specs.Layout.{CO, AR}
use Rattle.layout.specs.Fields.{is_yes}
use Rattle.bundle.specs.Records.{Rec, records_of}
use Rattle.choice.specs.Choice.{choice_of}
use Rattle.bundle.specs.Verdict.{checks}
use Rattle.choice.specs.declared.Choice.{Choice}
use Rattle.choice.specs.declared.Choice.TheVariants.{Nothing}
use Rattle.fares.specs.Question.{between, leg_in_limits, legs_of}
use Rattle.fares.specs.Reductions.{conditions_grant, card_grants, reduce_all}
use Rattle.fares.specs.Legs.{wanted_for, conditions_for, found, bodies, body_of, leg_checks}
use Rattle.fares.specs.Fare.{quoted}
use Rattle.fares.specs.Meaning.{card_at}
use Rattle.fares.specs.declared.Leg.{Leg}
use Rattle.fares.specs.declared.Question.{Question}
use Rattle.fares.specs.declared.Quote.{Quote}

-- the question has one card or none
abbrev pub OneCard : Question → Type 0
OneCard q = (k : ℕ) → 0 < k → k < 4 → card_at q k ≡ 0

-- "an offer 1-99,999, a real date as day, persons 1-99, a card 0-999 (0 = none), and one to eight legs"
unfoldable pub base_in_limits : Question → Bool
base_in_limits q =
    every (λ b. b) (
    between 1 99999 q.offer ∷
    is_day q.day ∷
    between 1 99 q.persons ∷
    between 0 999 (card_at q 0) ∷
    between 1 8 q.count ∷
    every leg_in_limits (legs_of q) ∷
    [])

-- "Then, if its flag 33 is Y and a card is given, the offer's AR record", chosen as the CO is
abbrev pub base_card : List Rec → Question → Leg → List ℕ → Choice
base_card R q leg co = cond (is_yes CO 33 co && not (eqb (card_at q 0) 0)) (choice_of R (wanted_for AR (card_at q 0) q leg)) Nothing

-- the plain fare after the CO, and after the card, times the persons
unfoldable pub base_part : List Rec → Question → Leg → ℕ
base_part R q leg =
    let co : List ℕ = body_of R (conditions_for R q leg) in
    reduce_all leg.fare (conditions_grant co ∷ map card_grants (bodies R (found (base_card R q leg co)))) * q.persons

unfoldable pub base_parts : List Rec → Question → List ℕ
base_parts R q = map (base_part R q) (legs_of q) ++ replicate (8 - q.count) 0

-- "verdict, 11, 12 to 15"; number 16, which came last, was never met
abbrev pub base_price : List Rec → Question → List Check
base_price R q = check (not (base_in_limits q)) OutsideLimits 0 0 ∷ each_from 0 (leg_checks R q) (legs_of q)

unfoldable pub base_checks : List ℕ → Question → List Check
base_checks s q = checks s ++ base_price (records_of s) q

unfoldable pub base_fare : List ℕ → Question → Result Quote Refusal
base_fare s q = quoted (first_fault (base_checks s q)) (base_parts (records_of s) q)

-- "A part is at most 99,197,505 cents"
abbrev pub base_bound : ℕ
base_bound = 99197505
