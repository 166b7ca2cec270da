-- The fare of a ticket: the checks in their order, the parts and their sum (document 01, 'Pricing' and 'The sales book', its last line).
-- Assumes nothing.
use Rattle.std.specs.Prelude.{ℕ, ◌-◌, not, List, ◌∷◌, ◌++◌, map, replicate, Result}
use Rattle.common.specs.declared.reasons.Reason.TheVariants.{OutsideLimits, CardTwice}
use Rattle.common.specs.Lists.{sum}
use Rattle.common.specs.Checks.{Finding, Check, check, unless, first_fault, each_from}
use Rattle.common.specs.declared.Refusal.{Refusal}
use Rattle.bundle.specs.Records.{Rec, records_of}
use Rattle.bundle.specs.Verdict.{checks}
use Rattle.fares.specs.Question.{legs_of, card_slots, cards_differ, in_limits}
use Rattle.fares.specs.Legs.{leg_checks, part_of}
use Rattle.fares.specs.declared.Question.{Question}
use Rattle.fares.specs.declared.Quote.{Quote}

-- the parts of the legs, zeros after them to eight
unfoldable pub parts_of : List Rec → Question → List ℕ
parts_of R q = map (part_of R q) (legs_of q) ++ replicate (8 - q.count) 0

-- 11, 17, then the legs from the first, each for 12, 13, 14, 15
unfoldable pub price_checks : List Rec → Question → List Check
price_checks R q =
    check (not (in_limits q)) OutsideLimits 0 0 ∷
    check (not (cards_differ (card_slots q))) CardTwice 0 0 ∷
    each_from 0 (leg_checks R q) (legs_of q)

-- "A fare may also be asked without a book: verdict, 11, 12 to 15", with "17, a card given twice, directly after 11"; number 16 went with R-13
unfoldable pub fare_checks : List ℕ → Question → List Check
fare_checks s q = checks s ++ price_checks (records_of s) q

abbrev pub quote : ℕ → List ℕ → Quote
quote fare parts = record { fare = fare; parts = parts }

abbrev pub priced : List ℕ → Quote
priced parts = quote (sum parts) parts

abbrev pub quoted : Finding → List ℕ → Result Quote Refusal
quoted f parts = unless f (priced parts)

-- THE FARE
unfoldable pub fare_of : List ℕ → Question → Result Quote Refusal
fare_of s q = quoted (first_fault (fare_checks s q)) (parts_of (records_of s) q)
