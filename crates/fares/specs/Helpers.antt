-- What the code's helpers answer: limits but for cards and legs, places in the bundle in place of numbers of records, and the price of one leg and of an
-- accepted bundle. Nothing here has to be believed: no promise and no answer of a call is stated with it.
-- Assumes nothing.
use Rattle.std.specs.Prelude.{ℕ, Bool, ◌&&◌, List, map, leb, get_or, Result}
use Rattle.common.specs.Lists.{only}
use Rattle.common.specs.declared.Refusal.{Refusal}
use Rattle.common.specs.Checks.{Finding, unless, first_fault}
use Rattle.arrayvec.specs.ArrayVec.{ArrayVec}
use Rattle.layout.specs.Dates.{is_day}
use Rattle.layout.specs.declared.fields.Grant.{Grant}
use Rattle.bundle.specs.Records.{Rec, records_of}
use Rattle.bundle.specs.Helpers.{places_of, body_at}
use Rattle.choice.specs.Helpers.{at_place}
use Rattle.choice.specs.declared.Choice.{Choice}
use Rattle.fares.specs.Question.{between}
use Rattle.fares.specs.Reductions.{card_grants, reduce_by}
use Rattle.fares.specs.Cards.{is_alone, rank_of}
use Rattle.fares.specs.Legs.{conditions_for, body_of, applied_for, condition_checks, leg_checks, part_by, part_of}
use Rattle.fares.specs.Fare.{parts_of, price_checks, quoted}
use Rattle.fares.specs.declared.Leg.{Leg}
use Rattle.fares.specs.declared.Question.{Question}
use Rattle.fares.specs.declared.Quote.{Quote}
use Rattle.fares.specs.declared.records.LegRecords.{LegRecords}
use Rattle.fares.specs.declared.cards.Step.{Step}

-- the limits of what a question says besides its cards and legs
unfoldable pub trip_in_limits : ℕ → ℕ → ℕ → ℕ → Bool
trip_in_limits offer day persons count = between 1 99999 offer && (is_day day && (between 1 99 persons && between 1 8 count))

-- the AR records that apply as the code keeps them, by where their marks stand; and the bytes of records by their places
abbrev pub cards_by : List ℕ → ArrayVec ℕ
cards_by places = record { items = places }

abbrev pub places_in : ArrayVec ℕ → List ℕ
places_in c = c.items

abbrev pub bodies_at : List ℕ → List ℕ → List (List ℕ)
bodies_at s places = map (body_at s) places

abbrev pub place_of : List ℕ → ℕ → ℕ
place_of s i = get_or (places_of s) i 0

-- the records of a leg by the places of their marks
unfoldable pub placed : List ℕ → Question → Leg → LegRecords
placed s q leg =
    let R : List Rec = records_of s in
    let c : Choice = conditions_for R q leg in
    record { conditions = at_place s c; cards = cards_by (map (place_of s) (applied_for R q leg (body_of R c))) }

-- an AR that is applied together with others: where it stands in their row, and what it grants
abbrev pub step_of : List ℕ → Step
step_of ar = record { rank = rank_of ar; grant = card_grants ar }

abbrev pub rank_in : Step → ℕ
rank_in x = x.rank

abbrev pub grant_of : Step → Grant
grant_of x = x.grant

abbrev pub no_step : Step
no_step = record { rank = 0; grant = record { discount = 0; mode = 0; factor = 0 } }

abbrev pub factor_fits : Step → Bool
factor_fits x = leb x.grant.factor 999

-- what is left by a record alone
abbrev pub alone_from : ℕ → List (List ℕ) → List ℕ
alone_from amount ars = map (λ ar. reduce_by amount (card_grants ar)) (only is_alone ars)

-- the answer on one leg, and by the bytes of its CO and of its cards
abbrev pub answered : Finding → ℕ → Result ℕ Refusal
answered f part = unless f part

unfoldable pub answer_of : List Rec → Question → ℕ → Leg → Result ℕ Refusal
answer_of R q k leg = answered (first_fault (leg_checks R q k leg)) (part_of R q leg)

unfoldable pub answer_by : Question → ℕ → Leg → List ℕ → List (List ℕ) → Result ℕ Refusal
answer_by q k leg co cards = answered (first_fault (condition_checks q k co)) (part_by q leg co cards)

-- the fare from the records of an accepted bundle
unfoldable pub price_of : List Rec → Question → Result Quote Refusal
price_of R q = quoted (first_fault (price_checks R q)) (parts_of R q)
