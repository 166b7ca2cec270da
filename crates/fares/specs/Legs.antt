-- One leg of a question (document 01, 'Pricing', numbers 12 to 15, and document 02, R-2): first which records it has, then what these say of it.
-- Assumes nothing.
use Rattle.std.specs.Prelude.{ℕ, ◌*◌, Bool, true, false, cond, not, ◌&&◌, eqb, leb, get_or, Option, is_some, unwrap_or, find}
use mathlib.Core.List.{List, [], ◌∷◌, map, flat_map}
use Rattle.common.specs.declared.reasons.Reason.TheVariants.{NoConditions, DayOutside, PersonsOutside, ConditionUnread}
use Rattle.common.specs.Checks.{Check, check}
use Rattle.layout.specs.Layout.{CO, AR}
use Rattle.layout.specs.declared.Table.{Table}
use Rattle.layout.specs.Fields.{number_in, is_yes}
use Rattle.bundle.specs.Records.{Rec, no_rec}
use Rattle.choice.specs.Choice.{choice_of}
use Rattle.choice.specs.declared.Wanted.{Wanted}
use Rattle.choice.specs.declared.Choice.{Choice}
use Rattle.choice.specs.declared.Choice.TheVariants.{At, NotThatDay, Nothing}
use Rattle.fares.specs.Question.{is_given, card_slots}
use Rattle.fares.specs.Reductions.{conditions_grant, reduce_by}
use Rattle.fares.specs.Cards.{after_cards}
use Rattle.fares.specs.declared.Leg.{Leg}
use Rattle.fares.specs.declared.Question.{Question}

-- WHICH RECORDS. What is wanted of a record for a leg: its table, a code, and the offer, the leg's railway and the day
abbrev pub wanted_for : Table → ℕ → Question → Leg → Wanted Table
wanted_for t c q leg = record { table = t; offer = q.offer; railway = leg.railway; code = c; day = q.day }

-- "The record for a leg is then the railway's own one valid that day, else the 0000 one valid that day"
abbrev pub conditions_for : List Rec → Question → Leg → Choice
conditions_for R q leg = choice_of R (wanted_for CO 0 q leg)

-- the record that was chosen, if one was: a card of which none is valid does not reduce that leg
abbrev pub found : Choice → List ℕ
found (At i) = i ∷ []
found NotThatDay = []
found Nothing = []

-- the bytes of records by their numbers, and of the one that was chosen
abbrev pub bodies : List Rec → List ℕ → List (List ℕ)
bodies R is = map (λ i. (get_or R i no_rec).body) is

abbrev pub body_of : List Rec → Choice → List ℕ
body_of R c = get_or (bodies R (found c)) 0 []

-- "Then, if its flag 33 is Y and a card is given, the offer's AR record", chosen likewise; those of all its cards, in the order of the cards
abbrev pub card_for : List Rec → Question → Leg → ℕ → Choice
card_for R q leg card = cond (is_given card) (choice_of R (wanted_for AR card q leg)) Nothing

unfoldable pub cards_for : List Rec → Question → Leg → List ℕ
cards_for R q leg = flat_map (λ card. found (card_for R q leg card)) (card_slots q)

abbrev pub applied_for : List Rec → Question → Leg → List ℕ → List ℕ
applied_for R q leg co = cond (is_yes CO 33 co) (cards_for R q leg) []

-- WHAT THEY SAY. "Least persons 00-99, most persons 01-99; two blanks mean 00 and 99", in fields 28 and 29
abbrev pub most_of : List ℕ → ℕ
most_of co =
    let most : ℕ = number_in CO 29 co in
    cond (eqb most 0) 99 most

unfoldable pub persons_fit : List ℕ → ℕ → Bool
persons_fit co persons = leb (number_in CO 28 co) persons && leb persons (most_of co)

-- "field 27, 31, 32, 34 or 35 is Y: condition unread"
unfoldable pub unread : List ℕ
unread = 27 ∷ 31 ∷ 32 ∷ 34 ∷ 35 ∷ []

-- the first of some fields that is Y, if one is
abbrev pub first_set : List ℕ → List ℕ → Option ℕ
first_set fs co = find (λ f. is_yes CO f co) fs

-- 14: persons outside fields 28, 29; 15: a condition unread, by its field
abbrev pub condition_checks : Question → ℕ → List ℕ → List Check
condition_checks q k co =
    let f : Option ℕ = first_set unread co in
    check (not (persons_fit co q.persons)) PersonsOutside k 0 ∷
    check (is_some f) ConditionUnread k (unwrap_or f 0) ∷
    []

abbrev pub is_nothing : Choice → Bool
is_nothing (At i) = false
is_nothing NotThatDay = false
is_nothing Nothing = true

abbrev pub is_off_day : Choice → Bool
is_off_day (At i) = false
is_off_day NotThatDay = true
is_off_day Nothing = false

-- "13 when CO records of that railway or 0000 exist and none is valid; 12 when there are none"; then as the one chosen says
abbrev pub leg_checks : List Rec → Question → ℕ → Leg → List Check
leg_checks R q k leg =
    let c : Choice = conditions_for R q leg in
    check (is_nothing c) NoConditions k 0 ∷
    check (is_off_day c) DayOutside k 0 ∷
    condition_checks q k (body_of R c)

-- the plain fare after the CO, and then after the cards; "The leg's part is the result times the persons"
unfoldable pub part_by : Question → Leg → List ℕ → List (List ℕ) → ℕ
part_by q leg co cards = after_cards (reduce_by leg.fare (conditions_grant co)) cards * q.persons

abbrev pub part_of : List Rec → Question → Leg → ℕ
part_of R q leg =
    let co : List ℕ = body_of R (conditions_for R q leg) in
    part_by q leg co (bodies R (applied_for R q leg co))
