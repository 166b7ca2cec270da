-- The figures of document 01 that are to be proved, and some beside them, in one list. Fares are asked of the engine itself: what it answers to a question, from a bundle that is written out.
-- Assumes nothing.
use Rattle.std.specs.Prelude.{ℕ, ◌-◌, ◌*◌, ◌≡◌, true, false, List, [], ◌∷◌, ◌++◌, replicate, Ok}
use Rattle.common.specs.Lists.{first_of}
use Rattle.common.specs.Reasons.{numbers_told}
use Rattle.layout.specs.Bytes.{byte_plus, byte_minus, byte_0, byte_N, byte_Y}
use Rattle.layout.specs.Dates.{is_day}
use Rattle.fares.specs.Rounding.{unit}
use Rattle.fares.specs.Reductions.{part_bound, greatest_fare}
use Rattle.fares.specs.Fare.{quote, fare_of}
use Rattle.bundle.specs.Samples.{period, grant, conditions_in, conditions, named, card_name, card_in, card_with, card}
use Rattle.fares.specs.Samples.{leg, ticket}
use Rattle.fares.specs.declared.Question.{Question}

-- a plain fare at a discount is so many hundred-thousandths of a cent; a question has this fare and these parts, by a bundle, or is refused by this number;
-- a part by so many cards is at most this, eight of them are at most this, and so is any fare; a number YYYYMMDD is a day, or is none
pub data Figure : Type 0 where
  exact : (fare discount amount : ℕ) → Figure
  asked : (bundle : List ℕ) → Question → (fare : ℕ) (parts : List ℕ) → Figure
  turned_away : (bundle : List ℕ) → Question → (number : ℕ) → Figure
  bound : (cards cents : ℕ) → Figure
  eight_parts : (cards cents : ℕ) → Figure
  greatest_fare_figure : (cents : ℕ) → Figure
  day : ℕ → Figure
  no_day : ℕ → Figure

-- what a figure says
abbrev pub Says : Figure → Type 0
Says (exact fare discount amount) = fare * (unit - discount) ≡ amount
Says (asked bundle q fare parts) = fare_of bundle q ≡ Ok (quote fare (first_of 0 8 parts))
Says (turned_away bundle q number) = numbers_told (fare_of bundle q) ≡ number ∷ 0 ∷ 0 ∷ []
Says (bound cards cents) = part_bound cards ≡ cents
Says (eight_parts cards cents) = 8 * part_bound cards ≡ cents
Says (greatest_fare_figure cents) = greatest_fare ≡ cents
Says (day d) = is_day d ≡ true
Says (no_day d) = is_day d ≡ false

-- one person on one leg, by one CO for all railways: plain fare, discount, rounding, factor, and the fare
abbrev pub alone : ℕ → ℕ → ℕ → ℕ → ℕ → Figure
alone fare discount rounding factor cents = asked (conditions 0 byte_N (grant discount rounding factor)) (ticket 1 [] 1 (leg 1185 fare ∷ [])) cents (cents ∷ [])

-- one person on one leg, by one CO that takes nothing, with these records of cards 5 and 7, asked with these cards
abbrev pub cards : ℕ → List ℕ → List ℕ → ℕ → Figure
cards fare records asks cents = asked (conditions 0 byte_Y (grant 0 byte_N 0) ++ (named 5 ++ (named 7 ++ records))) (ticket 1 asks 1 (leg 1185 fare ∷ [])) cents (cents ∷ [])

-- a CO of a railway of its own, in a part of the year, by its discount
abbrev pub own : ℕ → ℕ → ℕ → List ℕ
own first last discount = conditions_in (period first last) 1185 byte_N (grant discount byte_N 0)

abbrev pub figures : List Figure
figures =
    exact 1010 25000 75750000 ∷
    alone 1010 25000 byte_N 0 758 ∷
    alone 1010 25000 byte_plus 10 760 ∷
    alone 1010 25000 byte_minus 10 750 ∷
    alone 1010 25000 byte_0 5 760 ∷
    alone 1010 25000 byte_0 50 750 ∷
    alone 760 30000 byte_plus 50 550 ∷
    alone 760 30000 byte_minus 50 500 ∷
    alone 760 30000 byte_N 0 532 ∷
    alone 999999 100000 byte_plus 998 0 ∷
    alone 999999 100000 byte_minus 998 0 ∷
    alone 999999 100000 byte_0 998 0 ∷
    alone 999999 100000 byte_N 0 0 ∷
    alone 999999 0 byte_plus 998 1000994 ∷
    -- with a card of 30 % on top, N in both records; and under factor 50, which tells the order of the two
    asked (conditions 0 byte_Y (grant 25000 byte_N 0) ++ (card_name ++ card 30000 byte_N 0)) (ticket 1 (7 ∷ []) 1 (leg 1185 1010 ∷ [])) 531 (531 ∷ []) ∷
    asked (conditions 0 byte_Y (grant 25000 byte_plus 50) ++ (card_name ++ card 30000 byte_N 0)) (ticket 1 (7 ∷ []) 1 (leg 1185 1010 ∷ [])) 560 (560 ∷ []) ∷
    -- without a card nothing is rounded but by the CO
    asked (conditions 0 byte_Y (grant 25000 byte_N 0) ++ (card_name ++ card 30000 byte_N 0)) (ticket 1 [] 1 (leg 1185 1010 ∷ [])) 758 (758 ∷ []) ∷
    -- three persons
    asked (conditions 0 byte_N (grant 25000 byte_N 0)) (ticket 3 [] 1 (leg 1185 1010 ∷ [])) 2274 (2274 ∷ []) ∷
    -- two railways, one with a CO of its own beside that of 0000, which is a default only
    asked (conditions 1185 byte_N (grant 25000 byte_N 0) ++ conditions 0 byte_N (grant 0 byte_N 0)) (ticket 3 [] 2 (leg 1185 1010 ∷ leg 1181 500 ∷ [])) 3774 (2274 ∷ 1500 ∷ []) ∷
    asked (conditions 1185 byte_N (grant 25000 byte_N 0) ++ conditions 0 byte_N (grant 50000 byte_N 0)) (ticket 1 [] 1 (leg 1185 1010 ∷ [])) 758 (758 ∷ []) ∷
    -- on 15 June: the CO of that season, whichever stands first, and of no season in between
    asked (own 20240101 20240531 25000 ++ own 20240601 20241231 50000) (ticket 1 [] 1 (leg 1185 1010 ∷ [])) 505 (505 ∷ []) ∷
    asked (own 20240615 20241231 50000 ++ own 20240101 20240614 25000) (ticket 1 [] 1 (leg 1185 1010 ∷ [])) 505 (505 ∷ []) ∷
    turned_away (own 20240101 20240614 25000 ++ own 20240616 20241231 50000) (ticket 1 [] 1 (leg 1185 1010 ∷ [])) 13 ∷
    -- an own CO off its days leaves the leg to the one of 0000, if that is valid; a railway that has none but another's is 12
    asked (own 20240101 20240614 25000 ++ conditions 0 byte_N (grant 50000 byte_N 0)) (ticket 1 [] 1 (leg 1185 1010 ∷ [])) 505 (505 ∷ []) ∷
    turned_away (own 20240101 20240614 25000 ++ conditions_in (period 20240616 20241231) 0 byte_N (grant 50000 byte_N 0)) (ticket 1 [] 1 (leg 1185 1010 ∷ [])) 13 ∷
    turned_away (conditions_in (period 20240616 20241231) 0 byte_N (grant 50000 byte_N 0)) (ticket 1 [] 1 (leg 1185 1010 ∷ [])) 13 ∷
    turned_away (own 20240101 20240614 25000) (ticket 1 [] 1 (leg 1181 1010 ∷ [])) 12 ∷
    -- and so an own AR off its days leaves it to that of 0000; valid, it does not
    cards 1010 (card_in (period 20240101 20240614) 1185 7 byte_Y 1 50000 byte_N 0 ++ card 30000 byte_N 0) (7 ∷ []) 707 ∷
    cards 1010 (card_in (period 20240615 20240615) 1185 7 byte_Y 1 50000 byte_N 0 ++ card 30000 byte_N 0) (7 ∷ []) 505 ∷
    -- Y together in rising rating, at equal rating in rising code, whatever the order of the cards: half up to 50, then a quarter down to 100, or the other way
    cards 134 (card_with 5 byte_Y 1 50000 byte_plus 50 ++ card_with 7 byte_Y 2 25000 byte_minus 100) (5 ∷ 7 ∷ []) 0 ∷
    cards 134 (card_with 5 byte_Y 2 50000 byte_plus 50 ++ card_with 7 byte_Y 1 25000 byte_minus 100) (5 ∷ 7 ∷ []) 50 ∷
    cards 134 (card_with 5 byte_Y 1 50000 byte_plus 50 ++ card_with 7 byte_Y 1 25000 byte_minus 100) (7 ∷ 5 ∷ []) 0 ∷
    cards 134 (card_with 7 byte_Y 1 50000 byte_plus 50 ++ card_with 5 byte_Y 1 25000 byte_minus 100) (7 ∷ 5 ∷ []) 50 ∷
    -- N alone, from the amount after CO: it leaves less than Y, or Y leaves less, or the second N does; and from what the CO leaves
    cards 1000 (card_with 5 byte_Y 1 10000 byte_N 0 ++ card_with 7 byte_N 1 30000 byte_N 0) (5 ∷ 7 ∷ []) 700 ∷
    cards 1000 (card_with 5 byte_Y 1 30000 byte_N 0 ++ card_with 7 byte_N 1 10000 byte_N 0) (5 ∷ 7 ∷ []) 700 ∷
    cards 1000 (card_with 5 byte_N 1 10000 byte_N 0 ++ card_with 7 byte_N 1 30000 byte_N 0) (5 ∷ 7 ∷ []) 700 ∷
    asked (conditions 0 byte_Y (grant 10000 byte_N 0) ++ (named 5 ++ (named 7 ++ (card_with 5 byte_Y 1 10000 byte_N 0 ++ card_with 7 byte_N 1 30000 byte_N 0)))) (ticket 1 (5 ∷ 7 ∷ []) 1 (leg 1185 1000 ∷ [])) 630 (630 ∷ []) ∷
    -- three with Y, each rounded by itself: 1000, 550, 500, 450
    asked (conditions 0 byte_Y (grant 0 byte_N 0) ++ (named 5 ++ (named 7 ++ (named 9 ++ (card_with 5 byte_Y 3 10000 byte_N 0 ++ (card_with 7 byte_Y 2 10000 byte_plus 100 ++ card_with 9 byte_Y 1 45000 byte_N 0)))))) (ticket 1 (5 ∷ 7 ∷ 9 ∷ []) 1 (leg 1185 1000 ∷ [])) 450 (450 ∷ []) ∷
    -- two cards where flag 33 is N
    asked (conditions 0 byte_N (grant 0 byte_N 0) ++ (named 5 ++ (named 7 ++ (card_with 5 byte_Y 1 10000 byte_N 0 ++ card_with 7 byte_N 1 30000 byte_N 0)))) (ticket 1 (5 ∷ 7 ∷ []) 1 (leg 1185 1000 ∷ [])) 1000 (1000 ∷ []) ∷
    -- not tried: a part of the Y records, which would leave 1, and no card, which would leave 100
    cards 1 (card_with 5 byte_Y 1 50000 byte_N 0 ++ card_with 7 byte_Y 2 1000 byte_plus 500) (5 ∷ 7 ∷ []) 500 ∷
    cards 100 (card_with 5 byte_Y 1 0 byte_plus 998) (5 ∷ []) 998 ∷
    -- the dearest ticket there is: eight legs, 99 persons, and five records that each round up as far as they can
    asked (conditions 0 byte_Y (grant 0 byte_plus 998) ++ (named 5 ++ (named 6 ++ (named 7 ++ (named 8 ++ (card_with 5 byte_Y 1 0 byte_plus 997 ++ (card_with 6 byte_Y 2 0 byte_plus 996 ++ (card_with 7 byte_Y 3 0 byte_plus 995 ++ card_with 8 byte_Y 4 0 byte_plus 994)))))))) (ticket 99 (5 ∷ 6 ∷ 7 ∷ 8 ∷ []) 8 (replicate 8 (leg 1185 999999))) 795907728 (replicate 8 99488466) ∷
    -- a card twice, in any two slots; behind a slot that is not used; of four digits, in any slot
    turned_away [] (ticket 1 (5 ∷ 7 ∷ 5 ∷ []) 1 (leg 1185 1010 ∷ [])) 17 ∷
    turned_away [] (ticket 1 (5 ∷ 7 ∷ 9 ∷ 1000 ∷ []) 1 (leg 1185 1010 ∷ [])) 11 ∷
    turned_away [] (ticket 1 (7 ∷ 7 ∷ []) 1 (leg 1185 1010 ∷ [])) 17 ∷
    turned_away [] (ticket 1 (0 ∷ 7 ∷ []) 1 (leg 1185 1010 ∷ [])) 11 ∷
    turned_away [] (ticket 1 (1000 ∷ 1000 ∷ []) 1 (leg 1185 1010 ∷ [])) 11 ∷
    bound 0 99197505 ∷
    bound 1 99197505 ∷
    bound 2 99296307 ∷
    bound 3 99395109 ∷
    bound 4 99493911 ∷
    eight_parts 1 793580040 ∷
    greatest_fare_figure 795951288 ∷
    day 20240229 ∷
    day 20000229 ∷
    no_day 20230229 ∷
    no_day 21000229 ∷
    []
