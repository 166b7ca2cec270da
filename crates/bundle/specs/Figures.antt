-- Verdicts that document 01 gives, and a few that stand for its rules and for those of document 02, in one list: each is asked of the engine itself, on a
-- bundle that is written out.
-- Assumes nothing.
use Rattle.std.specs.Prelude.{Ok, ℕ, ◌≡◌, List, [], ◌∷◌, ◌++◌, take, drop}
use Rattle.common.specs.Reasons.{numbers_told}
use Rattle.layout.specs.Bytes.{byte_plus, byte_N, byte_Y}
use Rattle.bundle.specs.Verdict.{verdict_of}
use Rattle.bundle.specs.Samples.{digits, period, grant, conditions_in, conditions, named_in, named, card_name, memo, card}

-- a bundle is accepted with so many records; or refused with a number, a place and a detail
pub data Figure : Type 0 where
  accepted : (bundle : List ℕ) (records : ℕ) → Figure
  refused : (bundle : List ℕ) (number place detail : ℕ) → Figure

abbrev pub Says : Figure → Type 0
Says (accepted bundle n) = verdict_of bundle ≡ Ok n
Says (refused bundle n p d) = numbers_told (verdict_of bundle) ≡ n ∷ p ∷ d ∷ []

-- a CO of a quarter off, by its railway and its flag 33; an AR of 30 % off
abbrev pub quarter : ℕ → ℕ → List ℕ
quarter railway flag_33 = conditions railway flag_33 (grant 25000 byte_N 0)

abbrev pub cards : List ℕ
cards = card 30000 byte_plus 50

-- that CO, and the RE of a card, in a part of the year
abbrev pub season : ℕ → ℕ → List ℕ
season first last = conditions_in (period first last) 1185 byte_N (grant 25000 byte_N 0)

abbrev pub card_season : ℕ → ℕ → List ℕ
card_season first last = named_in (period first last) 7

abbrev pub figures : List Figure
figures =
    accepted [] 0 ∷
    refused (88 ∷ 88 ∷ []) 2 0 0 ∷
    refused cards 7 0 1 ∷
    refused (card_name ++ cards) 7 1 2 ∷
    accepted (quarter 1185 byte_Y ++ (card_name ++ cards)) 3 ∷
    accepted (quarter 1185 byte_N ++ quarter 0 byte_N) 2 ∷
    -- a key repeated, and an AR missing: 6 comes before 7
    refused (quarter 1185 byte_N ++ quarter 1185 byte_Y) 6 1 0 ∷
    refused (quarter 1185 byte_Y) 7 0 3 ∷
    refused (quarter 1185 byte_N ++ take 156 (quarter 0 byte_N)) 3 1 0 ∷
    -- fields, the first that breaks its rule: before a mark that is unknown; the last day and not the first, the most persons and not the fewest, the factor
    refused (quarter 1185 byte_plus ++ (88 ∷ 88 ∷ [])) 4 0 33 ∷
    refused (take 139 (quarter 1185 byte_N) ++ (digits 8 20241231 ++ (digits 2 1 ++ digits 8 20240101))) 4 0 44 ∷
    refused (take 116 (quarter 1185 byte_N) ++ (digits 4 302 ++ drop 120 (quarter 1185 byte_N))) 4 0 29 ∷
    refused (conditions 1185 byte_N (grant 25000 byte_plus 0)) 4 0 41 ∷
    -- nothing may follow the records; and keys are of their table
    refused (quarter 1185 byte_N ++ (32 ∷ 32 ∷ [])) 2 1 0 ∷
    accepted (quarter 1185 byte_N ++ memo 1185) 2 ∷
    refused (card_name ++ card_name) 6 1 0 ∷
    accepted (card_name ++ named 8) 2 ∷
    -- summer and winter: one period ends the day before the other begins, whichever is first; it ends on that day
    accepted (season 20240101 20240531 ++ season 20240601 20241231) 2 ∷
    accepted (season 20240601 20241231 ++ season 20240101 20240531) 2 ∷
    refused (season 20240101 20240601 ++ season 20240601 20241231) 6 1 0 ∷
    refused (season 20240601 20241231 ++ season 20240101 20240601) 6 1 0 ∷
    accepted (card_season 20240101 20240531 ++ card_season 20240601 20241231) 2 ∷
    refused (card_season 20240101 20241231 ++ card_season 20240601 20240630) 6 1 0 ∷
    -- the first of the records that it shares a day with, which need not be the first of its key: February to August, and August to December
    refused (season 20240101 20240331 ++ (season 20240701 20240930 ++ season 20240201 20240831)) 6 2 0 ∷
    refused (season 20240101 20240331 ++ (season 20240701 20240930 ++ season 20240801 20241231)) 6 2 1 ∷
    []
