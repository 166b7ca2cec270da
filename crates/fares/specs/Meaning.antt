-- WHAT A FARE MEANS (document 01, 'Pricing', and document 02, R-1 and R-2): which records count for a leg, by their fields; each amount from the one before
-- it; the part and the fare. There is no search, no sort and no order of trying in it.
-- Assumes nothing.
use Rattle.std.specs.Prelude.{ℕ, ◌-◌, ◌*◌, ◌≤◌, ◌<◌, ◌≡◌, false, List, [], ◌∷◌, ◌++◌, ◌⊎◌, eqb, length, get_or}
use Rattle.common.specs.Lists.{any, sum}
use Rattle.layout.specs.Bytes.{byte_N, byte_Y}
use Rattle.layout.specs.Calendar.{RealDay}
use Rattle.layout.specs.Layout.{CO, AR}
use Rattle.layout.specs.declared.Table.{Table}
use Rattle.layout.specs.Fields.{number_in, byte_of}
use Rattle.bundle.specs.Records.{Rec}
use Rattle.choice.specs.Chosen.{ForEither, Uses}
use Rattle.bundle.specs.Faults.{Fault}
use Rattle.bundle.specs.Meaning.{record_at, HoldsDay, Good}
use Rattle.fares.specs.Question.{no_leg}
use Rattle.fares.specs.Rounding.{IsRounded}
use Rattle.fares.specs.declared.Leg.{Leg}
use Rattle.fares.specs.declared.Question.{Question}

-- THE LIMITS OF A QUESTION: "an offer 1-99,999, a real date as day, persons 1-99, a card 0-999 (0 = none), and one to eight legs, each with a railway
-- 1-9999 and a plain fare per person of 0-999,999 cents"; of its four slots for cards those that are used stand first
pub record LegInLimits (leg : Leg) : Type 0 where
  pub railway : (1 ≤ leg.railway) × (leg.railway ≤ 9999)
  pub fare : leg.fare ≤ 999999

abbrev pub leg_at : Question → ℕ → Leg
leg_at q k = get_or q.legs k no_leg

abbrev pub card_at : Question → ℕ → ℕ
card_at q k = get_or q.cards k 0

pub record InLimits (q : Question) : Type 0 where
  pub offer : (1 ≤ q.offer) × (q.offer ≤ 99999)
  pub day : RealDay q.day
  pub persons : (1 ≤ q.persons) × (q.persons ≤ 99)
  pub cards : (k : ℕ) → k < 4 → card_at q k ≤ 999
  pub used_first : (j k : ℕ) → j < k → k < 4 → card_at q j ≡ 0 → card_at q k ≡ 0
  pub count : (1 ≤ q.count) × (q.count ≤ 8)
  pub legs : (k : ℕ) → k < q.count → LegInLimits (leg_at q k)

-- NO CARD IS GIVEN TWICE: slots that have the same are not used
abbrev pub CardsDiffer : Question → Type 0
CardsDiffer q = (j k : ℕ) → j < k → k < 4 → card_at q j ≡ card_at q k → card_at q j ≡ 0

-- a question with other cards; and cards that are the same in any order: each card given in the first stands in a slot of the second
abbrev pub with_cards : Question → List ℕ → Question
with_cards q cards = record { offer = q.offer; day = q.day; persons = q.persons; cards = cards; count = q.count; legs = q.legs }

abbrev pub SameCards : List ℕ → List ℕ → Type 0
SameCards before after = (j : ℕ) → j < 4 → (get_or before j 0 ≡ 0 → ⊥) → (k : ℕ) × (k < 4) × (get_or before j 0 ≡ get_or after k 0)

-- AN AMOUNT AFTER A RECORD: "plain fare times (100,000 - discount) / 100,000 as an exact fraction, rounded by the .. record", by the record's fields of
-- discount, rounding and factor; a discount that is blank is 0
pub record IsReduced (t : Table) (discount rounding factor : ℕ) (body : List ℕ) (before after : ℕ) : Type 0 where
  pub at_most_whole : number_in t discount body ≤ 100000
  pub rounded_once : IsRounded (byte_of t rounding body) (before * (100000 - number_in t discount body)) (number_in t factor body) after

-- "Least persons 00-99, most persons 01-99; two blanks mean 00 and 99", in fields 28 and 29
abbrev pub PersonsFit : List ℕ → ℕ → Type 0
PersonsFit co persons =
    (number_in CO 28 co ≤ persons) × ((persons ≤ number_in CO 29 co) ⊎ ((number_in CO 29 co ≡ 0) × (persons ≤ 99)))

-- no field of some is Y; and the first of some that is
abbrev pub NoneSet : List ℕ → List ℕ → Type 0
NoneSet fs co = any (λ f. eqb (byte_of CO f co) byte_Y) fs ≡ false

pub record FirstSet (fs co : List ℕ) (f : ℕ) : Type 0 where
  pub earlier : List ℕ
  pub later : List ℕ
  pub split : fs ≡ earlier ++ (f ∷ later)
  pub set : byte_of CO f co ≡ byte_Y
  pub none_earlier : NoneSet earlier co

-- "field 27, 31, 32, 34 or 35 is Y: condition unread"
abbrev pub unread_fields : List ℕ
unread_fields = 27 ∷ 31 ∷ 32 ∷ 34 ∷ 35 ∷ []

-- "in rising rating and, at equal rating, rising code": fields 7 and 4 of an AR
abbrev pub Rises : List ℕ → List ℕ → Type 0
Rises ar next = (number_in AR 7 ar < number_in AR 7 next) ⊎ ((number_in AR 7 ar ≡ number_in AR 7 next) × (number_in AR 4 ar < number_in AR 4 next))

module _ (R : List Rec) (q : Question) (leg : Leg) where
  -- "The record for a leg is then the railway's own one valid that day, else the 0000 one valid that day": of the CO, and of the AR of a card
  abbrev pub IsConditions : ℕ → Type 0
  IsConditions i = Uses R CO q.offer 0 leg.railway q.day i

  abbrev pub IsCard : ℕ → ℕ → Type 0
  IsCard card i = Uses R AR q.offer card leg.railway q.day i

  -- "CO records of that railway or 0000", on whatever days
  abbrev pub AnyConditions : ℕ → Type 0
  AnyConditions i = ForEither R CO q.offer 0 leg.railway i

  module _ (co : List ℕ) where
    -- A RECORD APPLIES that day: flag 33 of the CO is Y, and it is the AR of a card that is given
    pub record Applies (i : ℕ) : Type 0 where
      pub allowed : byte_of CO 33 co ≡ byte_Y
      pub slot : ℕ
      pub inside : slot < 4
      pub given : card_at q slot ≡ 0 → ⊥
      pub is_card : IsCard (card_at q slot) i

    -- its field 6 says whether it is applied together with others or alone
    pub record AppliesWith (flag i : ℕ) : Type 0 where
      pub applies : Applies i
      pub says : byte_of AR 6 (record_at R i).body ≡ flag

    -- ALL THAT ARE APPLIED TOGETHER, each of them once, in their order
    pub record AllTogether (is : List ℕ) : Type 0 where
      pub each : (k : ℕ) → k < length is → AppliesWith byte_Y (get_or is k 0)
      pub all : (i : ℕ) → AppliesWith byte_Y i → (k : ℕ) × (k < length is) × (get_or is k 0 ≡ i)
      pub in_order : (j k : ℕ) → j < k → k < length is → Rises (record_at R (get_or is j 0)).body (record_at R (get_or is k 0)).body

    -- A PERMITTED CHOICE: "Field 6 = Y records are applied together (if any) .. A record with N is applied alone."
    pub data Permitted : List ℕ → Type 0 where
      together : {is : List ℕ} → AllTogether is → 0 < length is → Permitted is
      alone : {i : ℕ} → AppliesWith byte_N i → Permitted (i ∷ [])

  -- AN AMOUNT AFTER A CHOICE: "the same is done to that rounded amount" by one record after the other
  pub data After : List ℕ → ℕ → ℕ → Type 0 where
    done : {amount : ℕ} → After [] amount amount
    then : {i : ℕ} {is : List ℕ} {before amount last : ℕ} → IsReduced AR 5 9 10 (record_at R i).body before amount → After is amount last
        → After (i ∷ is) before last

  -- THE AMOUNT AFTER THE CARDS: "The leg takes the least of these amounts; if no record applies, the amount after CO stands."
  pub data AfterCards (co : List ℕ) (before : ℕ) : ℕ → Type 0 where
    none_applies : ((i : ℕ) → Applies co i → ⊥) → AfterCards co before before
    least : {last : ℕ} (choice : List ℕ) → Permitted co choice → After choice before last
        → ((other : List ℕ) (amount : ℕ) → Permitted co other → After other before amount → last ≤ amount) → AfterCards co before last

  -- A LEG'S PART: its CO admits the persons and sets no condition unread; the plain fare after the CO, and after the cards, times the
  -- persons
  pub record LegFare (part : ℕ) : Type 0 where
    pub at : ℕ
    pub is_conditions : IsConditions at
    pub persons_fit_lem : PersonsFit (record_at R at).body q.persons
    pub none_unread : NoneSet unread_fields (record_at R at).body
    pub amount : ℕ
    pub reduced : IsReduced CO 39 40 41 (record_at R at).body leg.fare amount
    pub last : ℕ
    pub by_cards : AfterCards (record_at R at).body amount last
    pub times_persons : part ≡ last * q.persons

  -- A LEG IS TURNED AWAY by a number and its detail. "13 when CO records of that railway or 0000 exist and none is valid; 12 when there are none"; 14: persons
  -- outside the fields 28, 29 of the one that it uses; 15: a condition unread of it, by its field
  pub data TurnedAway : ℕ → ℕ → Type 0 where
    no_conditions : ((i : ℕ) → AnyConditions i → ⊥) → TurnedAway 12 0
    none_valid : (i : ℕ) → AnyConditions i → ((j : ℕ) → AnyConditions j → HoldsDay CO q.day (record_at R j) → ⊥) → TurnedAway 13 0
    persons_outside : (i : ℕ) → IsConditions i → (PersonsFit (record_at R i).body q.persons → ⊥) → TurnedAway 14 0
    unread : (i : ℕ) → IsConditions i → PersonsFit (record_at R i).body q.persons → (f : ℕ) → FirstSet unread_fields (record_at R i).body f → TurnedAway 15 f

-- THE FARE of a question by the records of a bundle: a part for each leg, nothing in the slots beyond them, and the sum
pub record IsFare (bundle : List ℕ) (R : List Rec) (q : Question) (fare : ℕ) (parts : List ℕ) : Type 0 where
  pub good : Good bundle R
  pub within_limits : InLimits q
  pub cards_apart : CardsDiffer q
  pub leg_by_leg : (k : ℕ) → k < q.count → LegFare R q (leg_at q k) (get_or parts k 0)
  pub none_beyond : (k : ℕ) → q.count ≤ k → get_or parts k 0 ≡ 0
  pub eight : length parts ≡ 8
  pub summed : fare ≡ sum parts

-- NO FARE, by number, place and detail: the bundle has a fault; or the question is outside its limits, or gives a card twice; or leg k is turned away, and no leg before it
pub data NoFare (bundle : List ℕ) (R : List Rec) (rest : List ℕ) (q : Question) : ℕ → ℕ → ℕ → Type 0 where
  faulty : {n p d : ℕ} → Fault bundle R rest n p d → NoFare bundle R rest q n p d
  outside_limits : Good bundle R → (InLimits q → ⊥) → NoFare bundle R rest q 11 0 0
  card_twice : Good bundle R → InLimits q → (CardsDiffer q → ⊥) → NoFare bundle R rest q 17 0 0
  at_leg : Good bundle R → InLimits q → CardsDiffer q → (k : ℕ) → k < q.count → ((j : ℕ) → j < k → (part : ℕ) × LegFare R q (leg_at q j) part)
      → {n d : ℕ} → TurnedAway R q (leg_at q k) n d → NoFare bundle R rest q n k d
