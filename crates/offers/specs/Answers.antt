-- What each answer tells, in the numbers and values of document 01, case by case. The promises and the calls for C use these.
-- Assumes nothing.
use Rattle.std.specs.Prelude.{ℕ, ◌≡◌, replicate, Result, Ok, Err}
use mathlib.Core.List.{List, [], ◌∷◌, ◌++◌, flat_map}
use Rattle.common.specs.Reasons.{number_of_reason}
use Rattle.common.specs.Checks.{Check, AllPass, FirstIs}
use Rattle.common.specs.declared.Refusal.{Refusal}
use Rattle.fares.specs.declared.Leg.{Leg}
use Rattle.fares.specs.declared.Question.{Question}
use Rattle.fares.specs.declared.Quote.{Quote}
use Rattle.book.specs.Status.{number_of_status}
use Rattle.sales.specs.declared.Outcome.{Outcome}
use Rattle.sales.specs.declared.Outcome.TheVariants.{Booked, AlreadyBooked, Cancelled, AlreadyCancelled}
use Rattle.sales.specs.declared.Receipt.{Receipt}
use Rattle.sales.specs.declared.Booking.{Booking}

-- an answer with its values, or a refusal (number, place and detail) and the values that go with it
pub data Told : Type 0 where
  answers : List ℕ → Told
  refuses : (number place detail : ℕ) → List ℕ → Told

-- WHAT AN ANSWER OF n VALUES TELLS: these, or a refusal. "Every refusal answers with all amounts zero"
unfoldable pub tells_values : {A : Type 0} → ℕ → (A → List ℕ) → Result A Refusal → Told
tells_values n values (Ok a) = answers (values a)
tells_values n values (Err why) = refuses (number_of_reason why.reason) why.place why.detail (replicate n 0)

abbrev pub one_value : ℕ → List ℕ
one_value n = n ∷ []

-- A VERDICT: the count of the records.
abbrev pub verdict_tells : Result ℕ Refusal → Told
verdict_tells r = tells_values 1 one_value r

-- A FARE: the fare and its eight parts.
abbrev pub quote_values : Quote → List ℕ
quote_values r = r.fare ∷ r.parts

abbrev pub fare_tells : Result Quote Refusal → Told
fare_tells r = tells_values 9 quote_values r

-- A SALE OR A CANCEL: what came of it, whether the sale is now cancelled, and its eight parts.
abbrev pub refused : ℕ
refused = 0

abbrev pub booked : ℕ
booked = 1

abbrev pub already_booked : ℕ
already_booked = 2

abbrev pub cancelled : ℕ
cancelled = 3

abbrev pub already_cancelled : ℕ
already_cancelled = 4

unfoldable pub outcome_values : Outcome → List ℕ → List ℕ
outcome_values Booked parts = booked ∷ 0 ∷ parts
outcome_values (AlreadyBooked status) parts = already_booked ∷ number_of_status status ∷ parts
outcome_values Cancelled parts = cancelled ∷ 1 ∷ parts
outcome_values AlreadyCancelled parts = already_cancelled ∷ 1 ∷ parts

abbrev pub receipt_values : Receipt → List ℕ
receipt_values r = outcome_values r.outcome r.parts

abbrev pub receipt_tells : Result Receipt Refusal → Told
receipt_tells r = tells_values 10 receipt_values r

-- A BALANCE OR THE TOTAL: the amount.
abbrev pub sum_tells : Result ℕ Refusal → Told
sum_tells r = tells_values 1 one_value r

-- HOW MANY SALES a book has: the count.
abbrev pub tally_tells : Result ℕ Refusal → Told
tally_tells r = tells_values 1 one_value r

-- A SALE READ: its entry, till, sequence and status, the values of its question, and its eight parts; 36 values.
abbrev pub leg_values : Leg → List ℕ
leg_values leg = leg.railway ∷ leg.fare ∷ []

abbrev pub question_values : Question → List ℕ
question_values q = q.offer ∷ q.day ∷ q.persons ∷ (q.cards ++ (q.count ∷ flat_map leg_values q.legs))

abbrev pub booking_values : Booking → List ℕ
booking_values r = r.entry ∷ r.till ∷ r.sequence ∷ number_of_status r.status ∷ (question_values r.question ++ r.parts)

abbrev pub booking_width : ℕ
booking_width = 36

abbrev pub booking_tells : Result Booking Refusal → Told
booking_tells r = tells_values booking_width booking_values r

-- AN ANSWER FOLLOWS AN ORDER OF CHECKS: it is refused by the first that fails, with all n values zero, and by no other; where none fails it is
-- answered with the values vs, and with no other.
pub record Follows (t : Told) (cs : List Check) (n : ℕ) (vs : List ℕ) : Type 0 where
  pub refused_by : (number place detail : ℕ) (us : List ℕ) → t ≡ refuses number place detail us → FirstIs cs number place detail × (us ≡ replicate n 0)
  pub first_refuses : (number place detail : ℕ) → FirstIs cs number place detail → t ≡ refuses number place detail (replicate n 0)
  pub answered_if : (us : List ℕ) → t ≡ answers us → AllPass cs × (us ≡ vs)
  pub passing_answers : AllPass cs → t ≡ answers vs
