-- THE TABLE OF NUMBERS that turn work away (document 01, 'Numbers that turn work away', and document 02, R-1 and R-13), by the calls that can tell them.
-- docs/refusals.tsv has the same table with a text for each number.
-- Assumes nothing.
use Rattle.std.specs.Prelude.{ℕ, ◌≡◌, true, List, [], ◌∷◌, ◌++◌, eqb}
use Rattle.common.specs.Lists.{any}
use Rattle.bundle.specs.Verdict.{verdict_of}
use Rattle.fares.specs.Fare.{fare_of}
use Rattle.fares.specs.declared.Question.{Question}
use Rattle.sales.specs.Sales.{sale_answer, cancel_answer}
use Rattle.sales.specs.Balances.{balance_answer, total_answer}
use Rattle.sales.specs.Reading.{count_answer, entry_answer, find_answer}
use Rattle.offers.specs.Answers.{Told, verdict_tells, fare_tells, receipt_tells, sum_tells, tally_tells, booking_tells}

-- a number is one of these
abbrev pub Among : List ℕ → ℕ → Type 0
Among ns k = any (eqb k) ns ≡ true

abbrev pub verdict_numbers : List ℕ
verdict_numbers = 1 ∷ 2 ∷ 3 ∷ 4 ∷ 5 ∷ 6 ∷ 7 ∷ []

abbrev pub fare_numbers : List ℕ
fare_numbers = verdict_numbers ++ (11 ∷ 17 ∷ 12 ∷ 13 ∷ 14 ∷ 15 ∷ [])

abbrev pub sale_numbers : List ℕ
sale_numbers = fare_numbers ++ (21 ∷ 22 ∷ 23 ∷ 24 ∷ [])

abbrev pub cancel_numbers : List ℕ
cancel_numbers = 21 ∷ 22 ∷ 25 ∷ []

abbrev pub balance_numbers : List ℕ
balance_numbers = 21 ∷ 11 ∷ []

abbrev pub total_numbers : List ℕ
total_numbers = 21 ∷ []

abbrev pub count_numbers : List ℕ
count_numbers = 21 ∷ []

abbrev pub entry_numbers : List ℕ
entry_numbers = 21 ∷ 25 ∷ []

abbrev pub find_numbers : List ℕ
find_numbers = 21 ∷ 22 ∷ 25 ∷ []

-- ALL OF THEM: a handset has a text for each. 16, a fare above 4,294,967,295 cents, went with R-13 and is never used again.
abbrev pub all_numbers : List ℕ
all_numbers = 1 ∷ 2 ∷ 3 ∷ 4 ∷ 5 ∷ 6 ∷ 7 ∷ 11 ∷ 12 ∷ 13 ∷ 14 ∷ 15 ∷ 17 ∷ 21 ∷ 22 ∷ 23 ∷ 24 ∷ 25 ∷ []

-- WHAT A CALL TELLS, whatever it is lent and asked: a case for each call
pub data CallTells : Told → Type 0 where
  by_verdict : (bundle : List ℕ) → CallTells (verdict_tells (verdict_of bundle))
  by_fare : (bundle : List ℕ) (q : Question) → CallTells (fare_tells (fare_of bundle q))
  by_sale : (book : List ℕ) (till sequence : ℕ) (bundle : List ℕ) (q : Question) → CallTells (receipt_tells (sale_answer book till sequence bundle q))
  by_cancel : (book : List ℕ) (till sequence : ℕ) → CallTells (receipt_tells (cancel_answer book till sequence))
  by_balance : (book : List ℕ) (railway : ℕ) → CallTells (sum_tells (balance_answer book railway))
  by_total : (book : List ℕ) → CallTells (sum_tells (total_answer book))
  by_count : (book : List ℕ) → CallTells (tally_tells (count_answer book))
  by_entry : (book : List ℕ) (i : ℕ) → CallTells (booking_tells (entry_answer book i))
  by_find : (book : List ℕ) (till sequence : ℕ) → CallTells (booking_tells (find_answer book till sequence))
