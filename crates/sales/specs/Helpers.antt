-- Short names that contracts of inner functions and proofs use. Nothing here has to be believed: no contract of the engine's calls and no promise reaches it.
-- Assumes nothing.
use Rattle.std.specs.Prelude.{ℕ, cond, List, Result, Ok, Err}
use Rattle.common.specs.declared.reasons.Reason.TheVariants.{NumberTaken}
use Rattle.common.specs.Lists.{same}
use Rattle.common.specs.declared.Refusal.{Refusal}
use Rattle.common.specs.Checks.{refuse, unless, first_fault}
use Rattle.bundle.specs.Records.{records_of}
use Rattle.fares.specs.Fare.{parts_of, fare_checks}
use Rattle.fares.specs.declared.Question.{Question}
use Rattle.book.specs.Words.{Entry, question_words}
use Rattle.book.specs.Status.{status_of}
use Rattle.sales.specs.Sales.{receipt, place, cancel_checks}
use Rattle.sales.specs.declared.Outcome.TheVariants.{Booked, AlreadyBooked}
use Rattle.sales.specs.declared.Receipt.{Receipt}

-- WHERE a number stands, if a cancellation finds it
unfoldable pub looked_up : List ℕ → ℕ → ℕ → Result ℕ Refusal
looked_up book till sequence = unless (first_fault (cancel_checks book till sequence)) (place book till sequence)

-- THE ANSWER on a number that is in the book, and on a new one, in a book that is sound
unfoldable pub again_answer : Entry → ℕ → Question → Result Receipt Refusal
again_answer e i q = cond (same e.asked (question_words q)) (Ok (receipt (AlreadyBooked (status_of e.status)) e.parts)) (Err (refuse NumberTaken i 0))

unfoldable pub first_answer : List ℕ → Question → Result Receipt Refusal
first_answer bundle q = unless (first_fault (fare_checks bundle q)) (receipt Booked (parts_of (records_of bundle) q))
