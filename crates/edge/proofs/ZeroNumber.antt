-- The number that C gets is 0 exactly where the call is answered: a refusal has a number of the table, and none of these is 0.
-- Assumes nothing.
use Prim.Native.Nat.{ℕ}
use mathlib.Core.Path.{◌≡◌, refl}
use mathlib.Core.List.{List}
use native.Mathlib.Omega.{arith}
use Rattle.std.specs.Prelude.{Result, Ok, Err}
use Rattle.common.specs.Lists.{any}
use Rattle.common.specs.Checks.{IsListed}
use Rattle.common.specs.declared.Refusal.{Refusal}
use Rattle.common.proofs.Tests.{never}
use Rattle.common.proofs.ReasonNumbers.{its_number_is_in_the_table}
use Rattle.fares.specs.Fare.{fare_of}
use Rattle.fares.specs.declared.Question.{Question}
use Rattle.bundle.specs.Verdict.{verdict_of}
use Rattle.sales.specs.Sales.{sale_answer, cancel_answer}
use Rattle.sales.specs.Balances.{balance_answer, total_answer}
use Rattle.sales.specs.Reading.{count_answer, entry_answer, find_answer}
use Rattle.sales.specs.declared.Booking.{Booking}
use Rattle.offers.specs.Answers.{verdict_tells, fare_tells, receipt_tells, sum_tells, tally_tells, tells_values, one_value, quote_values, receipt_values, booking_width, booking_values, booking_tells}
use Rattle.offers.proofs.Reasons.{the_reason_of_a_verdict, the_reason_of_a_fare, the_reason_of_a_sale, the_reason_of_a_cancellation, the_reason_of_a_balance, the_reason_of_a_total, the_reason_of_a_count, the_reason_of_an_entry, the_reason_of_a_find}
use Rattle.edge.specs.Replies.{number_in, judgement_reply, quote_reply, receipt_reply, sum_reply, tally_reply, booking_reply}
use Rattle.edge.specs.ZeroNumber.{ZeroIfAnswered}

-- of any answer that is refused, if at all, by a reason of the table
pub zero_if_told : {A : Type 0} (n : ℕ) (values : A → List ℕ) (r : Result A Refusal) → IsListed r
    → let t = tells_values n values r in ZeroIfAnswered (number_in t) t
unfolding tells_values any
zero_if_told n values (Ok a) listed = record { zero_is_answered = λ z. (values a, refl); answered_is_zero = λ vs e. refl }
zero_if_told n values (Err why) listed = record {
  zero_is_answered = λ z. never (rw z at (its_number_is_in_the_table why.reason (listed why refl))) refl;
  answered_is_zero = λ vs e. let z : ◌≡◌ {A = ℕ} 0 1 = cc in absurd (omega arith);
}

pub zero_if_judged : (bundle : List ℕ) → let t = verdict_tells (verdict_of bundle) in ZeroIfAnswered (judgement_reply t).number t
unfolding judgement_reply
zero_if_judged bundle = zero_if_told 1 one_value (verdict_of bundle) (the_reason_of_a_verdict bundle)

pub zero_if_priced : (bundle : List ℕ) (q : Question) → let t = fare_tells (fare_of bundle q) in ZeroIfAnswered (quote_reply t).number t
unfolding quote_reply
zero_if_priced bundle q = zero_if_told 9 quote_values (fare_of bundle q) (the_reason_of_a_fare bundle q)

pub zero_if_sold : (book : List ℕ) (till sequence : ℕ) (bundle : List ℕ) (q : Question) → let t = receipt_tells (sale_answer book till sequence bundle q) in
    ZeroIfAnswered (receipt_reply t).number t
unfolding receipt_reply
zero_if_sold book till sequence bundle q =
    zero_if_told 10 receipt_values (sale_answer book till sequence bundle q) (the_reason_of_a_sale book till sequence bundle q)

pub zero_if_cancelled : (book : List ℕ) (till sequence : ℕ) → let t = receipt_tells (cancel_answer book till sequence) in ZeroIfAnswered (receipt_reply t).number t
unfolding receipt_reply
zero_if_cancelled book till sequence = zero_if_told 10 receipt_values (cancel_answer book till sequence) (the_reason_of_a_cancellation book till sequence)

pub zero_if_balanced : (book : List ℕ) (railway : ℕ) → let t = sum_tells (balance_answer book railway) in ZeroIfAnswered (sum_reply t).number t
unfolding sum_reply
zero_if_balanced book railway = zero_if_told 1 one_value (balance_answer book railway) (the_reason_of_a_balance book railway)

pub zero_if_totalled : (book : List ℕ) → let t = sum_tells (total_answer book) in ZeroIfAnswered (sum_reply t).number t
unfolding sum_reply
zero_if_totalled book = zero_if_told 1 one_value (total_answer book) (the_reason_of_a_total book)

pub zero_if_counted : (book : List ℕ) → let t = tally_tells (count_answer book) in ZeroIfAnswered (tally_reply t).number t
unfolding tally_reply
zero_if_counted book = zero_if_told 1 one_value (count_answer book) (the_reason_of_a_count book)

-- the refusal that a reply for a sale has is the one that is told
told_refusal : (b : Result Booking Refusal) → (booking_reply b).number ≡ number_in (booking_tells b)
unfolding booking_reply tells_values
told_refusal (Ok sale) = refl
told_refusal (Err why) = refl

pub zero_if_booking : (b : Result Booking Refusal) → IsListed b → ZeroIfAnswered (booking_reply b).number (booking_tells b)
zero_if_booking b listed = rw (told_refusal b) (zero_if_told booking_width booking_values b listed)

pub zero_if_listed : (book : List ℕ) (i : ℕ) → let b = entry_answer book i in ZeroIfAnswered (booking_reply b).number (booking_tells b)
zero_if_listed book i = zero_if_booking (entry_answer book i) (the_reason_of_an_entry book i)

pub zero_if_found : (book : List ℕ) (till sequence : ℕ) → let b = find_answer book till sequence in ZeroIfAnswered (booking_reply b).number (booking_tells b)
zero_if_found book till sequence = zero_if_booking (find_answer book till sequence) (the_reason_of_a_find book till sequence)
