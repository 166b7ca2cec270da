-- The reason of each refusal, and that what is told says it.
-- Assumes nothing.
use Prim.Native.Nat.{ℕ}
use mathlib.Core.Path.{◌≡◌, refl}
use mathlib.Core.Bool.{true}
use mathlib.Core.List.{List}
use Rattle.std.specs.Prelude.{Result, Ok, Err}
use Rattle.common.specs.Reasons.{number_of_reason, is_listed}
use Rattle.common.specs.declared.reasons.Reason.{Reason}
use Rattle.common.specs.Checks.{refuse, IsListed}
use Rattle.common.specs.declared.Refusal.{Refusal}
use Rattle.common.proofs.ReasonNumbers.{a_number_has_one_reason}
use Rattle.common.proofs.Checks.{refused_listed}
use Rattle.bundle.specs.Verdict.{checks, verdict_of}
use Rattle.fares.specs.Fare.{fare_checks, fare_of}
use Rattle.fares.specs.declared.Question.{Question}
use Rattle.sales.specs.Sales.{sale_checks, sale_answer, cancel_checks, cancel_answer}
use Rattle.sales.specs.Balances.{balance_checks, total_checks, balance_answer, total_answer}
use Rattle.sales.specs.Reading.{count_checks, entry_checks, count_answer, entry_answer, find_answer}
use Rattle.sales.specs.Helpers.{looked_up}
use Rattle.offers.specs.Answers.{refuses, tells_values}
use Rattle.offers.specs.Numbers.{verdict_numbers, fare_numbers, sale_numbers, cancel_numbers, balance_numbers, total_numbers, count_numbers, entry_numbers}
use Rattle.offers.proofs.Orders.{verdict_numbers_lem, fare_numbers_lem, sale_numbers_lem, cancel_numbers_lem, balance_numbers_lem, total_numbers_lem, count_numbers_lem, entry_numbers_lem}

-- NO CALL IS REFUSED BY A REASON that is not in the table, whatever it is lent and asked; nor is the search for the place of a number.
module _ (bundle : List ℕ) where
  pub the_reason_of_a_verdict : IsListed (verdict_of bundle)
  unfolding verdict_of
  the_reason_of_a_verdict = refused_listed verdict_numbers (checks bundle) (verdict_numbers_lem bundle) _

  pub the_reason_of_a_fare : (q : Question) → IsListed (fare_of bundle q)
  unfolding fare_of
  the_reason_of_a_fare q = refused_listed fare_numbers (fare_checks bundle q) (fare_numbers_lem bundle q) _

module _ (book : List ℕ) where
  module _ (till sequence : ℕ) where
    pub the_reason_of_a_sale : (bundle : List ℕ) (q : Question) → IsListed (sale_answer book till sequence bundle q)
    unfolding sale_answer
    the_reason_of_a_sale bundle q = refused_listed sale_numbers (sale_checks book till sequence bundle q) (sale_numbers_lem bundle book till sequence q) _

    pub the_reason_of_a_cancellation : IsListed (cancel_answer book till sequence)
    unfolding cancel_answer
    the_reason_of_a_cancellation = refused_listed cancel_numbers (cancel_checks book till sequence) (cancel_numbers_lem book till sequence) _

    pub the_reason_of_a_find : IsListed (find_answer book till sequence)
    unfolding find_answer
    the_reason_of_a_find = refused_listed cancel_numbers (cancel_checks book till sequence) (cancel_numbers_lem book till sequence) _

    pub the_reason_of_a_place : IsListed (looked_up book till sequence)
    unfolding looked_up
    the_reason_of_a_place = refused_listed cancel_numbers (cancel_checks book till sequence) (cancel_numbers_lem book till sequence) _

  pub the_reason_of_a_balance : (railway : ℕ) → IsListed (balance_answer book railway)
  unfolding balance_answer
  the_reason_of_a_balance railway = refused_listed balance_numbers (balance_checks book railway) (balance_numbers_lem book railway) _

  pub the_reason_of_a_total : IsListed (total_answer book)
  unfolding total_answer
  the_reason_of_a_total = refused_listed total_numbers (total_checks book) (total_numbers_lem book) _

  pub the_reason_of_a_count : IsListed (count_answer book)
  unfolding count_answer
  the_reason_of_a_count = refused_listed count_numbers (count_checks book) (count_numbers_lem book) _

  pub the_reason_of_an_entry : (i : ℕ) → IsListed (entry_answer book i)
  unfolding entry_answer
  the_reason_of_an_entry i = refused_listed entry_numbers (entry_checks book i) (entry_numbers_lem book i) _

-- SO THE NUMBER THAT IS TOLD says the reason: an answer that is refused by a reason of the table, if at all, is refused by the one whose number is told.
pub told_by_its_reason : {A : Type 0} (n : ℕ) (values : A → List ℕ) (r : Result A Refusal) → IsListed r → (k : Reason) → is_listed k ≡ true
    → (place detail : ℕ) (us : List ℕ) → tells_values n values r ≡ refuses (number_of_reason k) place detail us → r ≡ Err (refuse k place detail)
unfolding tells_values
told_by_its_reason n values (Ok a) listed k x place detail us e = absurd (cc e)
told_by_its_reason n values (Err why) listed k x place detail us e =
    let q : why.reason ≡ k = a_number_has_one_reason why.reason k (listed why refl) x cc in
    let p : why.place ≡ place = cc in
    let d : why.detail ≡ detail = cc in
    λ j. Err (refuse (q j) (p j) (d j))
