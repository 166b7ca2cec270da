-- THE DAY of document 01's book: the fare is computed, and what the calls answer follows from it, as the history tells it.
-- Assumes nothing.
use Prim.Native.Nat.{ℕ}
use mathlib.Core.Path.{◌≡◌, refl, ◌∙◌, ap}
use mathlib.Core.List.{List, [], ◌∷◌, flat_map}
use native.Mathlib.Omega.{arith}
use Rattle.std.specs.Prelude.{Ok}
use Rattle.common.specs.Least.{least}
use Rattle.common.specs.Lists.{every, any, only, same, sum, first_of, up_to}
use Rattle.common.specs.Rising.{insert, insert_all}
use Rattle.common.specs.Digits.{digits_after, number_of}
use Rattle.common.specs.Checks.{first_fault, each_from}
use Rattle.layout.specs.Company.{is_company, is_all_railways, is_transferor, company_of, is_railway}
use Rattle.layout.specs.Dates.{is_day, month_length, month_lengths}
use Rattle.layout.specs.Layout.{length_of, end_of, table_at}
use Rattle.layout.specs.Fields.{row_with, row_of, bytes_of, byte_of, number_in, is_yes, transferor_of, offer_of, railway_of, code_of, code_fits, same_key, day_row, has_period, first_day, last_day, holds_day, first_shared, last_shared, share_day, grant_in}
use Rattle.layout.specs.Rules.{number_or_blank, most_persons, factor_rule, first_day_rule, last_day_rule, ruled, kept_beside, keeps_row, first_broken, broken_field}
use Rattle.bundle.specs.Records.{table_of, step_of, records_from, rest_from, records_of, rest_of}
use Rattle.bundle.specs.Keys.{other_transferor, clash, earlier_of}
use Rattle.bundle.specs.Links.{link_rows, is_asked, railway_serves, joins, serves, missing_link}
use Rattle.choice.specs.Choice.{is_of, choice_of}
use Rattle.bundle.specs.Samples.{digits, period, year, conditions_in, named_in, card_in}
use Rattle.bundle.specs.Verdict.{first_pass, second_pass, checks}
use Rattle.fares.specs.Question.{cards_in_limits, cards_differ, in_limits}
use Rattle.fares.specs.Rounding.{rounded, upwards, downwards, nearest}
use Rattle.fares.specs.Reductions.{reduce_by, reduce_all}
use Rattle.fares.specs.Cards.{least_from, after_cards}
use Rattle.fares.specs.Legs.{cards_for, persons_fit, unread, part_by}
use Rattle.fares.specs.Fare.{parts_of, price_checks, fare_checks, priced, fare_of}
use Rattle.book.specs.Due.{due_from, carried_by, any_leg}
use Rattle.book.specs.SameQuestion.{SameQuestion}
use Rattle.book.specs.declared.status.Status.{Status}
use Rattle.book.specs.declared.status.Status.TheVariants as status
use Rattle.sales.specs.Sales.{receipt, sale_answer}
use Rattle.sales.specs.History.{Op, cancel, empty_book, after, cancelled_in, booked_by, books, owed}
use Rattle.sales.specs.Figures.{number, bundle, asked, parts, sold, Owes, Sells, Day}
use Rattle.sales.specs.declared.Outcome.TheVariants.{Booked, AlreadyBooked, Cancelled}
use Rattle.sales.proofs.BalanceIsOwed.{balance_told, total_told}
use Rattle.sales.proofs.SentFirst.{first_is_booked}
use Rattle.sales.proofs.SentAgain.{told_first, cancel_told}

-- THE FARE, computed
priced_parts : (fare_of bundle asked ≡ Ok (priced parts)) × (parts_of (records_of bundle) asked ≡ parts)
unfolding least every any only same sum first_of digits_after number_of first_fault each_from is_company is_all_railways is_transferor company_of is_railway is_day month_length month_lengths length_of end_of table_at row_with row_of bytes_of byte_of number_in is_yes transferor_of offer_of railway_of code_of code_fits same_key day_row has_period first_day last_day holds_day first_shared last_shared share_day grant_in number_or_blank most_persons factor_rule first_day_rule last_day_rule ruled kept_beside keeps_row first_broken broken_field table_of step_of records_from rest_from records_of rest_of other_transferor clash earlier_of link_rows is_asked railway_serves joins serves missing_link is_of choice_of first_pass second_pass checks cards_in_limits cards_differ in_limits rounded upwards downwards nearest reduce_by reduce_all insert insert_all flat_map least_from after_cards cards_for persons_fit unread part_by parts_of price_checks fare_checks fare_of digits period year conditions_in named_in card_in
priced_parts = (refl, refl)

-- WHAT IS OWED after some operations, computed from the fare
owed_then : (ops : List Op) {first second all : ℕ} → owed (carried_by 1185) [] ops ≡ first → owed (carried_by 1181) [] ops ≡ second → owed any_leg [] ops ≡ all → Owes ops first second all
owed_then ops a b c =
    record {
      to_first = balance_told ops 1185 (omega arith) (omega arith) ∙ ap Ok a;
      to_second = balance_told ops 1181 (omega arith) (omega arith) ∙ ap Ok b;
      to_all = total_told ops ∙ ap Ok c;
    }

first_booked : Sells [] Booked
unfolding booked_by any after
first_booked = first_is_booked [] number refl refl bundle asked (omega arith) (priced parts) priced_parts.0

same_asked : SameQuestion asked asked
same_asked = record { offer = refl; day = refl; persons = refl; cards = λ k l. refl; count = refl; railways = λ k l. refl; fares = λ k l. refl }

module _ (more : List Op) where
  again : (status : Status) → sale_answer (after empty_book (sold ∷ more)) 1 1 bundle asked ≡ Ok (receipt (AlreadyBooked status) (parts_of (records_of bundle) asked)) → Sells (sold ∷ more) (AlreadyBooked status)
  again status e = e ∙ ap (λ x. Ok (receipt (AlreadyBooked status) x)) priced_parts.1

pub the_day : Day
unfolding cancelled_in owed books due_from up_to least every any only same sum first_of digits_after number_of first_fault each_from is_company is_all_railways is_transferor company_of is_railway is_day month_length month_lengths length_of end_of table_at row_with row_of bytes_of byte_of number_in is_yes transferor_of offer_of railway_of code_of code_fits same_key day_row has_period first_day last_day holds_day first_shared last_shared share_day grant_in number_or_blank most_persons factor_rule first_day_rule last_day_rule ruled kept_beside keeps_row first_broken broken_field table_of step_of records_from rest_from records_of rest_of other_transferor clash earlier_of link_rows is_asked railway_serves joins serves missing_link is_of choice_of first_pass second_pass checks cards_in_limits cards_differ in_limits rounded upwards downwards nearest reduce_by reduce_all insert insert_all flat_map least_from after_cards cards_for persons_fit unread part_by parts_of price_checks fare_checks fare_of digits period year conditions_in named_in card_in
the_day =
    record {
      sale_first = first_booked;
      owes_first = owed_then (sold ∷ []) refl refl refl;
      sent_again = again [] status.Live (told_first [] number bundle asked [] first_booked refl bundle asked same_asked);
      owes_again = owed_then (sold ∷ sold ∷ []) refl refl refl;
      is_cancelled_lem = cancel_told [] number bundle asked (sold ∷ []) first_booked refl ∙ ap (λ x. Ok (receipt Cancelled x)) priced_parts.1;
      owes_nothing = owed_then (sold ∷ sold ∷ cancel number ∷ []) refl refl refl;
      sent_late = again (sold ∷ cancel number ∷ []) status.Cancelled (told_first [] number bundle asked (sold ∷ cancel number ∷ []) first_booked refl bundle asked same_asked);
      owes_still_nothing = owed_then (sold ∷ sold ∷ cancel number ∷ sold ∷ []) refl refl refl;
    }
