-- EVERY FIGURE of the list holds: antt computes each. (Modules are checked by their names, so that a wrong version fails here first, by its number.)
-- Assumes nothing.
use mathlib.Core.Path.{refl}
use mathlib.Core.List.{Memᴰ, flat_map}
use Rattle.common.specs.Least.{least}
use Rattle.common.specs.Lists.{every, any, only, same, sum, first_of}
use Rattle.common.specs.Rising.{insert, insert_all}
use Rattle.common.specs.Digits.{digits_after, number_of}
use Rattle.common.specs.Checks.{first_fault, each_from}
use Rattle.common.proofs.Listed.{each}
use Rattle.layout.specs.Company.{is_company, is_all_railways, is_transferor, company_of, is_railway}
use Rattle.layout.specs.Dates.{is_day, month_length, month_lengths}
use Rattle.layout.specs.Layout.{length_of, end_of, table_at}
use Rattle.layout.specs.Fields.{row_with, row_of, bytes_of, byte_of, number_in, is_yes, transferor_of, offer_of, railway_of, code_of, code_fits, same_key, day_row, has_period, first_day, last_day, holds_day, first_shared, last_shared, share_day, grant_in}
use Rattle.layout.specs.Rules.{number_or_blank, most_persons, factor_rule, first_day_rule, last_day_rule, ruled, kept_beside, keeps_row, first_broken, broken_field}
use Rattle.bundle.specs.Records.{table_of, step_of, records_from, rest_from, records_of, rest_of}
use Rattle.bundle.specs.Keys.{other_transferor, clash, earlier_of}
use Rattle.bundle.specs.Links.{link_rows, is_asked, railway_serves, joins, serves, missing_link}
use Rattle.choice.specs.Choice.{is_of, choice_of}
use Rattle.bundle.specs.Samples.{digits, period, year, conditions_in, named_in, card_in}
use Rattle.bundle.specs.Verdict.{first_pass, second_pass, checks}
use Rattle.fares.specs.Question.{cards_in_limits, cards_differ, in_limits}
use Rattle.fares.specs.Rounding.{rounded, upwards, downwards, nearest}
use Rattle.fares.specs.Reductions.{reduce_by, reduce_all}
use Rattle.fares.specs.Cards.{least_from, after_cards}
use Rattle.fares.specs.Legs.{cards_for, persons_fit, unread, part_by}
use Rattle.fares.specs.Fare.{parts_of, price_checks, fare_checks, fare_of}
use Rattle.fares.specs.Figures.{Figure, Says, figures}

-- THE FIGURES
pub fare_figures_hold : (x : Figure) → Memᴰ x figures → Says x
unfolding least every any only same sum first_of digits_after number_of first_fault each_from is_company is_all_railways is_transferor company_of is_railway is_day month_length month_lengths length_of end_of table_at row_with row_of bytes_of byte_of number_in is_yes transferor_of offer_of railway_of code_of code_fits same_key day_row has_period first_day last_day holds_day first_shared last_shared share_day grant_in number_or_blank most_persons factor_rule first_day_rule last_day_rule ruled kept_beside keeps_row first_broken broken_field table_of step_of records_from rest_from records_of rest_of other_transferor clash earlier_of link_rows is_asked railway_serves joins serves missing_link is_of choice_of first_pass second_pass checks cards_in_limits cards_differ in_limits rounded upwards downwards nearest reduce_by reduce_all insert insert_all flat_map least_from after_cards cards_for persons_fit unread part_by parts_of price_checks fare_checks fare_of digits period year conditions_in named_in card_in
fare_figures_hold = each Says figures (refl, (refl, (refl, (refl, (refl, (refl, (refl, (refl, (refl, (refl, (refl, (refl, (refl, (refl, (refl, (refl, (refl, (refl, (refl, (refl, (refl, (refl, (refl, (refl, (refl, (refl, (refl, (refl, (refl, (refl, (refl, (refl, (refl, (refl, (refl, (refl, (refl, (refl, (refl, (refl, (refl, (refl, (refl, (refl, (refl, (refl, (refl, (refl, (refl, (refl, (refl, (refl, (refl, (refl, (refl, (refl, (refl, (refl, tt))))))))))))))))))))))))))))))))))))))))))))))))))))))))))
