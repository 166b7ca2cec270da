-- EVERY FIGURE of the list holds: antt computes each verdict.
-- Assumes nothing.
use mathlib.Core.Path.{refl}
use mathlib.Core.List.{Memᴰ}
use Rattle.common.specs.Least.{least}
use Rattle.common.specs.Lists.{every, any, same}
use Rattle.common.specs.Digits.{digits_after, number_of}
use Rattle.common.specs.Checks.{first_fault, each_from}
use Rattle.common.proofs.Listed.{each}
use Rattle.layout.specs.Company.{is_company, is_all_railways, is_transferor}
use Rattle.layout.specs.Dates.{is_day, month_length, month_lengths}
use Rattle.layout.specs.Layout.{length_of, end_of, table_at}
use Rattle.layout.specs.Fields.{row_with, row_of, bytes_of, byte_of, is_yes, transferor_of, offer_of, railway_of, code_of, same_key, day_row, first_day, last_day, first_shared, last_shared, share_day}
use Rattle.layout.specs.Rules.{number_or_blank, most_persons, factor_rule, first_day_rule, last_day_rule, ruled, kept_beside, keeps_row, first_broken, broken_field}
use Rattle.bundle.specs.Records.{table_of, step_of, records_from, rest_from, records_of, rest_of}
use Rattle.bundle.specs.Keys.{other_transferor, clash, earlier_of}
use Rattle.bundle.specs.Links.{link_rows, is_asked, railway_serves, joins, serves, missing_link}
use Rattle.bundle.specs.Samples.{digits, period, year, conditions_in, named_in, memo, card_in}
use Rattle.bundle.specs.Verdict.{first_pass, second_pass, checks, verdict_of}
use Rattle.bundle.specs.Figures.{Figure, Says, figures}

-- THE FIGURES
pub verdict_figures_hold : (x : Figure) → Memᴰ x figures → Says x
unfolding least every any same digits_after number_of first_fault each_from is_company is_all_railways is_transferor is_day month_length month_lengths length_of end_of table_at row_with row_of bytes_of byte_of is_yes transferor_of offer_of railway_of code_of same_key day_row first_day last_day first_shared last_shared share_day number_or_blank most_persons factor_rule first_day_rule last_day_rule ruled kept_beside keeps_row first_broken broken_field table_of step_of records_from rest_from records_of rest_of other_transferor clash earlier_of link_rows is_asked railway_serves joins serves missing_link first_pass second_pass checks digits period year conditions_in named_in memo card_in verdict_of
verdict_figures_hold = each Says figures (refl, (refl, (refl, (refl, (refl, (refl, (refl, (refl, (refl, (refl, (refl, (refl, (refl, (refl, (refl, (refl, (refl, (refl, (refl, (refl, (refl, (refl, (refl, (refl, (refl, tt)))))))))))))))))))))))))
