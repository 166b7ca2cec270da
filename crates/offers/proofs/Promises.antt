-- THE PROMISES, demand by demand, in the words of the railway: what a bundle, a record, a field, a fare, a sale and a book are, with no search and no loop in
-- them. docs/PROMISES.md reads them out. `Orders` holds each call to its order of checks besides, and `OneAnswer` says of the contracts themselves that no
-- second answer meets them.
-- Assumes nothing.
use Prim.Native.Nat.{ℕ, ◌+◌, ◌*◌, ◌≤◌, ◌<◌}
use mathlib.Core.Path.{◌≡◌, refl, sym, ◌∙◌, ap}
use mathlib.Core.Bool.{Bool, true, false, cond}
use mathlib.Core.List.{List, [], ◌∷◌, ◌++◌, Memᴰ}
use mathlib.Core.Logic.{◌↔◌, ◌⊎◌, inl, inr, ⊎_elim}
use native.Mathlib.Nat.{mul-le-mul_left, mul-le-mul_right, le_trans}
use native.Mathlib.Omega.{arith}
use lib.Dec.{eqb}
use lib.ListN.{length, get_or, replicate}
use borrow.Author.Tests.{le-leb}
use Rattle.std.specs.Prelude.{Result, Ok, Err}
use Rattle.common.specs.Reasons.{number_of_reason}
use Rattle.common.specs.Lists.{every, any, sum, up_to}
use Rattle.common.specs.declared.Refusal.{Refusal}
use Rattle.common.proofs.Lists.{upto_same}
use Rattle.common.proofs.Tests.{both_true, in_range}
use Rattle.layout.specs.Layout.{CO, AR, ME, table_at, length_of}
use Rattle.layout.specs.declared.Table.{Table}
use Rattle.layout.specs.Fields.{row_of, bytes_of, of_offers, transferor_of, offer_of, railway_of, first_shared}
use Rattle.layout.specs.Rules.{keeps_row, keeps_rules}
use Rattle.layout.specs.Dates.{month_length, is_day}
use Rattle.layout.specs.Calendar.{LeapYears, Months, DayBy, RealDay}
use Rattle.layout.specs.MonthRule.{length_by_rule}
use Rattle.layout.specs.Values.{Field, values, Means, Readings, Railways, InPeriod, Share}
use Rattle.layout.specs.Figures as layout
use Rattle.layout.proofs.Tables.{transferor_stands, offer_stands, railway_stands}
use Rattle.layout.proofs.Calendar.{leap_years, months, a_day_is_real, real_is_a_day}
use Rattle.layout.proofs.MonthRule.{rule_agrees}
use Rattle.layout.proofs.Values.{values_hold, kept_by_its_values}
use Rattle.layout.proofs.Readings.{readings, railways}
use Rattle.layout.proofs.Periods.{first_of_shared}
use Rattle.layout.proofs.Figures.{layout_figures_hold}
use Rattle.bundle.specs.Records.{Rec, records_of, rest_of}
use Rattle.bundle.specs.Verdict.{verdict_of}
use Rattle.bundle.specs.Meaning.{record_at, SameKey, HoldsDay, Good}
use Rattle.bundle.specs.Faults.{Cut, Fault}
use Rattle.bundle.specs.Before.{GoodBefore, NoKeyTwice}
use Rattle.choice.specs.Chosen.{Valid, Uses}
use Rattle.choice.specs.Choice.{for_legs}
use Rattle.bundle.specs.Figures as verdicts
use Rattle.choice.proofs.Unique.{one_a_day, only_one}
use Rattle.choice.proofs.Chosen.{uses_one}
use Rattle.bundle.proofs.CutAndJoin.{cut_means, cut_only}
use Rattle.bundle.proofs.Meaning.{accepted_good, good_accepted}
use Rattle.bundle.proofs.Faults.{refused_fault, fault_refused}
use Rattle.bundle.proofs.Before.{before_good, good_before}
use Rattle.bundle.proofs.Computed.{verdict_figures_hold}
use Rattle.fares.specs.Rounding.{IsRounded}
use Rattle.fares.specs.Fare.{fare_of}
use Rattle.fares.specs.Question.{between, card_slots, cards_of, cards_differ, in_limits}
use Rattle.fares.specs.Reductions.{greater, part_bound, greatest_part}
use Rattle.fares.specs.Meaning.{card_at, with_cards, SameCards, InLimits, CardsDiffer, Applies, AllTogether, Permitted, After, AfterCards, LegFare, IsFare, NoFare}
use Rattle.fares.specs.OneCard.{OneCard, base_fare}
use Rattle.fares.specs.Figures as fares
use Rattle.fares.specs.declared.Leg.{Leg}
use Rattle.fares.specs.declared.Question.{Question}
use Rattle.fares.specs.declared.Quote.{Quote}
use Rattle.fares.proofs.RoundLaws.{nothing_left}
use Rattle.fares.proofs.LegLaws.{bound_most}
use Rattle.fares.proofs.RecordMeaning.{rounded_only}
use Rattle.fares.proofs.RecordsApplied.{order_only}
use Rattle.fares.proofs.PermittedMeaning.{not_above, by_one, one_amount, leaves_some, applying_permitted}
use Rattle.fares.proofs.QuestionLimits.{limits_mean, means_limits}
use Rattle.fares.proofs.CardSlots.{differ_means, means_differ}
use Rattle.fares.proofs.Meaning.{fare_means, means_fare, no_fare_means, means_no_fare, part_bounded, fare_bounded}
use Rattle.fares.proofs.OneCard.{fare_is}
use Rattle.fares.proofs.CardOrder.{any_order}
use Rattle.fares.proofs.Computed.{fare_figures_hold}
use Rattle.book.specs.Words.{Entry, cards_at, count_of, entry_at, entries, question_of}
use Rattle.book.specs.Status.{number_of_status}
use Rattle.book.specs.declared.status.Status.TheVariants as status
use Rattle.book.specs.Due.{carried_by, any_leg, due_in}
use Rattle.book.specs.Meaning.{asked_word, cards_in, Sound, Holds, HeldNowhere}
use Rattle.book.specs.Places.{given, Places, Says, Kept}
use Rattle.book.specs.SameQuestion.{SameQuestion}
use Rattle.book.specs.Sound.{sound_words}
use Rattle.book.specs.OneCard.{OneCardBook, base_sound}
use Rattle.book.proofs.BookMeaning.{sound_means, means_sound}
use Rattle.book.proofs.SoundBook.{is_sound, sound_is}
use Rattle.book.proofs.AmountsAreDue.{balance_due, total_due}
use Rattle.book.proofs.TotalIsSum.{total_is_sum}
use Rattle.book.proofs.OneCard.{base_means, means_base}
use Rattle.book.proofs.Places.{the_places, entry_says, book_kept, question_cards, entry_cards}
use Rattle.sales.specs.Sales.{sale_answer, sale_words, cancel_answer, cancel_words}
use Rattle.sales.specs.Balances.{balance_answer, total_answer}
use Rattle.sales.specs.OneCard.{OneCardOps, base_after, base_sale, base_sale_words, base_cancel, base_cancel_words, base_balance, base_total}
use Rattle.sales.specs.History.{Number, Op, sale, empty_book, after, cancelled_in, booked_by, owed, is_in, is_number}
use Rattle.sales.proofs.BalanceIsOwed.{stays_sound, balance_told, total_told}
use Rattle.sales.proofs.InAnyBook.{book_balance, no_railway, book_total, sale_without_number, cancel_without_number, status_at, same_sale, other_sale, known_cancel, unknown_cancel, sale_when_full, sale_booked, sale_refused}
use Rattle.sales.specs.declared.Receipt.{Receipt}
use Rattle.sales.specs.declared.Outcome.TheVariants.{Cancelled, AlreadyCancelled}
use Rattle.sales.specs.Figures.{Day}
use Rattle.sales.proofs.Computed.{the_day}
use Rattle.sales.proofs.Unsound.{unsound_sale, unsound_cancel, unsound_balance, unsound_total}
use Rattle.sales.proofs.SentFirst.{always_meant, unknown_is_told, full_is_told, first_is_booked, first_is_refused}
use Rattle.sales.proofs.SentAgain.{told_first, refused_other, nothing_changes, cancel_told}
use Rattle.sales.proofs.OneCard.{same_sale as sold-as-it-was, same_sale_words, same_cancel, same_cancel_words, same_balance, same_total}
use Rattle.sales.proofs.OneCardHistory.{same_after, empty_before}
use Rattle.sales.proofs.AnswersByCase.{not_booked_stays, not_cancelled_stays, refused_stays, refused_cancel_stays}
use Rattle.offers.specs.Answers.{Told, answers, refuses, tells_values, one_value, verdict_tells, quote_values, fare_tells, booked, already_booked, cancelled, already_cancelled, outcome_values, receipt_tells, sum_tells}
use Rattle.offers.proofs.Orders.{told_err, told_refused, told_accepted, told_priced, told_booked, first_parts, booked_told, cancelled_told}

-- DEMAND 2, a bundle. Its records are the whole ones that stand one after the other from its start, and there is one way to cut it so.
pub the_records_of_a_bundle : (bundle : List ℕ) → Cut bundle (records_of bundle) (rest_of bundle)
the_records_of_a_bundle = cut_means

pub there_is_no_other_cut : (bundle : List ℕ) (R : List Rec) (rest : List ℕ) → Cut bundle R rest → (records_of bundle ≡ R) × (rest_of bundle ≡ rest)
there_is_no_other_cut = cut_only

-- It is accepted with n only if it is n records that keep every rule, and if it is;
pub accepted_keeps_the_rules : (bundle : List ℕ) (n : ℕ) → verdict_tells (verdict_of bundle) ≡ answers (n ∷ []) → Good bundle (records_of bundle) × (length (records_of bundle) ≡ n)
accepted_keeps_the_rules bundle n e = accepted_good bundle n (told_accepted (verdict_of bundle) n e)

pub keeping_the_rules_is_accepted : (bundle : List ℕ) (R : List Rec) → Good bundle R → verdict_tells (verdict_of bundle) ≡ answers (length R ∷ [])
unfolding tells_values
keeping_the_rules_is_accepted bundle R g = rw (good_accepted bundle R g)

-- it is refused only if the record of that place breaks that rule and none before it breaks any, and if it does.
pub a_refusal_names_the_first_fault : (bundle : List ℕ) (number place detail : ℕ) (us : List ℕ) → verdict_tells (verdict_of bundle) ≡ refuses number place detail us
    → Fault bundle (records_of bundle) (rest_of bundle) number place detail
a_refusal_names_the_first_fault bundle number place detail us e =
    told_err 1 one_value (Fault bundle (records_of bundle) (rest_of bundle)) (verdict_of bundle) (refused_fault bundle) e

pub the_first_fault_is_refused : (bundle : List ℕ) (R : List Rec) (rest : List ℕ) → Cut bundle R rest → (number place detail : ℕ)
    → Fault bundle R rest number place detail → verdict_tells (verdict_of bundle) ≡ refuses number place detail (0 ∷ [])
the_first_fault_is_refused bundle R rest c n p d f = told_refused 1 one_value (verdict_of bundle) (fault_refused bundle R rest c n p d f)

-- A FIELD keeps its rule exactly if it says what it may, and A RECORD keeps its rules exactly if each of its fields does. What is read off it is what its bytes say.
pub a_field_keeps_its_rule_by_its_value : (p : Field) → Memᴰ p values → (body : List ℕ) → length body ≡ length_of p.table
    → (keeps_row p.table body (row_of p.table p.field) ≡ true) ↔ Means p.table p.field body p.value
a_field_keeps_its_rule_by_its_value = values_hold

pub a_record_keeps_its_rules_by_its_values : (t : Table) (body : List ℕ) → length body ≡ length_of t
    → (keeps_rules t body ≡ true) ↔ ((p : Field) → Memᴰ p values → p.table ≡ t → Means t p.field body p.value)
a_record_keeps_its_rules_by_its_values = kept_by_its_values

pub what_is_read_off_a_record : (body : List ℕ) → Readings body
what_is_read_off_a_record = readings

pub the_railways : Railways
the_railways = railways

-- In every table the transferor, and in every table of offers the offer and the railway, stand where CO has them.
pub the_transferor_stands_alike : (t : Table) (body : List ℕ) → bytes_of t 1 body ≡ transferor_of body
the_transferor_stands_alike = transferor_stands

pub the_offer_stands_alike : (t : Table) → of_offers t ≡ true → (body : List ℕ) → bytes_of t 2 body ≡ offer_of body
the_offer_stands_alike = offer_stands

pub the_railway_stands_alike : (t : Table) → of_offers t ≡ true → (body : List ℕ) → bytes_of t 3 body ≡ railway_of body
the_railway_stands_alike = railway_stands

-- A DAY is a real one of the Gregorian calendar.
pub the_leap_years : LeapYears
the_leap_years = leap_years

pub the_months : Months
the_months = months

pub the_rule_and_the_table_agree : (year month day : ℕ) → DayBy length_by_rule year month day ↔ DayBy month_length year month day
the_rule_and_the_table_agree = rule_agrees

pub a_day_is_a_real_one : (d : ℕ) → (is_day d ≡ true) ↔ RealDay d
a_day_is_a_real_one d = (a_day_is_real d, real_is_a_day d)

-- SUMMER AND WINTER. In a bundle that keeps the rules at most one record of a key holds a day, in every table.
pub at_most_one_record_of_a_key_holds_a_day : (bundle : List ℕ) (R : List Rec) → Good bundle R → (i j day : ℕ) → i < length R → j < length R
    → SameKey (record_at R i) (record_at R j) → HoldsDay (record_at R i).table day (record_at R i) → HoldsDay (record_at R j).table day (record_at R j) → i ≡ j
at_most_one_record_of_a_key_holds_a_day = one_a_day

-- The first day that two periods share, if they share any, is in both, and no earlier day is.
pub the_first_day_that_two_periods_share : (t : Table) (a b : List ℕ) → Share t a b
    → InPeriod t (first_shared t a b) a × InPeriod t (first_shared t a b) b × ((day : ℕ) → InPeriod t day a → InPeriod t day b → first_shared t a b ≤ day)
the_first_day_that_two_periods_share = first_of_shared

-- So a table whose key is the offer, the railway and its code has one record at most for them, or for 0000, on a day; and a leg uses one at most. Such tables are
-- CO, AR and ME.
pub there_is_one_record_for_a_leg : (bundle : List ℕ) (R : List Rec) → Good bundle R → (t : Table) → for_legs t ≡ true → (offer code railway day i j : ℕ)
    → Valid R t offer code railway day i → Valid R t offer code railway day j → i ≡ j
there_is_one_record_for_a_leg = only_one

pub a_leg_uses_one_record : (bundle : List ℕ) (R : List Rec) → Good bundle R → (t : Table) → for_legs t ≡ true → (offer code railway day i j : ℕ)
    → Uses R t offer code railway day i → Uses R t offer code railway day j → i ≡ j
a_leg_uses_one_record = uses_one

pub such_are_the_tables_of_offers : (for_legs CO ≡ true) × (for_legs AR ≡ true) × (for_legs ME ≡ true)
unfolding for_legs of_offers any every table_at
such_are_the_tables_of_offers = (refl, refl, refl)

-- What was accepted before two records of one key could stand together is accepted still, with as many records; and what is accepted now and repeats no key was.
pub what_was_accepted_still_is : (bundle : List ℕ) (R : List Rec) → GoodBefore bundle R → verdict_tells (verdict_of bundle) ≡ answers (length R ∷ [])
what_was_accepted_still_is bundle R g = keeping_the_rules_is_accepted bundle R (before_good bundle R g)

pub without_a_repeated_key_it_was_accepted : (bundle : List ℕ) (n : ℕ) → verdict_tells (verdict_of bundle) ≡ answers (n ∷ []) → NoKeyTwice (records_of bundle)
    → GoodBefore bundle (records_of bundle) × (length (records_of bundle) ≡ n)
without_a_repeated_key_it_was_accepted bundle n e k =
    let a = accepted_keeps_the_rules bundle n e in
    (good_before bundle (records_of bundle) a.0 k, a.1)

-- DEMAND 2, a fare. It is answered only with what it means: for each leg the CO that it uses, the plain fare less its discount, rounded as that record says, and
-- then the same by the AR records of its cards, of what is permitted the least; times the persons; and the sum. And it is answered if it means that.
pub a_fare_is_what_the_records_say : (bundle : List ℕ) (q : Question) (fare : ℕ) (parts : List ℕ) → fare_tells (fare_of bundle q) ≡ answers (fare ∷ parts)
    → IsFare bundle (records_of bundle) q fare parts
a_fare_is_what_the_records_say bundle q fare parts e = fare_means bundle q fare parts (told_priced (fare_of bundle q) fare parts e)

pub what_the_records_say_is_the_fare : (bundle : List ℕ) (R : List Rec) (q : Question) (fare : ℕ) (parts : List ℕ) → IsFare bundle R q fare parts
    → fare_tells (fare_of bundle q) ≡ answers (fare ∷ parts)
unfolding tells_values
what_the_records_say_is_the_fare bundle R q fare parts f = rw (means_fare bundle R q fare parts f)

-- SEVERAL CARDS. Of the records that apply to a leg it is permitted to take all with Y, in rising rating and code, or one with N. No choice that is permitted is
-- cheaper than the part; and the part is what one of them leaves, or no record applies and it is by the amount after the CO.
module _ {R : List Rec} {q : Question} {leg : Leg} {part : ℕ} (l : LegFare R q leg part) where
  abbrev co : List ℕ
  co = (record_at R l.at).body

  pub no_permitted_choice_is_cheaper : (choice : List ℕ) (left : ℕ) → Permitted R q leg co choice → After R q leg choice l.amount left
      → part ≤ left * q.persons
  no_permitted_choice_is_cheaper choice left p a =
      rw l.times_persons (mul-le-mul_right q.persons (not_above R q leg co l.by_cards choice left p a))

  pub no_permitted_choice_leaves_a_person_less : (choice : List ℕ) (left : ℕ) → Permitted R q leg co choice → After R q leg choice l.amount left → l.last ≤ left
  no_permitted_choice_leaves_a_person_less choice left p a = not_above R q leg co l.by_cards choice left p a

  pub a_part_is_by_a_permitted_choice : (((i : ℕ) → Applies R q leg co i → ⊥) × (part ≡ l.amount * q.persons))
      ⊎ ((choice : List ℕ) × (left : ℕ) × Permitted R q leg co choice × After R q leg choice l.amount left × (part ≡ left * q.persons))
  a_part_is_by_a_permitted_choice =
      ⊎_elim (λ n. inl (n.0, l.times_persons ∙ ap (◌* q.persons) n.1)) (λ c. inr (c.0, l.last, c.1, c.2, l.times_persons))
      (by_one R q leg co l.by_cards)

-- Nothing that applies is left out: in a bundle that keeps the rules a record that applies stands in a choice that is permitted, and each such choice leaves an
-- amount.
module _ (bundle : List ℕ) (R : List Rec) (good : Good bundle R) (q : Question) (leg : Leg) (co : List ℕ) where
  pub what_applies_stands_in_a_permitted_choice : CardsDiffer q → (i : ℕ) → Applies R q leg co i
      → (choice : List ℕ) × Permitted R q leg co choice × ((k : ℕ) × (k < length choice) × (get_or choice k 0 ≡ i))
  what_applies_stands_in_a_permitted_choice = applying_permitted bundle R good q leg co

  pub a_permitted_choice_leaves_an_amount : {choice : List ℕ} → Permitted R q leg co choice → (before : ℕ) → (left : ℕ) × After R q leg choice before left
  a_permitted_choice_leaves_an_amount = leaves_some bundle R good q leg co

-- There is one order of the records with Y, and one amount after the cards.
pub the_records_together_have_one_order : (R : List Rec) (q : Question) (leg : Leg) (co : List ℕ) {is js : List ℕ} → AllTogether R q leg co is → AllTogether R q leg co js
    → is ≡ js
the_records_together_have_one_order = order_only

pub the_cards_leave_one_amount : (R : List Rec) (q : Question) (leg : Leg) (co : List ℕ) {before a b : ℕ} → AfterCards R q leg co before a → AfterCards R q leg co before b
    → a ≡ b
the_cards_leave_one_amount = one_amount

-- The order of the cards has no effect on a fare: with the same cards in another order, used slots first, it is answered by the same.
pub the_order_of_the_cards_does_not_matter : (bundle : List ℕ) (q : Question) (cards others : List ℕ) → SameCards cards others → SameCards others cards
    → InLimits (with_cards q others) → CardsDiffer (with_cards q others) → (fare : ℕ) (parts : List ℕ)
    → fare_tells (fare_of bundle (with_cards q cards)) ≡ answers (fare ∷ parts) → fare_tells (fare_of bundle (with_cards q others)) ≡ answers (fare ∷ parts)
the_order_of_the_cards_does_not_matter bundle q cards others s t l d fare parts e =
    what_the_records_say_is_the_fare bundle (records_of bundle) (with_cards q others) fare parts
    (any_order bundle (records_of bundle) q cards others s t l d fare parts (a_fare_is_what_the_records_say bundle (with_cards q cards) fare parts e))

-- A question is within its limits exactly if each of its values is, and gives no card twice exactly if slots that have the same are not used.
pub the_limits_of_a_question : (q : Question) → (in_limits q ≡ true) ↔ InLimits q
the_limits_of_a_question q = (limits_mean q, means_limits q)

pub the_cards_of_a_question_differ : (q : Question) → (cards_differ (card_slots q) ≡ true) ↔ CardsDiffer q
the_cards_of_a_question_differ q = (differ_means q, means_differ q)

-- A fare is refused only for a fault of the bundle, a question outside its limits (11) or with a card given twice (17), or the first leg that has no CO (12), none that is valid (13), other persons (14)
-- or a condition unread (15); and if that is so.
pub a_refused_fare_says_why : (bundle : List ℕ) (q : Question) (number place detail : ℕ) (us : List ℕ) → fare_tells (fare_of bundle q) ≡ refuses number place detail us
    → NoFare bundle (records_of bundle) (rest_of bundle) q number place detail
a_refused_fare_says_why bundle q number place detail us e =
    told_err 9 quote_values (NoFare bundle (records_of bundle) (rest_of bundle) q) (fare_of bundle q) (no_fare_means bundle q) e

pub what_says_why_refuses_the_fare : (bundle : List ℕ) (R : List Rec) (rest : List ℕ) → Cut bundle R rest → (q : Question) (number place detail : ℕ)
    → NoFare bundle R rest q number place detail → fare_tells (fare_of bundle q) ≡ refuses number place detail (replicate 9 0)
what_says_why_refuses_the_fare bundle R rest c q n p d f = told_refused 9 quote_values (fare_of bundle q) (means_no_fare bundle R rest c q n p d f)

-- An exact amount is rounded to one amount, as a record says; nothing to nothing, so that a discount of 100,000 leaves 0 in every mode.
pub rounding_has_one_outcome : {mode n f r s : ℕ} → IsRounded mode n f r → IsRounded mode n f s → r ≡ s
rounding_has_one_outcome = rounded_only

pub a_whole_discount_leaves_nothing : {mode f r : ℕ} → IsRounded mode 0 f r → r ≡ 0
a_whole_discount_leaves_nothing = nothing_left

-- A part is at most what 99 persons pay at 999,999 cents each and 998 for each of its steps, which are one more than the question's cards, of which one is always
-- counted: 99,197,505 cents for none or one, and 98,802 more for each card after the first.
pub a_part_is_bounded : (bundle : List ℕ) (R : List Rec) (q : Question) (fare : ℕ) (parts : List ℕ) → IsFare bundle R q fare parts
    → (k : ℕ) → get_or parts k 0 ≤ 99 * (999999 + 998 * (1 + greater 1 (length (cards_of q))))
a_part_is_bounded = part_bounded

pub the_bounds_by_the_cards : up_to (λ cards. 99 * (999999 + 998 * (1 + greater 1 cards))) 5 ≡ 99197505 ∷ 99197505 ∷ 99296307 ∷ 99395109 ∷ 99493911 ∷ []
unfolding up_to
the_bounds_by_the_cards = refl

-- A fare that is told is at most eight times the bound on its parts, and so at most eight times the greatest of these bounds: 795,951,288 cents. It fits 32 bits, and
-- no number refuses one that is too high.
module _ (bundle : List ℕ) (q : Question) (fare : ℕ) (parts : List ℕ) (told : fare_tells (fare_of bundle q) ≡ answers (fare ∷ parts)) where
  pub a_fare_is_bounded : fare ≤ 8 * part_bound (length (cards_of q))
  a_fare_is_bounded = fare_bounded bundle (records_of bundle) q fare parts (a_fare_is_what_the_records_say bundle q fare parts told)

  pub a_fare_is_at_most_eight_greatest_parts : fare ≤ 8 * greatest_part
  a_fare_is_at_most_eight_greatest_parts = le_trans a_fare_is_bounded (mul-le-mul_left 8 (bound_most q))

  pub a_fare_fits_32_bits : fare ≤ 4294967295
  a_fare_fits_32_bits = le_trans a_fare_is_at_most_eight_greatest_parts (omega arith)

pub the_greatest_bounds : (greatest_part ≡ 99493911) × (8 * greatest_part ≡ 795951288)
the_greatest_bounds = (refl, refl)

pub no_part_has_a_greater_bound : (q : Question) → part_bound (length (cards_of q)) ≤ greatest_part
no_part_has_a_greater_bound = bound_most

-- A question's cards are counted slot by slot.
pub the_cards_of_a_question_are_counted : (q : Question)
    → length (cards_of q) ≡ given (card_at q 0) + (given (card_at q 1) + (given (card_at q 2) + given (card_at q 3)))
the_cards_of_a_question_are_counted = question_cards

-- THE FIGURES: of the layout and the calendar, of verdicts, and of fares.
pub the_figures_of_the_layout_hold : (x : layout.Figure) → Memᴰ x layout.figures → layout.Says x
the_figures_of_the_layout_hold = layout_figures_hold

pub the_figures_of_verdicts_hold : (x : verdicts.Figure) → Memᴰ x verdicts.figures → verdicts.Says x
the_figures_of_verdicts_hold = verdict_figures_hold

pub the_figures_of_fares_hold : (x : fares.Figure) → Memᴰ x fares.figures → fares.Says x
the_figures_of_fares_hold = fare_figures_hold

-- DEMAND 1, a book. It is sound exactly if each of its values is as it should be; and one that is not is refused by every call, with 21.
pub a_sound_book : (book : List ℕ) → (sound_words book ≡ true) ↔ Sound book
a_sound_book book = (sound_means book, means_sound book)

-- By these words a sound book is said, and so is what an entry says: a book that is stored has each value where it always had it, and the cards of a sale in
-- their order. Its cards are counted word by word.
pub the_places_of_a_book : Places
the_places_of_a_book = the_places

pub an_entry_says_its_words : (book : List ℕ) (i : ℕ) → Says book i (entry_at book i)
an_entry_says_its_words = entry_says

pub a_book_keeps_its_entries : (book : List ℕ) → Kept book
a_book_keeps_its_entries = book_kept

pub the_cards_of_an_entry_are_counted : (ws : List ℕ) → cards_in ws
    ≡ given (asked_word ws cards_at) + (given (asked_word ws (cards_at + 1)) + (given (asked_word ws (cards_at + 2)) + given (asked_word ws (cards_at + 3))))
the_cards_of_an_entry_are_counted = entry_cards

module _ (book : List ℕ) (unsound : Sound book → ⊥) where
  pub an_unsound_book_sells_nothing : (till sequence : ℕ) (bundle : List ℕ) (q : Question)
      → receipt_tells (sale_answer book till sequence bundle q) ≡ refuses 21 0 0 (replicate 10 0)
  unfolding tells_values outcome_values
  an_unsound_book_sells_nothing till sequence bundle q = rw (unsound_sale book unsound till sequence bundle q)

  pub an_unsound_book_cancels_nothing : (till sequence : ℕ) → receipt_tells (cancel_answer book till sequence) ≡ refuses 21 0 0 (replicate 10 0)
  unfolding tells_values outcome_values
  an_unsound_book_cancels_nothing till sequence = rw (unsound_cancel book unsound till sequence)

  pub an_unsound_book_has_no_balance : (railway : ℕ) → sum_tells (balance_answer book railway) ≡ refuses 21 0 0 (0 ∷ [])
  unfolding tells_values
  an_unsound_book_has_no_balance railway = rw (unsound_balance book unsound railway)

  pub an_unsound_book_has_no_total : sum_tells (total_answer book) ≡ refuses 21 0 0 (0 ∷ [])
  unfolding tells_values
  an_unsound_book_has_no_total = rw (unsound_total book unsound)

-- Only a newly booked sale and a first cancellation change a book, whatever is in it.
pub only_a_booked_sale_changes : (book : List ℕ) (till sequence : ℕ) (bundle : List ℕ) (q : Question)
    → ((parts : List ℕ) → receipt_tells (sale_answer book till sequence bundle q) ≡ answers (booked ∷ 0 ∷ parts) → ⊥) → sale_words book till sequence bundle q ≡ book
only_a_booked_sale_changes book till sequence bundle q n = by_answer (sale_answer book till sequence bundle q) refl
  where
    by_answer : (r : Result Receipt Refusal) → sale_answer book till sequence bundle q ≡ r → sale_words book till sequence bundle q ≡ book
    by_answer (Ok receipt) a = not_booked_stays book till sequence bundle q a (λ e. n _ (booked_told a e))
    by_answer (Err why) a = refused_stays book till sequence bundle q a

pub only_a_first_cancellation_changes : (book : List ℕ) (till sequence : ℕ)
    → ((parts : List ℕ) → receipt_tells (cancel_answer book till sequence) ≡ answers (cancelled ∷ 1 ∷ parts) → ⊥) → cancel_words book till sequence ≡ book
only_a_first_cancellation_changes book till sequence n = by_answer (cancel_answer book till sequence) refl
  where
    by_answer : (r : Result Receipt Refusal) → cancel_answer book till sequence ≡ r → cancel_words book till sequence ≡ book
    by_answer (Ok receipt) a = not_cancelled_stays book till sequence a (λ e. n _ (cancelled_told a e))
    by_answer (Err why) a = refused_cancel_stays book till sequence a

-- In a sound book a balance is what its sales not cancelled owe the railway, leg by leg, and the total what they owe in all; only a railway 1 to 9999 has one.
module _ (book : List ℕ) (sound : Sound book) where
  pub a_balance_of_a_sound_book : (railway : ℕ) → 1 ≤ railway → railway ≤ 9999
      → sum_tells (balance_answer book railway) ≡ answers (due_in (carried_by railway) (entries book) ∷ [])
  unfolding tells_values
  a_balance_of_a_sound_book railway a b = rw (book_balance book sound railway a b)

  pub the_total_of_a_sound_book : sum_tells (total_answer book) ≡ answers (due_in any_leg (entries book) ∷ [])
  unfolding tells_values
  the_total_of_a_sound_book = rw (book_total book sound)

  pub no_railway_no_balance : (railway : ℕ) → ((1 ≤ railway) × (railway ≤ 9999) → ⊥) → sum_tells (balance_answer book railway) ≡ refuses 11 0 0 (0 ∷ [])
  unfolding tells_values
  no_railway_no_balance railway n = rw (no_railway book sound railway n)

  -- The total is the sum of the balances of railways 1 to 9999.
  pub the_total_is_the_sum_of_the_balances : due_in any_leg (entries book) ≡ sum (up_to (λ r. due_in (carried_by (r + 1)) (entries book)) 9999)
  the_total_is_the_sum_of_the_balances =
      let s = means_sound book sound in
      sym (total_due book s) ∙ (total_is_sum book s ∙ ap sum (upto_same _ _ 9999 (λ r l. balance_due book s (r + 1))))

-- A sale number is within its limits exactly if till and sequence are.
pub the_limits_of_a_sale_number : (n : Number)
    → (is_number n ≡ true) ↔ (((1 ≤ n.till) × (n.till ≤ 65535)) × ((1 ≤ n.sequence) × (n.sequence ≤ 4294967295)))
the_limits_of_a_sale_number n = (
  λ e. let b = both_true (between 1 65535 n.till) (between 1 4294967295 n.sequence) e in
      (in_range 1 n.till 65535 b.0, in_range 1 n.sequence 4294967295 b.1),
  λ h. rw (le-leb 1 n.till h.0.0, le-leb n.till 65535 h.0.1, le-leb 1 n.sequence h.1.0, le-leb n.sequence 4294967295 h.1.1),
)

-- In a sound book a number outside its limits is refused with 22. One that entry i holds is told that entry's parts, and whether it is cancelled, for the same
-- question; another question is refused with 23 at that entry.
module _ (book : List ℕ) (sound : Sound book) (n : Number) where
  pub no_number_no_sale : is_number n ≡ false → (bundle : List ℕ) (q : Question)
      → receipt_tells (sale_answer book n.till n.sequence bundle q) ≡ refuses 22 0 0 (replicate 10 0)
  unfolding tells_values outcome_values
  no_number_no_sale e bundle q = rw (sale_without_number book sound n e bundle q)

  pub no_number_no_cancellation : is_number n ≡ false → receipt_tells (cancel_answer book n.till n.sequence) ≡ refuses 22 0 0 (replicate 10 0)
  unfolding tells_values outcome_values
  no_number_no_cancellation e = rw (cancel_without_number book sound n e)

  module _ (number : is_number n ≡ true) (i : ℕ) (inside : i < count_of book) (held : Holds book i n.till n.sequence) where
    abbrev entry : Entry
    entry = entry_at book i

    pub a_sale_in_the_book_is_told : (bundle : List ℕ) (q : Question) → SameQuestion (question_of entry.asked) q
        → receipt_tells (sale_answer book n.till n.sequence bundle q) ≡ answers (already_booked ∷ entry.status ∷ entry.parts)
    unfolding tells_values outcome_values
    a_sale_in_the_book_is_told bundle q e = rw (same_sale book sound n number i inside held bundle q e, status_at book sound i inside)

    pub its_number_is_not_used_again : (bundle : List ℕ) (q : Question) → (SameQuestion (question_of entry.asked) q → ⊥)
        → receipt_tells (sale_answer book n.till n.sequence bundle q) ≡ refuses 23 i 0 (replicate 10 0)
    unfolding tells_values outcome_values
    its_number_is_not_used_again bundle q e = rw (other_sale book sound n number i inside held bundle q e)

    pub a_cancellation_in_the_book_is_told : receipt_tells (cancel_answer book n.till n.sequence)
        ≡ answers (cond (eqb entry.status 0) cancelled already_cancelled ∷ 1 ∷ entry.parts)
    unfolding tells_values outcome_values
    a_cancellation_in_the_book_is_told = rw (known_cancel book sound n number i inside held) (go (eqb entry.status 0))
      where
        go : (live : Bool) → answers (outcome_values (cond live Cancelled AlreadyCancelled) entry.parts) ≡ answers (cond live cancelled already_cancelled ∷ 1 ∷ entry.parts)
        go true = refl
        go false = refl

-- One that no entry holds is unknown to a cancellation (25); its sale is refused by 24 in a full book, and in one with room is booked with the parts of its fare, or
-- refused as that is: so also in a stored book that goes on with several cards.
module _ (book : List ℕ) (sound : Sound book) (n : Number) (number : is_number n ≡ true) (nowhere : HeldNowhere book n.till n.sequence) where
  pub what_no_entry_holds_is_not_cancelled : receipt_tells (cancel_answer book n.till n.sequence) ≡ refuses 25 0 0 (replicate 10 0)
  unfolding tells_values outcome_values
  what_no_entry_holds_is_not_cancelled = rw (unknown_cancel book sound n number nowhere)

  module _ (bundle : List ℕ) (q : Question) where
    pub a_full_sound_book_takes_no_sale : 256 ≤ count_of book → receipt_tells (sale_answer book n.till n.sequence bundle q) ≡ refuses 24 0 0 (replicate 10 0)
    unfolding tells_values outcome_values
    a_full_sound_book_takes_no_sale f = rw (sale_when_full book sound n number nowhere bundle q f)

    module _ (room : count_of book < 256) where
      pub a_sound_book_books_a_sale_with_its_fare : (quote : Quote) → fare_of bundle q ≡ Ok quote
          → receipt_tells (sale_answer book n.till n.sequence bundle q) ≡ answers (booked ∷ 0 ∷ quote.parts)
      unfolding tells_values outcome_values
      a_sound_book_books_a_sale_with_its_fare quote e = rw (sale_booked book sound n number nowhere bundle q room quote e)

      pub a_sound_book_refuses_a_sale_as_its_fare : (why : Refusal) → fare_of bundle q ≡ Err why
          → receipt_tells (sale_answer book n.till n.sequence bundle q) ≡ refuses (number_of_reason why.reason) why.place why.detail (replicate 10 0)
      unfolding tells_values outcome_values
      a_sound_book_refuses_a_sale_as_its_fare why e = rw (sale_refused book sound n number nowhere bundle q room why e)

-- A sound book stays sound, whatever sales and cancellations follow.
pub a_sound_book_stays_sound : (book : List ℕ) → Sound book → (ops : List Op) → Sound (after book ops)
a_sound_book_stays_sound book sound ops = sound_means (after book ops) (sound_is (after book ops) (stays_sound ops book (is_sound book (means_sound book sound))))

-- DEMAND 3. After any sales and cancellations from the empty book, each sale with any bundle: the book is sound,
module _ (ops : List Op) where
  pub the_book_stays_sound : Sound (after empty_book ops)
  the_book_stays_sound = always_meant ops

  -- every railway is owed what the history alone tells: over the different sales booked and not cancelled afterwards, the parts of its legs, as priced at the first
  -- booking; and so are all together.
  pub a_balance_is_what_the_history_tells : (railway : ℕ) → 1 ≤ railway → railway ≤ 9999
      → sum_tells (balance_answer (after empty_book ops) railway) ≡ answers (owed (carried_by railway) [] ops ∷ [])
  unfolding tells_values
  a_balance_is_what_the_history_tells railway a b = rw (balance_told ops railway a b)

  pub the_total_is_what_the_history_tells : sum_tells (total_answer (after empty_book ops)) ≡ answers (owed any_leg [] ops ∷ [])
  unfolding tells_values
  the_total_is_what_the_history_tells = rw (total_told ops)

  -- A number that was never booked is unknown to a cancellation (25); its sale is refused after 256 bookings (24), and before is booked with the parts of its
  -- fare, or refused as that is.
  module _ (n : Number) (number : is_number n ≡ true) (new : is_in n (booked_by [] ops) ≡ false) where
    pub an_unknown_sale_is_not_cancelled : receipt_tells (cancel_answer (after empty_book ops) n.till n.sequence) ≡ refuses 25 0 0 (replicate 10 0)
    unfolding tells_values outcome_values
    an_unknown_sale_is_not_cancelled = rw (unknown_is_told ops n number new)

    module _ (bundle : List ℕ) (q : Question) where
      abbrev told : Told
      told = receipt_tells (sale_answer (after empty_book ops) n.till n.sequence bundle q)

      pub a_full_book_takes_no_sale : 256 ≤ length (booked_by [] ops) → told ≡ refuses 24 0 0 (replicate 10 0)
      unfolding tells_values outcome_values
      a_full_book_takes_no_sale f = rw (full_is_told ops n number new bundle q f)

      module _ (room : length (booked_by [] ops) < 256) where
        pub a_sale_is_booked_with_its_fare : (quote : Quote) → fare_of bundle q ≡ Ok quote → told ≡ answers (booked ∷ 0 ∷ quote.parts)
        unfolding tells_values outcome_values
        a_sale_is_booked_with_its_fare quote e = rw (first_is_booked ops n number new bundle q room quote e)

        pub a_sale_is_refused_as_its_fare : (why : Refusal) → fare_of bundle q ≡ Err why → told ≡ refuses (number_of_reason why.reason) why.place why.detail (replicate 10 0)
        unfolding tells_values outcome_values
        a_sale_is_refused_as_its_fare why e = rw (first_is_refused ops n number new bundle q room why e)

-- A sale booked in any history and sent again after any other, with any bundle: the same question is told the very parts that it was told first, and
-- whether it is cancelled; another is refused with 23 and its place among the sales booked; and neither changes a word. Its cancellation tells the same parts.
module _ (first : List Op) (n : Number) (bundle : List ℕ) (q : Question) (more : List Op) (parts : List ℕ)
    (sold : receipt_tells (sale_answer (after empty_book first) n.till n.sequence bundle q) ≡ answers (booked ∷ 0 ∷ parts)) where
  abbrev now : List ℕ
  now = after empty_book (first ++ (sale n bundle q ∷ more))

  pub sent_again_is_told_its_first_amounts : (bundle' : List ℕ) (q' : Question) → SameQuestion q q'
      → receipt_tells (sale_answer now n.till n.sequence bundle' q') ≡ answers (already_booked ∷ cond (cancelled_in n more) 1 0 ∷ parts)
  unfolding tells_values outcome_values
  sent_again_is_told_its_first_amounts bundle' q' e =
      let b = told_booked _ parts sold in
      rw (told_first first n bundle q more b.1 b.2 bundle' q' e, number_told (cancelled_in n more)) (ap (λ x. answers (already_booked ∷ cond (cancelled_in n more) 1 0 ∷ x)) (first_parts _ _ _ bundle q parts sold))
    where
      number_told : (c : Bool) → number_of_status (cond c status.Cancelled status.Live) ≡ cond c 1 0
      number_told true = refl
      number_told false = refl

  pub another_question_is_refused : (bundle' : List ℕ) (q' : Question) → (SameQuestion q q' → ⊥)
      → receipt_tells (sale_answer now n.till n.sequence bundle' q') ≡ refuses 23 (length (booked_by [] first)) 0 (replicate 10 0)
  unfolding tells_values outcome_values
  another_question_is_refused bundle' q' e = let b = told_booked _ parts sold in rw (refused_other first n bundle q more b.1 b.2 bundle' q' e)

  -- So is a question with another card in one of the four slots: the order of the cards is part of it, and 5 and 7 are not 7 and 5.
  pub another_card_is_refused : (bundle' : List ℕ) (q' : Question) (k : ℕ) → k < 4 → (card_at q k ≡ card_at q' k → ⊥)
      → receipt_tells (sale_answer now n.till n.sequence bundle' q') ≡ refuses 23 (length (booked_by [] first)) 0 (replicate 10 0)
  another_card_is_refused bundle' q' k l other = another_question_is_refused bundle' q' (λ s. other (s.cards k l))

  pub swapped_cards_are_refused : (bundle' : List ℕ) (q' : Question) → q.cards ≡ 5 ∷ 7 ∷ 0 ∷ 0 ∷ [] → q'.cards ≡ 7 ∷ 5 ∷ 0 ∷ 0 ∷ []
      → receipt_tells (sale_answer now n.till n.sequence bundle' q') ≡ refuses 23 (length (booked_by [] first)) 0 (replicate 10 0)
  swapped_cards_are_refused bundle' q' a b =
      another_card_is_refused bundle' q' 0 (omega arith)
      (λ e. let z : 5 ≡ 7 = sym (ap (λ cards. get_or cards 0 0) a) ∙ (e ∙ ap (λ cards. get_or cards 0 0) b) in absurd (omega (arith, z)))

  pub sent_again_changes_nothing : (bundle' : List ℕ) (q' : Question) → sale_words now n.till n.sequence bundle' q' ≡ now
  sent_again_changes_nothing = let b = told_booked _ parts sold in nothing_changes first n bundle q more b.1 b.2

  pub its_cancellation_tells_its_first_amounts : receipt_tells (cancel_answer now n.till n.sequence)
      ≡ answers (cond (cancelled_in n more) already_cancelled cancelled ∷ 1 ∷ parts)
  unfolding tells_values outcome_values
  its_cancellation_tells_its_first_amounts =
      let b = told_booked _ parts sold in
      rw (cancel_told first n bundle q more b.1 b.2, first_parts _ _ _ bundle q parts sold) (go (cancelled_in n more))
    where
      go : (c : Bool) → answers (outcome_values (cond c AlreadyCancelled Cancelled) parts) ≡ answers (cond c already_cancelled cancelled ∷ 1 ∷ parts)
      go true = refl
      go false = refl

-- SEVERAL CARDS. A question with one card or none has the fare, or the refusal, that it had before a question could carry several.
pub one_card_is_priced_as_it_was : (bundle : List ℕ) (q : Question) → OneCard q → fare_of bundle q ≡ base_fare bundle q
one_card_is_priced_as_it_was bundle q o = fare_is q o bundle

-- Over a book whose sales have one card or none, sound or not, each call on the book answers such a question as it did, and leaves the book that it left.
module _ (book : List ℕ) (one : OneCardBook book) where
  module _ (till sequence : ℕ) where
    pub one_card_is_sold_as_it_was : (bundle : List ℕ) (q : Question) → OneCard q → sale_answer book till sequence bundle q ≡ base_sale book till sequence bundle q
    one_card_is_sold_as_it_was = sold-as-it-was book one till sequence

    pub its_sale_leaves_the_book_that_it_left : (bundle : List ℕ) (q : Question) → OneCard q → sale_words book till sequence bundle q ≡ base_sale_words book till sequence bundle q
    its_sale_leaves_the_book_that_it_left = same_sale_words book one till sequence

    pub a_cancellation_is_told_as_it_was : cancel_answer book till sequence ≡ base_cancel book till sequence
    a_cancellation_is_told_as_it_was = same_cancel book one till sequence

    pub a_cancellation_leaves_the_book_that_it_left : cancel_words book till sequence ≡ base_cancel_words book till sequence
    a_cancellation_leaves_the_book_that_it_left = same_cancel_words book one till sequence

  pub a_balance_is_told_as_it_was : (railway : ℕ) → balance_answer book railway ≡ base_balance book railway
  a_balance_is_told_as_it_was = same_balance book one

  pub the_total_is_told_as_it_was : total_answer book ≡ base_total book
  the_total_is_told_as_it_was = same_total book one

-- A book was sound before exactly if it is sound and its sales have one card or none; so a book stored then is sound as it stands, and owes the same.
pub a_book_sound_before : (book : List ℕ) → (base_sound book ≡ true) ↔ (Sound book × OneCardBook book)
a_book_sound_before book = (base_means book, means_base book)

module _ (book : List ℕ) (stored : base_sound book ≡ true) where
  pub a_stored_book_is_sound : Sound book
  a_stored_book_is_sound = (base_means book stored).0

  -- and stays so, also with sales of several cards;
  pub a_stored_book_stays_sound : (ops : List Op) → Sound (after book ops)
  a_stored_book_stays_sound = a_sound_book_stays_sound book a_stored_book_is_sound

  pub a_stored_book_owes_a_railway_the_same : (railway : ℕ) → balance_answer book railway ≡ base_balance book railway
  a_stored_book_owes_a_railway_the_same = same_balance book (base_means book stored).1

  pub a_stored_book_owes_the_same_in_all : total_answer book ≡ base_total book
  a_stored_book_owes_the_same_in_all = same_total book (base_means book stored).1

  -- However many sales of one card or none, and cancellations, follow, it is word for word the book that they left. The empty book is such a book.
  pub single_cards_leave_the_book_that_they_left : (ops : List Op) → OneCardOps ops → after book ops ≡ base_after book ops
  single_cards_leave_the_book_that_they_left = same_after book stored

pub the_empty_book_was_sound_before : base_sound empty_book ≡ true
the_empty_book_was_sound_before = empty_before

-- THE DAY of one till that document 01 tells, call by call.
pub the_day_of_one_till : Day
the_day_of_one_till = the_day
