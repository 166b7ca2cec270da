-- What a sale and a cancel answer, and what they leave in the book (document 01, 'The sales book', numbers 21 to 25).
-- Assumes nothing.
use Rattle.std.specs.Prelude.{ℕ, Bool, true, false, cond, not, ◌&&◌, List, [], ◌∷◌, eqb, leb, ltb, length, get_or, Result}
use Rattle.common.specs.declared.reasons.Reason.TheVariants.{BookUnsound, NumberOutside, NumberTaken, BookFull, SaleUnknown}
use Rattle.common.specs.Lists.{same}
use Rattle.common.specs.Checks.{Finding, clean, fault, Check, check, unless, first_fault}
use Rattle.common.specs.declared.Refusal.{Refusal}
use Rattle.bundle.specs.Records.{records_of}
use Rattle.fares.specs.Fare.{parts_of, fare_checks}
use Rattle.fares.specs.declared.Question.{Question}
use Rattle.book.specs.Words.{Entry, no_entry, capacity, entries, question_words, booking}
use Rattle.book.specs.Status.{status_of}
use Rattle.book.specs.Changes.{added, cancelled_at}
use Rattle.book.specs.Sound.{number_in_limits, held_at, sound_words}
use Rattle.sales.specs.declared.Outcome.{Outcome}
use Rattle.sales.specs.declared.Outcome.TheVariants.{Booked, AlreadyBooked, Cancelled, AlreadyCancelled}
use Rattle.sales.specs.declared.Receipt.{Receipt}

abbrev pub receipt : Outcome → List ℕ → Receipt
receipt o parts = record { outcome = o; parts = parts }

-- "a live sale becomes cancelled; a cancelled one answers 'already cancelled'. Both tell the parts."
abbrev pub cancel_receipt : Entry → Receipt
cancel_receipt e = receipt (cond (eqb e.status 0) Cancelled AlreadyCancelled) e.parts

abbrev pub is_clean : Finding → Bool
is_clean clean = true
is_clean (fault why) = false

module _ (book : List ℕ) (till sequence : ℕ) where
  abbrev pub place : ℕ
  place = held_at till sequence (entries book)

  -- the number is in the book
  abbrev pub is_present : Bool
  is_present = ltb place (length (entries book))

  abbrev pub present : Entry
  present = get_or (entries book) place no_entry

  -- SALE. "21, 22; if the number is present, the same question answers 'already booked' .., another question gives 23; then 24, the bundle's verdict 1-7,
  -- 11, and the legs from the first, each for 12, 13, 14, 15", with 17 "directly after 11"; number 16 went with R-13
  -- By whether the book is sound, the question's words, and the checks of its fare
  abbrev pub sale_checks_by : Bool → List ℕ → List Check → List Check
  sale_checks_by sound asked fare =
      check (not sound) BookUnsound 0 0 ∷
      check (not (number_in_limits till sequence)) NumberOutside 0 0 ∷
      check (is_present && not (same present.asked asked)) NumberTaken place 0 ∷
      cond is_present [] (check (leb capacity (length (entries book))) BookFull 0 0 ∷ fare)

  unfoldable pub sale_checks : List ℕ → Question → List Check
  sale_checks bundle q = sale_checks_by (sound_words book) (question_words q) (fare_checks bundle q)

  -- "with the first parts and the cancelled mark", which is the entry's status; by the checks of the sale, and the parts of its fare
  abbrev pub sale_answer_by : List Check → List ℕ → Result Receipt Refusal
  sale_answer_by checks parts =
      unless (first_fault checks)
      (cond is_present (receipt (AlreadyBooked (status_of present.status)) present.parts) (receipt Booked parts))

  unfoldable pub sale_answer : List ℕ → Question → Result Receipt Refusal
  sale_answer bundle q = sale_answer_by (sale_checks bundle q) (parts_of (records_of bundle) q)

  -- nothing fails, and the number is new
  abbrev pub is_booked_by : List Check → Bool
  is_booked_by checks = is_clean (first_fault checks) && not is_present

  unfoldable pub is_booked : List ℕ → Question → Bool
  is_booked bundle q = is_booked_by (sale_checks bundle q)

  unfoldable pub sale_words : List ℕ → Question → List ℕ
  sale_words bundle q = cond (is_booked bundle q) (added book (booking till sequence q (parts_of (records_of bundle) q))) book

  -- CANCEL. "21, 22, 25", and then the receipt
  abbrev pub cancel_checks_by : Bool → List Check
  cancel_checks_by sound =
      check (not sound) BookUnsound 0 0 ∷
      check (not (number_in_limits till sequence)) NumberOutside 0 0 ∷
      check (not is_present) SaleUnknown 0 0 ∷
      []

  unfoldable pub cancel_checks : List Check
  cancel_checks = cancel_checks_by (sound_words book)

  abbrev pub cancel_answer_by : List Check → Result Receipt Refusal
  cancel_answer_by checks = unless (first_fault checks) (cancel_receipt present)

  unfoldable pub cancel_answer : Result Receipt Refusal
  cancel_answer = cancel_answer_by cancel_checks

  abbrev pub is_cancelled_by : List Check → Bool
  is_cancelled_by checks = is_clean (first_fault checks) && eqb present.status 0

  unfoldable pub is_cancelled : Bool
  is_cancelled = is_cancelled_by cancel_checks

  unfoldable pub cancel_words : List ℕ
  cancel_words = cond is_cancelled (cancelled_at book place) book
