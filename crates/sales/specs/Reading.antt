-- What the calls answer that read a book: how many sales it has, one by its place, one by its number. Document 01 has no such calls: an office lists the
-- sales by them, and a till asks its earlier books.
-- Assumes nothing.
use Rattle.std.specs.Prelude.{ℕ, ◌≤◌, ◌≡◌, Bool, cond, not, List, [], ◌∷◌, ltb, length, get_or, Result, Ok}
use Rattle.common.specs.declared.reasons.Reason.TheVariants.{BookUnsound, SaleUnknown}
use Rattle.common.specs.Checks.{Check, check, unless, first_fault}
use Rattle.common.specs.declared.Refusal.{Refusal}
use Rattle.fares.specs.Question.{no_leg}
use Rattle.fares.specs.declared.Question.{Question}
use Rattle.book.specs.Words.{Entry, no_entry, entries, question_of}
use Rattle.book.specs.Status.{status_of}
use Rattle.book.specs.declared.status.Status.TheVariants.{Live, Cancelled}
use Rattle.book.specs.Sound.{sound_words}
use Rattle.book.specs.SameQuestion.{SameQuestion}
use Rattle.sales.specs.Sales.{place, present, cancel_checks}
use Rattle.sales.specs.History.{Number}
use Rattle.sales.specs.declared.Booking.{Booking}

-- the sale that entry i is: its number, its question, its parts and its status
abbrev pub booking_at : ℕ → Entry → Booking
booking_at i e =
    record { entry = i; till = e.till; sequence = e.sequence; question = question_of e.asked; parts = e.parts; status = status_of e.status }

-- COUNT: 21
abbrev pub count_checks : List ℕ → List Check
count_checks book = check (not (sound_words book)) BookUnsound 0 0 ∷ []

unfoldable pub count_answer : List ℕ → Result ℕ Refusal
count_answer book = unless (first_fault (count_checks book)) (length (entries book))

-- ENTRY i, in the order of booking: 21, then 25 from the count on
abbrev pub entry_checks : List ℕ → ℕ → List Check
entry_checks book i = check (not (sound_words book)) BookUnsound 0 0 ∷ check (not (ltb i (length (entries book)))) SaleUnknown 0 0 ∷ []

unfoldable pub entry_answer : List ℕ → ℕ → Result Booking Refusal
entry_answer book i = unless (first_fault (entry_checks book i)) (booking_at i (get_or (entries book) i no_entry))

-- FIND: 21, 22, 25, as a cancellation looks for the number
unfoldable pub find_answer : List ℕ → ℕ → ℕ → Result Booking Refusal
find_answer book till sequence = unless (first_fault (cancel_checks book till sequence)) (booking_at (place book till sequence) (present book till sequence))

-- WHAT A SALE READ IS: found at an entry, with its number, the question that was asked, its parts, and whether it is cancelled
pub record IsSale (r : Result Booking Refusal) (i : ℕ) (n : Number) (q : Question) (parts : List ℕ) (cancelled : Bool) : Type 0 where
  pub sale : Booking
  pub found : r ≡ Ok sale
  pub entry : sale.entry ≡ i
  pub till : sale.till ≡ n.till
  pub sequence : sale.sequence ≡ n.sequence
  pub question : SameQuestion q sale.question
  pub unused : (k : ℕ) → q.count ≤ k → get_or sale.question.legs k no_leg ≡ no_leg
  pub amounts : sale.parts ≡ parts
  pub status : sale.status ≡ cond cancelled Cancelled Live
