-- What the calls are told in any sound book, whatever its history, by the values in it and the fare alone: 11 and 22 to 25 under their conditions only.
-- Assumes nothing.
use Prim.Native.Nat.{ℕ, ◌≤◌, ◌<◌}
use mathlib.Core.Path.{◌≡◌, sym, ◌∙◌, ap, ap₂}
use mathlib.Core.Bool.{true, false, ◌&&◌}
use mathlib.Core.List.{List}
use mathlib.Core.Logic.{⊎_elim}
use lib.Dec.{leb}
use lib.ListN.{length, get_or}
use borrow.Author.Tests.{eq-eqb, le-leb, lt-ltb, le-ltb}
use Rattle.std.specs.Prelude.{Ok, Err}
use Rattle.common.specs.declared.reasons.Reason.TheVariants.{OutsideLimits, NumberOutside, NumberTaken, BookFull, SaleUnknown}
use Rattle.common.specs.Lists.{same}
use Rattle.common.specs.Checks.{clean, refuse, first_fault}
use Rattle.common.specs.declared.Refusal.{Refusal}
use Rattle.common.proofs.Lists.{every_at}
use Rattle.common.proofs.Tests.{side, in_range, refuted}
use Rattle.layout.specs.Company.{is_railway}
use Rattle.fares.specs.Fare.{fare_of}
use Rattle.fares.specs.declared.Question.{Question}
use Rattle.fares.specs.declared.Quote.{Quote}
use Rattle.book.specs.Words.{Entry, no_entry, count_of, entries, entry_at, question_of, question_words}
use Rattle.book.specs.Status.{number_of_status, status_of}
use Rattle.book.specs.Sound.{entry_sound}
use Rattle.book.specs.Meaning.{Within, Sound, Holds, HeldNowhere}
use Rattle.book.specs.Due.{carried_by, any_leg, due_in}
use Rattle.book.specs.SameQuestion.{SameQuestion}
use Rattle.book.proofs.AmountsAreDue.{balance_due, total_due}
use Rattle.book.proofs.BookMeaning.{means_sound}
use Rattle.book.proofs.ComparedWords.{same_words, other_words}
use Rattle.book.proofs.NumbersDiffer.{has_number_lem, held_here}
use Rattle.book.proofs.QuestionWords.{asked_again}
use Rattle.book.proofs.SoundBook.{IsSound, is_sound, sound_entry, status_again, few_legs, entry_is, entries_length}
use Rattle.sales.specs.Sales.{receipt, cancel_receipt, place, is_present, present, sale_answer, cancel_answer}
use Rattle.sales.specs.Reading.{booking_at, count_answer, entry_answer, find_answer}
use Rattle.sales.specs.declared.Outcome.TheVariants.{Booked, AlreadyBooked}
use Rattle.sales.specs.Balances.{balance_answer, total_answer}
use Rattle.sales.specs.History.{Number, is_number}
use Rattle.sales.specs.Helpers.{again_answer}
use Rattle.sales.proofs.SaleAndCancel.{at_place_lem}
use Rattle.sales.proofs.AnswersByCase.{sale_no_number, present_again, again_same, again_other, sale_full, sale_first, quote_priced, quote_refused, looked, looked_no_number, looked_unknown, looked_present, cancel_refused, cancel_answered, find_refused, find_answered}

-- A BALANCE of a railway 1 to 9999, and of another, and THE TOTAL: what is due from the questions of the entries that are not cancelled
module _ (book : List ℕ) (sound : Sound book) where
  pub book_balance : (railway : ℕ) → 1 ≤ railway → railway ≤ 9999 → balance_answer book railway ≡ Ok (due_in (carried_by railway) (entries book))
  unfolding balance_answer first_fault is_railway
  book_balance railway a b =
      let f = means_sound book sound in
      rw (f, le-leb 1 railway a, le-leb railway 9999 b) (ap Ok (balance_due book f railway))

  pub no_railway : (railway : ℕ) → (Within 1 9999 railway → ⊥) → balance_answer book railway ≡ Err (refuse OutsideLimits 0 0)
  unfolding balance_answer first_fault is_railway
  no_railway railway outside =
      let f = refuted (leb 1 railway && leb railway 9999) (λ e. outside (in_range 1 railway 9999 e)) in
      rw (means_sound book sound, f)

  pub book_total : total_answer book ≡ Ok (due_in any_leg (entries book))
  unfolding total_answer first_fault
  book_total = let f = means_sound book sound in rw f (ap Ok (total_due book f))

  -- THE SALES: how many, one at an entry, and none from the count on
  pub book_count : count_answer book ≡ Ok (count_of book)
  unfolding count_answer first_fault
  book_count = rw (means_sound book sound) (ap Ok (entries_length book))

  pub sale_at : (i : ℕ) → i < count_of book → entry_answer book i ≡ Ok (booking_at i (entry_at book i))
  unfolding entry_answer first_fault
  sale_at i l = rw (means_sound book sound, entries_length book, lt-ltb i (count_of book) l) (ap (λ e. Ok (booking_at i e)) (entry_is book i l))

  -- the number of its status is the word that the entry has
  pub status_at : (i : ℕ) → i < count_of book → number_of_status (status_of (entry_at book i).status) ≡ (entry_at book i).status
  status_at i l =
      let good = (is_sound book (means_sound book sound)).good in
      let inside : i < length (entries book) = rw (entries_length book) l in
      status_again (entry_at book i) (rw (entry_is book i l) at (every_at entry_sound (entries book) good i no_entry inside))

  pub no_sale_at : (i : ℕ) → count_of book ≤ i → entry_answer book i ≡ Err (refuse SaleUnknown 0 0)
  unfolding entry_answer first_fault
  no_sale_at i l = rw (means_sound book sound, entries_length book, le-ltb i (count_of book) l)

-- A SALE, A CANCELLATION and A FIND
module _ (book : List ℕ) (sound : Sound book) (n : Number) where
  abbrev t : ℕ
  t = n.till

  abbrev u : ℕ
  u = n.sequence

  found_sound : IsSound book
  found_sound = is_sound book (means_sound book sound)

  -- A number outside its limits,
  pub sale_without_number : is_number n ≡ false → (bundle : List ℕ) (q : Question) → sale_answer book t u bundle q ≡ Err (refuse NumberOutside 0 0)
  sale_without_number e bundle q = sale_no_number book t u bundle q (means_sound book sound) e

  pub cancel_without_number : is_number n ≡ false → cancel_answer book t u ≡ Err (refuse NumberOutside 0 0)
  cancel_without_number e = cancel_refused book t u (looked_no_number book t u (means_sound book sound) e)

  pub find_without_number : is_number n ≡ false → find_answer book t u ≡ Err (refuse NumberOutside 0 0)
  find_without_number e = find_refused book t u (looked_no_number book t u (means_sound book sound) e)

  module _ (number : is_number n ≡ true) where
    -- one that an entry has: a sale of the same question, of another, and a cancellation,
    module _ (i : ℕ) (l : i < count_of book) (h : Holds book i t u) where
      abbrev entry : Entry
      entry = entry_at book i

      inside : i < length (entries book)
      inside = rw (entries_length book) l

      pub there : (is_present book t u ≡ true) × (place book t u ≡ i)
      there = at_place_lem book found_sound t u i inside (rw (entry_is book i l, eq-eqb _ _ h.0, eq-eqb _ _ h.1))

      the_entry : present book t u ≡ entry
      the_entry = ap (λ k. get_or (entries book) k no_entry) there.1 ∙ entry_is book i l

      well : entry_sound entry ≡ true
      well = rw (entry_is book i l) at (every_at entry_sound (entries book) found_sound.good i no_entry inside)

      asked_words : question_words (question_of entry.asked) ≡ entry.asked
      asked_words = asked_again entry.asked (sound_entry entry well).asked_well

      pub sent_again : (bundle : List ℕ) (q : Question) → sale_answer book t u bundle q ≡ again_answer entry i q
      sent_again bundle q =
          present_again book t u bundle q (means_sound book sound) number there.0 ∙ ap₂ (λ x k. again_answer x k q) the_entry there.1

      pub same_sale : (bundle : List ℕ) (q : Question) → SameQuestion (question_of entry.asked) q
          → sale_answer book t u bundle q ≡ Ok (receipt (AlreadyBooked (status_of entry.status)) entry.parts)
      same_sale bundle q e =
          sent_again bundle q ∙ again_same entry i q (ap (λ ws. same ws (question_words q)) (sym asked_words) ∙ same_words (question_of entry.asked) q e)

      pub other_sale : (bundle : List ℕ) (q : Question) → (SameQuestion (question_of entry.asked) q → ⊥)
          → sale_answer book t u bundle q ≡ Err (refuse NumberTaken i 0)
      other_sale bundle q other =
          let few = few_legs entry.asked (sound_entry entry well).asked_well in
          sent_again bundle q ∙ again_other entry i q (ap (λ ws. same ws (question_words q)) (sym asked_words) ∙ other_words (question_of entry.asked) q few other)

      found : looked book t u ≡ clean
      found = looked_present book t u (means_sound book sound) number there.0

      pub known_cancel : cancel_answer book t u ≡ Ok (cancel_receipt entry)
      known_cancel = cancel_answered book t u found ∙ ap (λ e. Ok (cancel_receipt e)) the_entry

      pub known_find : find_answer book t u ≡ Ok (booking_at i entry)
      known_find = find_answered book t u found ∙ ap₂ (λ k e. Ok (booking_at k e)) there.1 the_entry

    -- and one that no entry has: a cancellation, a sale in a full book,
    module _ (nowhere : HeldNowhere book t u) where
      absent : count_of book ≤ place book t u
      absent = ⊎_elim held (λ h. h) (side (place book t u) (count_of book))
        where
          held : place book t u < count_of book → count_of book ≤ place book t u
          held h =
              let k = held_here t u (entries book) (rw (entries_length book) h) in
              absurd (nowhere (place book t u) h (has_number_lem t u (entry_at book (place book t u)) (rw (entry_is book (place book t u) h) at k)))

      pub unknown_cancel : cancel_answer book t u ≡ Err (refuse SaleUnknown 0 0)
      unknown_cancel = cancel_refused book t u (looked_unknown book t u (means_sound book sound) number absent)

      pub unknown_find : find_answer book t u ≡ Err (refuse SaleUnknown 0 0)
      unknown_find = find_refused book t u (looked_unknown book t u (means_sound book sound) number absent)

      module _ (bundle : List ℕ) (q : Question) where
        pub sale_when_full : 256 ≤ count_of book → sale_answer book t u bundle q ≡ Err (refuse BookFull 0 0)
        sale_when_full f = sale_full book t u bundle q (means_sound book sound) number absent f

        -- and in one with room: booked with the parts of its fare, or refused as its fare is.
        module _ (room : count_of book < 256) where
          pub sale_booked : (quote : Quote) → fare_of bundle q ≡ Ok quote → sale_answer book t u bundle q ≡ Ok (receipt Booked quote.parts)
          sale_booked quote e = sale_first book t u bundle q (means_sound book sound) number absent room ∙ quote_priced bundle q quote e

          pub sale_refused : (why : Refusal) → fare_of bundle q ≡ Err why → sale_answer book t u bundle q ≡ Err why
          sale_refused why e = sale_first book t u bundle q (means_sound book sound) number absent room ∙ quote_refused bundle q why e
