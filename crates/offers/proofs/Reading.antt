-- THE PROMISES of the calls that read a book: how many sales it has, the sale at an entry, and the sale of a number.
-- Assumes nothing.
use Prim.Native.Nat.{ℕ, ◌≤◌, ◌<◌}
use mathlib.Core.Path.{◌≡◌, refl, ap}
use mathlib.Core.Bool.{true, false}
use mathlib.Core.List.{List, [], ◌∷◌, ◌++◌}
use lib.ListN.{length, get_or, replicate}
use Rattle.std.specs.Prelude.{Ok}
use Rattle.fares.specs.declared.Question.{Question}
use Rattle.book.specs.Words.{count_of, entry_at, question_of}
use Rattle.book.specs.Status.{number_of_status}
use Rattle.book.specs.Meaning.{Sound, Holds, HeldNowhere}
use Rattle.book.specs.SameQuestion.{SameQuestion}
use Rattle.sales.specs.Sales.{sale_answer}
use Rattle.sales.specs.Reading.{booking_at, count_answer, entry_answer, find_answer, IsSale}
use Rattle.sales.specs.declared.Booking.{Booking}
use Rattle.sales.specs.History.{Number, no_number, Op, sale, empty_book, after, cancelled_in, booked_by, is_in, is_number}
use Rattle.sales.proofs.Unsound.{unsound_count, unsound_entry, unsound_find}
use Rattle.sales.proofs.InAnyBook.{book_count, sale_at, status_at, no_sale_at, find_without_number, same_sale, known_find, unknown_find}
use Rattle.sales.proofs.SentFirst.{count_is_told, number_is_told, nothing_behind, unknown_is_not_found}
use Rattle.sales.proofs.SentAgain.{found_again, listed_again}
use Rattle.offers.specs.Answers.{Told, answers, refuses, tells_values, booked, already_booked, outcome_values, receipt_tells, tally_tells, question_values, booking_values, booking_width, booking_tells}
use Rattle.offers.proofs.Orders.{told_booked, first_parts}

-- refused, with every value zero
abbrev no_sale : ℕ → Told
no_sale number = refuses number 0 0 (replicate booking_width 0)

-- Nothing is read of an unsound book.
module _ (book : List ℕ) (unsound : Sound book → ⊥) where
  pub an_unsound_book_is_not_counted : tally_tells (count_answer book) ≡ refuses 21 0 0 (0 ∷ [])
  unfolding tells_values
  an_unsound_book_is_not_counted = rw (unsound_count book unsound)

  pub an_unsound_book_lists_nothing : (i : ℕ) → booking_tells (entry_answer book i) ≡ no_sale 21
  unfolding tells_values
  an_unsound_book_lists_nothing i = rw (unsound_entry book unsound i)

  pub nothing_is_found_in_an_unsound_book : (till sequence : ℕ) → booking_tells (find_answer book till sequence) ≡ no_sale 21
  unfolding tells_values
  nothing_is_found_in_an_unsound_book till sequence = rw (unsound_find book unsound till sequence)

-- Of a sound one its count is told, and the sale at each entry before that; from there on there is none (25).
module _ (book : List ℕ) (sound : Sound book) where
  pub a_sound_book_is_counted : tally_tells (count_answer book) ≡ answers (count_of book ∷ [])
  unfolding tells_values
  a_sound_book_is_counted = rw (book_count book sound)

  pub an_entry_is_listed : (i : ℕ) → i < count_of book → booking_tells (entry_answer book i) ≡ answers (booking_values (booking_at i (entry_at book i)))
  unfolding tells_values
  an_entry_is_listed i l = rw (sale_at book sound i l)

  -- What a listing and a find tell of an entry: its place, its number, its status by the number that is its word, what was asked, and its parts.
  pub an_entry_is_told_by_its_words : (i : ℕ) → i < count_of book → let e = entry_at book i in
      booking_values (booking_at i e) ≡ i ∷ e.till ∷ e.sequence ∷ e.status ∷ (question_values (question_of e.asked) ++ e.parts)
  an_entry_is_told_by_its_words i l =
      let e = entry_at book i in
      ap (λ word. i ∷ e.till ∷ e.sequence ∷ word ∷ (question_values (question_of e.asked) ++ e.parts)) (status_at book sound i l)

  pub nothing_is_listed_behind_the_entries : (i : ℕ) → count_of book ≤ i → booking_tells (entry_answer book i) ≡ no_sale 25
  unfolding tells_values
  nothing_is_listed_behind_the_entries i l = rw (no_sale_at book sound i l)

  -- A number outside its limits is refused with 22, and one that no entry holds with 25. One that entry i holds is told that entry; and what is told so is what its
  -- sale is told if it is sent again.
  module _ (n : Number) where
    pub no_number_nothing_found : is_number n ≡ false → booking_tells (find_answer book n.till n.sequence) ≡ no_sale 22
    unfolding tells_values
    no_number_nothing_found e = rw (find_without_number book sound n e)

    pub what_no_entry_holds_is_not_found : is_number n ≡ true → HeldNowhere book n.till n.sequence → booking_tells (find_answer book n.till n.sequence) ≡ no_sale 25
    unfolding tells_values
    what_no_entry_holds_is_not_found number nowhere = rw (unknown_find book sound n number nowhere)

    module _ (number : is_number n ≡ true) (i : ℕ) (inside : i < count_of book) (held : Holds book i n.till n.sequence) where
      pub what_an_entry_holds_is_found : booking_tells (find_answer book n.till n.sequence) ≡ answers (booking_values (booking_at i (entry_at book i)))
      unfolding tells_values
      what_an_entry_holds_is_found = rw (known_find book sound n number i inside held)

      pub what_is_found_is_told_again : (bundle : List ℕ) → (found : Booking) × (find_answer book n.till n.sequence ≡ Ok found)
          × (receipt_tells (sale_answer book n.till n.sequence bundle found.question) ≡ answers (already_booked ∷ number_of_status found.status ∷ found.parts))
      unfolding tells_values outcome_values
      what_is_found_is_told_again bundle =
          (booking_at i (entry_at book i), known_find book sound n number i inside held, rw (same_sale book sound n number i inside held bundle _ the_same))
        where
          the_same : {q : Question} → SameQuestion q q
          the_same = record { offer = refl; day = refl; persons = refl; cards = λ k l. refl; count = refl; railways = λ k l. refl; fares = λ k l. refl }

-- After any sales and cancellations from the empty book there are as many sales as numbers were booked, each in its turn; and a number that was never booked is
-- not found (25).
module _ (ops : List Op) where
  abbrev book : List ℕ
  book = after empty_book ops

  pub as_many_are_counted_as_were_booked : tally_tells (count_answer book) ≡ answers (length (booked_by [] ops) ∷ [])
  unfolding tells_values
  as_many_are_counted_as_were_booked = rw (count_is_told ops)

  pub they_are_listed_as_they_were_booked : (k : ℕ) → k < length (booked_by [] ops) → let n = get_or (booked_by [] ops) k no_number in
      (s : Booking) × (entry_answer book k ≡ Ok s) × (s.till ≡ n.till) × (s.sequence ≡ n.sequence)
  they_are_listed_as_they_were_booked = number_is_told ops

  pub no_more_are_listed_than_were_booked : (k : ℕ) → length (booked_by [] ops) ≤ k → booking_tells (entry_answer book k) ≡ no_sale 25
  unfolding tells_values
  no_more_are_listed_than_were_booked k l = rw (nothing_behind ops k l)

  pub a_number_never_booked_is_not_found : (n : Number) → is_number n ≡ true → is_in n (booked_by [] ops) ≡ false → booking_tells (find_answer book n.till n.sequence) ≡ no_sale 25
  unfolding tells_values
  a_number_never_booked_is_not_found n number new = rw (unknown_is_not_found ops n number new)

-- A sale booked in any history is found after any other: at its place among the sales booked, with its number, the question that was asked, the very parts that it
-- was told first, and whether it was cancelled afterwards. The list has it at that place.
module _ (first : List Op) (n : Number) (bundle : List ℕ) (q : Question) (more : List Op) (parts : List ℕ)
    (sold : receipt_tells (sale_answer (after empty_book first) n.till n.sequence bundle q) ≡ answers (booked ∷ 0 ∷ parts)) where
  abbrev later : List ℕ
  later = after empty_book (first ++ (sale n bundle q ∷ more))

  pub a_sale_booked_is_found_as_it_was_sold : IsSale (find_answer later n.till n.sequence) (length (booked_by [] first)) n q parts (cancelled_in n more)
  a_sale_booked_is_found_as_it_was_sold =
      let b = told_booked _ parts sold in
      rw (first_parts _ _ _ bundle q parts sold) at (found_again first n bundle q more b.1 b.2)

  pub the_list_has_it_at_its_place : entry_answer later (length (booked_by [] first)) ≡ find_answer later n.till n.sequence
  the_list_has_it_at_its_place = let b = told_booked _ parts sold in listed_again first n bundle q more b.1 b.2
