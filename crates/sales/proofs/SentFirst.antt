-- What is read after any history; and what a sale and a cancellation of a number that is not booked are told, and a find of it, by the history and the fare alone.
-- Assumes nothing.
use Prim.Native.Nat.{ℕ, ◌≤◌, ◌<◌}
use mathlib.Core.Path.{◌≡◌, sym, ◌∙◌, ap}
use mathlib.Core.Bool.{true, false}
use mathlib.Core.List.{List, []}
use native.Mathlib.Omega.{arith}
use lib.ListN.{length, get_or, length-map}
use borrow.Author.Tests.{eq-eqb}
use Rattle.std.specs.Prelude.{Ok, Err}
use Rattle.common.specs.declared.reasons.Reason.TheVariants.{BookFull, SaleUnknown}
use Rattle.common.specs.Checks.{refuse}
use Rattle.common.specs.declared.Refusal.{Refusal}
use Rattle.common.proofs.Sums.{map_at}
use Rattle.common.proofs.Tests.{never}
use Rattle.fares.specs.Fare.{fare_of}
use Rattle.fares.specs.declared.Question.{Question}
use Rattle.fares.specs.declared.Quote.{Quote}
use Rattle.book.specs.Words.{no_entry, count_of, entry_at, entries}
use Rattle.book.specs.Meaning.{Sound, HeldNowhere}
use Rattle.book.proofs.BookMeaning.{sound_means}
use Rattle.book.proofs.SoundBook.{entry_is, entries_length}
use Rattle.sales.specs.Sales.{receipt, sale_answer, cancel_answer}
use Rattle.sales.specs.History.{Number, no_number, Op, empty_book, after, is_in, is_number, booked_by}
use Rattle.sales.specs.Reading.{booking_at, count_answer, entry_answer, find_answer}
use Rattle.sales.specs.declared.Outcome.TheVariants.{Booked}
use Rattle.sales.specs.declared.Booking.{Booking}
use Rattle.sales.proofs.SaleAndCancel.{sale_number_of, present_is, at_place_lem}
use Rattle.sales.proofs.BalanceIsOwed.{stays_sound, empty_sound, always_sound, booked_numbers}
use Rattle.sales.proofs.InAnyBook.{book_count, sale_at, no_sale_at, unknown_cancel, unknown_find, sale_when_full, sale_booked, sale_refused}

module _ (ops : List Op) where
  abbrev book : List ℕ
  book = after empty_book ops

  pub always_meant : Sound book
  always_meant = sound_means book (always_sound ops)

  pub booked_count : count_of book ≡ length (booked_by [] ops)
  booked_count = sym (entries_length book) ∙ (sym (length-map (entries book) sale_number_of) ∙ ap length (booked_numbers ops))

  -- How many sales are read, and each of them has the number that was booked in its turn; none is read behind them.
  pub count_is_told : count_answer book ≡ Ok (length (booked_by [] ops))
  count_is_told = book_count book always_meant ∙ ap Ok booked_count

  pub number_is_told : (k : ℕ) → k < length (booked_by [] ops) → let n = get_or (booked_by [] ops) k no_number in
      (s : Booking) × (entry_answer book k ≡ Ok s) × (s.till ≡ n.till) × (s.sequence ≡ n.sequence)
  number_is_told k l =
      let m : k < count_of book = omega (arith, booked_count) in
      let e : sale_number_of (entry_at book k) ≡ get_or (booked_by [] ops) k no_number =
      ap sale_number_of (sym (entry_is book k m))
      ∙ (sym (map_at sale_number_of (entries book) k no_number no_entry (rw (entries_length book) m)) ∙ ap (λ ns. get_or ns k no_number) (booked_numbers ops)) in
      (booking_at k (entry_at book k), sale_at book always_meant k m, ap (λ (x : Number). x.till) e, ap (λ (x : Number). x.sequence) e)

  pub nothing_behind : (k : ℕ) → length (booked_by [] ops) ≤ k → entry_answer book k ≡ Err (refuse SaleUnknown 0 0)
  nothing_behind k l = no_sale_at book always_meant k (omega (arith, booked_count))

  module _ (n : Number) (number : is_number n ≡ true) (new : is_in n (booked_by [] ops) ≡ false) where
    -- a number that the history does not book is held nowhere
    nowhere : HeldNowhere book n.till n.sequence
    nowhere i l h =
        let m : i < length (entries book) = omega (arith, entries_length book) in
        let p = (at_place_lem book (stays_sound ops empty_book empty_sound) n.till n.sequence i m (rw (entry_is book i l, eq-eqb _ _ h.0, eq-eqb _ _ h.1))).0 in
        never (sym (present_is book n ∙ ap (is_in n) (booked_numbers ops)) ∙ p) new

    -- A cancellation, and a find; a sale after 256 bookings,
    pub unknown_is_told : cancel_answer book n.till n.sequence ≡ Err (refuse SaleUnknown 0 0)
    unknown_is_told = unknown_cancel book always_meant n number nowhere

    pub unknown_is_not_found : find_answer book n.till n.sequence ≡ Err (refuse SaleUnknown 0 0)
    unknown_is_not_found = unknown_find book always_meant n number nowhere

    module _ (bundle : List ℕ) (q : Question) where
      pub full_is_told : 256 ≤ length (booked_by [] ops) → sale_answer book n.till n.sequence bundle q ≡ Err (refuse BookFull 0 0)
      full_is_told f = sale_when_full book always_meant n number nowhere bundle q (omega (arith, booked_count))

      -- and before: booked with the parts of its fare, or refused as its fare is.
      module _ (fewer : length (booked_by [] ops) < 256) where
        room : count_of book < 256
        room = omega (arith, booked_count)

        pub first_is_booked : (quote : Quote) → fare_of bundle q ≡ Ok quote → sale_answer book n.till n.sequence bundle q ≡ Ok (receipt Booked quote.parts)
        first_is_booked quote e = sale_booked book always_meant n number nowhere bundle q room quote e

        pub first_is_refused : (why : Refusal) → fare_of bundle q ≡ Err why → sale_answer book n.till n.sequence bundle q ≡ Err why
        first_is_refused why e = sale_refused book always_meant n number nowhere bundle q room why e
