-- DEMAND 3, its second half: a sale that is sent again is told its first amounts and changes nothing, and a number used again for another sale is
-- refused; cancelled or not, after any history. A cancellation of it tells its first amounts too, and reading it tells the sale.
-- Assumes nothing.
use Prim.Native.Nat.{ℕ, ◌≤◌, ◌<◌}
use mathlib.Core.Path.{◌≡◌, refl, sym, ◌∙◌, ap}
use mathlib.Core.Bool.{Bool, true, false, cond, ◌||◌, and-false}
use mathlib.Core.List.{List, [], ◌∷◌, ◌++◌}
use native.Mathlib.Omega.{arith}
use lib.Dec.{eqb}
use lib.ListN.{length, get_or, length-append, length-map, get_or-append}
use lib.Seq.{get_or_at}
use borrow.Author.Tests.{eq-eqb}
use Rattle.std.specs.Prelude.{Ok, Err}
use Rattle.common.specs.declared.reasons.Reason.TheVariants.{NumberTaken}
use Rattle.common.specs.Lists.{same}
use Rattle.common.specs.Checks.{refuse}
use Rattle.common.proofs.Lists.{is_same}
use Rattle.common.proofs.Sums.{map_at}
use Rattle.bundle.specs.Records.{records_of}
use Rattle.fares.specs.Fare.{parts_of}
use Rattle.fares.specs.declared.Question.{Question}
use Rattle.book.specs.Words.{Entry, no_entry, count_of, entries, entry_at, question_of, question_words, booking}
use Rattle.book.specs.Status.{status_of}
use Rattle.book.specs.declared.status.Status.TheVariants as status
use Rattle.book.specs.Sound.{has_number}
use Rattle.book.specs.SameQuestion.{SameQuestion}
use Rattle.book.specs.Meaning.{Sound, Holds}
use Rattle.sales.specs.Sales.{sale_answer, sale_words, cancel_answer, cancel_words, is_booked, receipt}
use Rattle.sales.specs.declared.Receipt.{Receipt}
use Rattle.sales.specs.declared.Outcome.TheVariants.{Booked, AlreadyBooked, Cancelled, AlreadyCancelled}
use Rattle.sales.specs.History.{Number, Op, sale, cancel, empty_book, after, cancelled_in, is_number, books, booked_by}
use Rattle.sales.specs.Reading.{booking_at, entry_answer, find_answer, IsSale}
use Rattle.sales.specs.Helpers.{again_answer}
use Rattle.book.proofs.EntryWords.{cancelled_entry}
use Rattle.book.proofs.SoundBook.{IsSound, sound_is, entry_is, entries_length}
use Rattle.book.proofs.BookMeaning.{sound_means}
use Rattle.book.proofs.NumbersDiffer.{has_number_lem}
use Rattle.book.proofs.QuestionWords.{words_again, no_leg_said}
use Rattle.book.proofs.ComparedWords.{same_words, same_question, other_words}
use Rattle.fares.proofs.FareLaws.{asked}
use Rattle.book.proofs.StaysSound.{cancelling}
use Rattle.sales.proofs.SaleAndCancel.{sale_number_of, same_sale_number, sale_numbers_of, books_is, not_booked, sale_entries, sale_sound, cancel_after, books_number, books_priced, priced_in_limits}
use Rattle.sales.proofs.BalanceIsOwed.{stays_sound, empty_sound, booked_numbers}
use Rattle.sales.proofs.AnswersByCase.{booked_is, again_same, again_other}
use Rattle.sales.proofs.InAnyBook.{there, sent_again, known_cancel, known_find, sale_at}

-- an entry once booked: where it is, and cancelled if an operation cancels its number
abbrev later : Entry → List Op → Entry
later e ops = cond (cancelled_in (sale_number_of e) ops) (cancelled_entry e) e

pub record Stands (w : List ℕ) (i : ℕ) (e : Entry) : Type 0 where
  pub inside : i < length (entries w)
  pub is : get_or (entries w) i no_entry ≡ e

cancelled_twice : (c d : Bool) (e : Entry) → cond d (cancelled_entry (cond c (cancelled_entry e) e)) (cond c (cancelled_entry e) e) ≡ cond (c || d) (cancelled_entry e) e
cancelled_twice true true e = refl
cancelled_twice true false e = refl
cancelled_twice false true e = refl
cancelled_twice false false e = refl

-- a sale leaves it there
module _ (ops : List Op) (w : List ℕ) (s : IsSound w) (i : ℕ) (e : Entry) (h : Stands w i e) (n : Number) (b : List ℕ) (q : Question)
    (ih : (x : List ℕ) → IsSound x → (k : ℕ) (y : Entry) → Stands x k y → Stands (after x ops) k (later y ops)) where
  by_sale : (x : Bool) → books (sale_numbers_of (entries w)) n b q ≡ x → Stands (after (sale_words w n.till n.sequence b q) ops) i (later e ops)
  by_sale false z = rw (not_booked w s n b q z) (ih w s i e h)
  by_sale true z =
      let k = sale_entries w s n b q z in
      let new = booking n.till n.sequence q (parts_of (records_of b) q) in
      ih (sale_words w n.till n.sequence b q) (sale_sound w s n b q z) i e
      (record {
        inside = rw (k, length-append (entries w) (new ∷ [])) (omega (arith, h.inside));
        is = rw (k, get_or-append (entries w) (new ∷ []) no_entry i h.inside) h.is;
      })

-- every operation leaves it there
persists : (ops : List Op) (w : List ℕ) → IsSound w → (i : ℕ) (e : Entry) → Stands w i e → Stands (after w ops) i (later e ops)
unfolding after cancelled_in
persists [] w s i e h = h
persists (cancel n ∷ ops) w s i e h =
    let c = cancel_after w s n.till n.sequence in
    let x = cancelling n.till n.sequence e in
    let g : Stands (cancel_words w n.till n.sequence) i x =
    record {
      inside = rw (c.0, length-map (entries w) (cancelling n.till n.sequence)) h.inside;
      is = rw c.0 (map_at (cancelling n.till n.sequence) (entries w) i no_entry no_entry h.inside ∙ ap (cancelling n.till n.sequence) h.is);
    } in
    let r = persists ops (cancel_words w n.till n.sequence) c.1 i x g in
    let m : later x ops ≡ later e (cancel n ∷ ops) =
    ap (λ k. cond (cancelled_in k ops) (cancelled_entry x) x) (same_sale_number (has_number n.till n.sequence e) e)
    ∙ cancelled_twice (has_number n.till n.sequence e) (cancelled_in (sale_number_of e) ops) e in
    rw (← m) r
persists (sale n b q ∷ ops) w s i e h = by_sale ops w s i e h n b q (persists ops) (books (sale_numbers_of (entries w)) n b q) refl

-- one history after another
after_append : (w : List ℕ) (a b : List Op) → after w (a ++ b) ≡ after (after w a) b
unfolding after
after_append w [] b = refl
after_append w (sale n x q ∷ a) b = after_append (sale_words w n.till n.sequence x q) a b
after_append w (cancel n ∷ a) b = after_append (cancel_words w n.till n.sequence) a b

-- THE SALE SENT AGAIN, after a history in which it was booked
module _ (first : List Op) (n : Number) (b : List ℕ) (q : Question) (more : List Op) where
  abbrev start : List ℕ
  start = after empty_book first

  -- the book at the first booking, and the entry made there
  abbrev i : ℕ
  i = length (entries start)

  abbrev entry : Entry
  entry = booking n.till n.sequence q (parts_of (records_of b) q)

  abbrev now : List ℕ
  now = after empty_book (first ++ (sale n b q ∷ more))

  module _ {r : Receipt} (a : sale_answer start n.till n.sequence b q ≡ Ok r) (e : r.outcome ≡ Booked) where
    at_first : IsSound start
    at_first = stays_sound first empty_book empty_sound

    booked : books (sale_numbers_of (entries start)) n b q ≡ true
    booked = sym (books_is start at_first n b q) ∙ booked_is start n.till n.sequence b q a e

    abbrev sold : List ℕ
    sold = sale_words start n.till n.sequence b q

    sold_sound : IsSound sold
    sold_sound = sale_sound start at_first n b q booked

    made : Stands sold i entry
    made =
        let k = sale_entries start at_first n b q booked in
        record {
          inside = rw (k, length-append (entries start) (entry ∷ [])) (omega arith);
          is = rw k (get_or_at (entries start) entry [] no_entry i refl);
        }

    now_is : now ≡ after sold more
    unfolding after
    now_is = after_append empty_book first (sale n b q ∷ more)

    now_sound : IsSound now
    now_sound = rw now_is (stays_sound more sold sold_sound)

    stands : Stands now i (later entry more)
    stands = rw now_is (persists more sold sold_sound i entry made)

    its_number : has_number n.till n.sequence (later entry more) ≡ true
    its_number = numbered (cancelled_in n more)
      where
        numbered : (c : Bool) → has_number n.till n.sequence (cond c (cancelled_entry entry) entry) ≡ true
        numbered true = rw (eq-eqb n.till n.till refl, eq-eqb n.sequence n.sequence refl)
        numbered false = rw (eq-eqb n.till n.till refl, eq-eqb n.sequence n.sequence refl)

    number : is_number n ≡ true
    number = books_number start at_first n b q booked

    now_meant : Sound now
    now_meant = sound_means now (sound_is now now_sound)

    inside_now : i < count_of now
    inside_now = rw (entries_length now) at stands.inside

    the_entry : entry_at now i ≡ later entry more
    the_entry = sym (entry_is now i inside_now) ∙ stands.is

    holds : Holds now i n.till n.sequence
    holds = has_number_lem n.till n.sequence (entry_at now i) (ap (has_number n.till n.sequence) the_entry ∙ its_number)

    answered : (b' : List ℕ) (q' : Question) → sale_answer now n.till n.sequence b' q' ≡ again_answer (later entry more) i q'
    answered b' q' = sent_again now now_meant n number i inside_now holds b' q' ∙ ap (λ x. again_answer x i q') the_entry

    asked_is : (c : Bool) → (cond c (cancelled_entry entry) entry).asked ≡ question_words q
    asked_is true = refl
    asked_is false = refl

    kept : (c : Bool) → receipt (AlreadyBooked (status_of (cond c (cancelled_entry entry) entry).status)) (cond c (cancelled_entry entry) entry).parts
        ≡ receipt (AlreadyBooked (cond c status.Cancelled status.Live)) (parts_of (records_of b) q)
    kept true = refl
    kept false = refl

    -- told its first parts and its status if the question is the same,
    pub told_first : (b' : List ℕ) (q' : Question) → SameQuestion q q'
        → sale_answer now n.till n.sequence b' q' ≡ Ok (receipt (AlreadyBooked (cond (cancelled_in n more) status.Cancelled status.Live)) (parts_of (records_of b) q))
    told_first b' q' h =
        answered b' q'
        ∙ again_same (later entry more) i q' (ap (λ x. same x (question_words q')) (asked_is (cancelled_in n more)) ∙ same_words q q' h)
        ∙ ap Ok (kept (cancelled_in n more))

    behind_all : i ≡ length (booked_by [] first)
    behind_all = sym (length-map (entries start) sale_number_of) ∙ ap length (booked_numbers first)

    few_legs : q.count ≤ 8
    few_legs = (asked q (priced_in_limits b q (books_priced start at_first n b q booked))).few

    -- refused by 23 if it is another, at its entry: behind as many as were booked before it,
    pub refused_other : (b' : List ℕ) (q' : Question) → (SameQuestion q q' → ⊥)
        → sale_answer now n.till n.sequence b' q' ≡ Err (refuse NumberTaken (length (booked_by [] first)) 0)
    refused_other b' q' h =
        answered b' q'
        ∙ (again_other (later entry more) i q' (ap (λ x. same x (question_words q')) (asked_is (cancelled_in n more)) ∙ other_words q q' few_legs h)
        ∙ ap (λ k. Err (refuse NumberTaken k 0)) behind_all)

    -- and nothing changes
    pub nothing_changes : (b' : List ℕ) (q' : Question) → sale_words now n.till n.sequence b' q' ≡ now
    unfolding sale_words is_booked
    nothing_changes b' q' = rw ((there now now_meant n number i inside_now holds).0, and-false)

    -- A cancellation of it tells the same parts, and whether it was cancelled before.
    cancelled_by : (c : Bool) → let x : Entry = cond c (cancelled_entry entry) entry in
        receipt (cond (eqb x.status 0) Cancelled AlreadyCancelled) x.parts ≡ receipt (cond c AlreadyCancelled Cancelled) (parts_of (records_of b) q)
    cancelled_by true = refl
    cancelled_by false = refl

    pub cancel_told : cancel_answer now n.till n.sequence ≡ Ok (receipt (cond (cancelled_in n more) AlreadyCancelled Cancelled) (parts_of (records_of b) q))
    cancel_told =
        known_cancel now now_meant n number i inside_now holds
        ∙ ap Ok (ap (λ (x : Entry). receipt (cond (eqb x.status 0) Cancelled AlreadyCancelled) x.parts) the_entry ∙ cancelled_by (cancelled_in n more))

    -- A find tells it: where it stands, as it was asked and first priced, and whether it is cancelled; and so does its entry.
    read_back : SameQuestion q (question_of (question_words q))
    read_back = same_question q (question_of (question_words q)) few_legs (is_same _ _ (sym (words_again q)))

    as_sold : (c : Bool) → IsSale (Ok (booking_at i (cond c (cancelled_entry entry) entry))) i n q (parts_of (records_of b) q) c
    as_sold true = record { sale = booking_at i (cancelled_entry entry); found = refl; entry = refl; till = refl; sequence = refl; question = read_back; unused = no_leg_said q; amounts = refl; status = refl }
    as_sold false = record { sale = booking_at i entry; found = refl; entry = refl; till = refl; sequence = refl; question = read_back; unused = no_leg_said q; amounts = refl; status = refl }

    found_at : find_answer now n.till n.sequence ≡ Ok (booking_at i (later entry more))
    found_at = known_find now now_meant n number i inside_now holds ∙ ap (λ x. Ok (booking_at i x)) the_entry

    pub found_again : IsSale (find_answer now n.till n.sequence) (length (booked_by [] first)) n q (parts_of (records_of b) q) (cancelled_in n more)
    found_again = rw (found_at, ← behind_all) (as_sold (cancelled_in n more))

    pub listed_again : entry_answer now (length (booked_by [] first)) ≡ find_answer now n.till n.sequence
    listed_again =
        ap (entry_answer now) (sym behind_all)
        ∙ (sale_at now now_meant i inside_now ∙ sym (known_find now now_meant n number i inside_now holds))
