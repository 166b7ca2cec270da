-- DEMAND 3, proved: after any history from the empty book the balance is what the history alone tells. By induction over the operations, from any
-- sound book: what its entries come to once the operations have gone over them, and what the sales among these add.
-- Assumes nothing.
use Prim.Native.Nat.{ℕ, ◌+◌, ◌≤◌}
use mathlib.Core.Path.{◌≡◌, refl, ◌∙◌, ap, ap₂}
use mathlib.Core.Bool.{Bool, true, false, cond, ◌||◌}
use mathlib.Core.List.{List, [], ◌∷◌, ◌++◌, map, map-append}
use native.Mathlib.Omega.{arith}
use lib.ListN.{replicate, length-replicate, get_or-replicate}
use borrow.Author.Tests.{le-leb}
use Rattle.common.specs.Lists.{sum, every, up_to}
use Rattle.common.specs.Least.{least}
use Rattle.common.specs.Checks.{first_fault}
use Rattle.common.proofs.Sums.{sum_append}
use Rattle.common.proofs.Tests.{either_way}
use Rattle.common.proofs.Lists.{every_drop, every_replicate}
use Rattle.layout.specs.Company.{is_railway}
use Rattle.bundle.specs.Records.{records_of}
use Rattle.fares.specs.Fare.{parts_of}
use Rattle.fares.specs.declared.Leg.{Leg}
use Rattle.fares.specs.declared.Question.{Question}
use Rattle.book.specs.Words.{Entry, entries, count_of, book_length, booking, start_of}
use Rattle.book.specs.Sound.{is_zero, has_number, numbers_differ, sound_words}
use Rattle.book.specs.Amounts.{live_amount, balance_of}
use Rattle.book.specs.Due.{carried_by, any_leg}
use Rattle.sales.specs.Sales.{sale_words, cancel_words}
use Rattle.sales.specs.History.{Number, Op, sale, cancel, empty_book, after, cancelled_in, books, booked_by, owed}
use Rattle.sales.specs.Balances.{balance_answer, total_answer}
use Rattle.std.specs.Prelude.{Ok}
use Rattle.book.proofs.EntryWords.{cancelled_entry}
use Rattle.book.proofs.SoundBook.{IsSound, sound_is}
use Rattle.book.proofs.StaysSound.{cancelling}
use Rattle.book.proofs.AmountsAreDue.{Counts, counts_railway, counts_all}
use Rattle.sales.proofs.SaleAndCancel.{sale_number_of, same_sale_number, sale_numbers_of, not_booked, sold_due, books_priced, sale_entries, sale_sound, cancel_after}

-- what the entries of a book come to once the operations have gone over them: those that are live and that no operation cancels
abbrev lasting : (List ℕ → List ℕ → ℕ) → List Op → Entry → ℕ
lasting f ops e = cond (cancelled_in (sale_number_of e) ops) 0 (live_amount f e)

rest : (List ℕ → List ℕ → ℕ) → List Op → List Entry → ℕ
rest f ops es = sum (map (lasting f ops) es)

-- one entry more
rest_more : (f : List ℕ → List ℕ → ℕ) (ops : List Op) (es : List Entry) (e : Entry) → rest f ops (es ++ (e ∷ [])) ≡ rest f ops es + lasting f ops e
unfolding rest sum
rest_more f ops es e =
    rw (map-append (lasting f ops) es (e ∷ [])) (omega (arith, sum_append (map (lasting f ops) es) (lasting f ops e ∷ [])))

-- an entry that is cancelled now is one that is cancelled by an operation
lasting_cancelled : (f : List ℕ → List ℕ → ℕ) (ops : List Op) (n : Number) (e : Entry) (b : Bool) → has_number n.till n.sequence e ≡ b
    → lasting f ops (cond b (cancelled_entry e) e) ≡ cond (b || cancelled_in (sale_number_of e) ops) 0 (live_amount f e)
lasting_cancelled f ops n e true h = either_way (cancelled_in (sale_number_of e) ops) 0
lasting_cancelled f ops n e false h = refl

rest_cancelled : (f : List ℕ → List ℕ → ℕ) (ops : List Op) (n : Number) (es : List Entry) → rest f ops (map (cancelling n.till n.sequence) es) ≡ rest f (cancel n ∷ ops) es
unfolding rest sum cancelled_in
rest_cancelled f ops n [] = refl
rest_cancelled f ops n (e ∷ es) =
    ap₂ ◌+◌ (lasting_cancelled f ops n e (has_number n.till n.sequence e) refl) (rest_cancelled f ops n es)

numbers_stay : (t s : ℕ) (es : List Entry) → sale_numbers_of (map (cancelling t s) es) ≡ sale_numbers_of es
numbers_stay t s [] = refl
numbers_stay t s (e ∷ es) = ap₂ ◌∷◌ (same_sale_number (has_number t s e) e) (numbers_stay t s es)

-- a sale cancels nothing
rest_sale : (f : List ℕ → List ℕ → ℕ) (ops : List Op) (n : Number) (b : List ℕ) (q : Question) (es : List Entry) → rest f (sale n b q ∷ ops) es ≡ rest f ops es
unfolding rest cancelled_in
rest_sale f ops n b q es = refl

rest_none : (f : List ℕ → List ℕ → ℕ) (es : List Entry) → rest f [] es ≡ balance_of f es
unfolding rest cancelled_in balance_of
rest_none f es = refl

-- THE INDUCTION over the operations, from any sound book: what it comes to, which numbers it has, and that it is sound
record Told (f : List ℕ → List ℕ → ℕ) (legs : Leg → Bool) (ops : List Op) (w : List ℕ) : Type 0 where
  balance : balance_of f (entries (after w ops)) ≡ rest f ops (entries w) + owed legs (sale_numbers_of (entries w)) ops
  numbers : sale_numbers_of (entries (after w ops)) ≡ booked_by (sale_numbers_of (entries w)) ops
  sound : IsSound (after w ops)

module _ {f : List ℕ → List ℕ → ℕ} {legs : Leg → Bool} (c : Counts f legs) where
  module _ (ops : List Op) (w : List ℕ) (s : IsSound w) (n : Number) (b : List ℕ) (q : Question)
      (ih : (x : List ℕ) → IsSound x → Told f legs ops x) where
    abbrev es : List Entry
    es = entries w

    abbrev entry : Entry
    entry = booking n.till n.sequence q (parts_of (records_of b) q)

    by_sale : (x : Bool) → books (sale_numbers_of es) n b q ≡ x → Told f legs (sale n b q ∷ ops) w
    unfolding after owed booked_by
    by_sale false e =
        let h = ih w s in
        let k = not_booked w s n b q e in
        record {
          balance = rw (k, e) (h.balance ∙ rw (rest_sale f ops n b q es));
          numbers = rw (k, e) h.numbers;
          sound = rw k h.sound;
        }
    by_sale true e =
        let h = ih (sale_words w n.till n.sequence b q) (sale_sound w s n b q e) in
        let k = sale_entries w s n b q e in
        let m : sale_numbers_of (es ++ (entry ∷ [])) ≡ sale_numbers_of es ++ (n ∷ []) = map-append sale_number_of es (entry ∷ []) in
        let d = sold_due b q (books_priced w s n b q e) c in
        record {
          balance = rw e (h.balance ∙ rw (k, m, rest_more f ops es entry, d) (omega (arith, rest_sale f ops n b q es)));
          numbers = rw e (h.numbers ∙ rw (k, m));
          sound = h.sound;
        }

  told_so_far : (ops : List Op) (w : List ℕ) → IsSound w → Told f legs ops w
  unfolding after owed booked_by
  told_so_far [] w s = record { balance = rw (← rest_none f (entries w)) (omega arith); numbers = refl; sound = s }
  told_so_far (cancel n ∷ ops) w s =
      let a = cancel_after w s n.till n.sequence in
      let ih = told_so_far ops (cancel_words w n.till n.sequence) a.1 in
      let m = ap sale_numbers_of a.0 ∙ numbers_stay n.till n.sequence (entries w) in
      record {
        balance = ih.balance ∙ rw (m, a.0, rest_cancelled f ops n (entries w));
        numbers = ih.numbers ∙ rw m;
        sound = ih.sound;
      }
  told_so_far (sale n b q ∷ ops) w s = by_sale ops w s n b q (told_so_far ops) (books (sale_numbers_of (entries w)) n b q) refl

-- THE EMPTY BOOK is sound and has no entry
module _ (m : ℕ) (e : m ≡ book_length) where
  abbrev zeros : List ℕ
  zeros = replicate m 0

  zero_count : count_of zeros ≡ 0
  zero_count = get_or-replicate m 0 0 0 (omega arith)

  zero_entries : entries zeros ≡ []
  unfolding entries up_to
  zero_entries = rw zero_count

  zero_sound : IsSound zeros
  unfolding every numbers_differ least
  zero_sound =
      record {
        long = length-replicate {A = ℕ} m 0 ∙ e;
        few = omega (arith, zero_count);
        good = rw zero_entries;
        differ = rw zero_entries;
        clear = every_drop is_zero zeros (start_of (count_of zeros)) (every_replicate is_zero 0 refl m);
      }

pub empty_entries : entries empty_book ≡ []
unfolding empty_book
empty_entries = zero_entries book_length refl

pub empty_sound : IsSound empty_book
unfolding empty_book
empty_sound = zero_sound book_length refl

-- AFTER ANY HISTORY from the empty book: the book is sound,
pub stays_sound : (ops : List Op) (w : List ℕ) → IsSound w → IsSound (after w ops)
stays_sound ops w s = (told_so_far counts_all ops w s).sound

pub always_sound : (ops : List Op) → sound_words (after empty_book ops) ≡ true
always_sound ops = sound_is (after empty_book ops) (stays_sound ops empty_book empty_sound)

-- has the numbers that the history books,
pub booked_numbers : (ops : List Op) → sale_numbers_of (entries (after empty_book ops)) ≡ booked_by [] ops
booked_numbers ops = rw empty_entries at (told_so_far counts_all ops empty_book empty_sound).numbers

-- and comes to what is owed by it.
balance_is_owed : {f : List ℕ → List ℕ → ℕ} {legs : Leg → Bool} → Counts f legs → (ops : List Op) → balance_of f (entries (after empty_book ops)) ≡ owed legs [] ops
unfolding rest sum
balance_is_owed c ops = rw empty_entries at (told_so_far c ops empty_book empty_sound).balance ∙ omega arith

-- DEMAND 3. Each railway is told what is owed to it, and the total is what is owed to all.
pub balance_told : (ops : List Op) (railway : ℕ) → 1 ≤ railway → railway ≤ 9999
    → balance_answer (after empty_book ops) railway ≡ Ok (owed (carried_by railway) [] ops)
unfolding balance_answer first_fault is_railway
balance_told ops railway a b = rw (always_sound ops, le-leb 1 railway a, le-leb railway 9999 b) (ap Ok (balance_is_owed (counts_railway railway) ops))

pub total_told : (ops : List Op) → total_answer (after empty_book ops) ≡ Ok (owed any_leg [] ops)
unfolding total_answer first_fault
total_told ops = rw (always_sound ops) (ap Ok (balance_is_owed counts_all ops))
