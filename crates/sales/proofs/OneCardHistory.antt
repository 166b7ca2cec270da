-- ONE CARD OR NONE, through any history: sales of such questions, and cancellations, leave a book that was sound by the base's rule the very words that they left.
-- Assumes nothing.
use Prim.Native.Nat.{ℕ, ◌<◌}
use mathlib.Core.Path.{◌≡◌, refl, ◌∙◌, ap}
use mathlib.Core.Bool.{Bool, true, false, cond}
use mathlib.Core.List.Memᴰ
use mathlib.Core.List.{List, [], ◌∷◌, ◌++◌, map}
use mathlib.Core.Logic.{⊎_elim}
use native.Mathlib.Nat.{not-suc-le-zero}
use native.Mathlib.Omega.{arith}
use lib.ListN.{length, get_or, length-append, length-map, get_or-append}
use lib.Seq.{get_or_at}
use Rattle.common.proofs.Sums.{map_at}
use Rattle.common.proofs.Tests.{side}
use Rattle.bundle.specs.Records.{records_of}
use Rattle.fares.specs.Fare.{parts_of}
use Rattle.fares.specs.Meaning.{card_at}
use Rattle.fares.specs.OneCard.{OneCard}
use Rattle.fares.specs.declared.Question.{Question}
use Rattle.book.specs.Words.{Entry, no_entry, entries, question_of, booking}
use Rattle.book.specs.Sound.{has_number}
use Rattle.book.specs.OneCard.{base_sound}
use Rattle.book.proofs.BookMeaning.{sound_means, means_sound}
use Rattle.book.proofs.EntryWords.{cancelled_entry}
use Rattle.book.proofs.OneCard.{OneCardEach, said_one_card, one_card_each, one_card_book, base_means, means_base}
use Rattle.book.proofs.SoundBook.{IsSound, is_sound, sound_is}
use Rattle.book.proofs.StaysSound.{cancelling}
use Rattle.sales.specs.Sales.{sale_words, cancel_words}
use Rattle.sales.specs.History.{Number, Op, sale, cancel, empty_book, after, books}
use Rattle.sales.specs.OneCard.{OneCardOps, base_after}
use Rattle.sales.proofs.SaleAndCancel.{sale_numbers_of, not_booked, sale_entries, cancel_after}
use Rattle.sales.proofs.BalanceIsOwed.{stays_sound, empty_entries, empty_sound}
use Rattle.sales.proofs.OneCard.{same_sale_words, same_cancel_words}

module _ (w : List ℕ) (s : IsSound w) (o : OneCardEach (entries w)) (n : Number) where
  -- A SALE adds an entry of one card or none, or nothing
  module _ (b : List ℕ) (q : Question) (one : OneCard q) where
    abbrev entry : Entry
    entry = booking n.till n.sequence q (parts_of (records_of b) q)

    one_more : OneCardEach (entries w ++ (entry ∷ []))
    one_more i l =
        ⊎_elim (λ h k a m. ap (λ (e : Entry). card_at (question_of e.asked) k) (get_or-append (entries w) (entry ∷ []) no_entry i h) ∙ o i h k a m)
        (λ h k a m. let e : length (entries w) ≡ i = omega (arith, length-append (entries w) (entry ∷ [])) in
        ap (λ (x : Entry). card_at (question_of x.asked) k) (get_or_at (entries w) entry [] no_entry i e) ∙ said_one_card q one k a m) (side i (length (entries w)))

    sale_keeps : OneCardEach (entries (sale_words w n.till n.sequence b q))
    sale_keeps = go (books (sale_numbers_of (entries w)) n b q) refl
      where
        go : (x : Bool) → books (sale_numbers_of (entries w)) n b q ≡ x → OneCardEach (entries (sale_words w n.till n.sequence b q))
        go false e = rw (not_booked w s n b q e) o
        go true e = rw (sale_entries w s n b q e) one_more

  -- A CANCELLATION changes no question
  same_asked : (b : Bool) (e : Entry) → (cond b (cancelled_entry e) e).asked ≡ e.asked
  same_asked true e = refl
  same_asked false e = refl

  cancel_keeps : OneCardEach (entries (cancel_words w n.till n.sequence))
  cancel_keeps = rw (cancel_after w s n.till n.sequence).0 still
    where
      still : OneCardEach (map (cancelling n.till n.sequence) (entries w))
      still i l k a m =
          let h : i < length (entries w) = rw (length-map (entries w) (cancelling n.till n.sequence)) at l in
          let e = get_or (entries w) i no_entry in
          ap (λ (x : Entry). card_at (question_of x.asked) k) (map_at (cancelling n.till n.sequence) (entries w) i no_entry no_entry h)
          ∙ (ap (λ ws. card_at (question_of ws) k) (same_asked (has_number n.till n.sequence e) e) ∙ o i h k a m)

-- ANY HISTORY
by_history : (ops : List Op) → OneCardOps ops → (w : List ℕ) → IsSound w → OneCardEach (entries w) → after w ops ≡ base_after w ops
unfolding after base_after
by_history [] h w s o = refl
by_history (sale n b q ∷ ops) h w s o =
    let one = h n b q (Memᴰ.head refl) in
    by_history ops (λ m c p x. h m c p (Memᴰ.tail x)) (sale_words w n.till n.sequence b q) (stays_sound (sale n b q ∷ []) w s) (sale_keeps w s o n b q one)
    ∙ ap (λ x. base_after x ops) (same_sale_words w (one_card_book w o) n.till n.sequence b q one)
by_history (cancel n ∷ ops) h w s o =
    by_history ops (λ m c p x. h m c p (Memᴰ.tail x)) (cancel_words w n.till n.sequence) (cancel_after w s n.till n.sequence).1 (cancel_keeps w s o n)
    ∙ ap (λ x. base_after x ops) (same_cancel_words w (one_card_book w o) n.till n.sequence)

pub same_after : (book : List ℕ) → base_sound book ≡ true → (ops : List Op) → OneCardOps ops → after book ops ≡ base_after book ops
same_after book stored ops h =
    let b = base_means book stored in
    by_history ops h book (is_sound book (means_sound book b.0)) (one_card_each book b.1)

-- and so from the empty book
pub empty_before : base_sound empty_book ≡ true
empty_before = means_base empty_book (sound_means empty_book (sound_is empty_book empty_sound), one_card_book empty_book (rw empty_entries (λ i l. absurd (not-suc-le-zero l))))
