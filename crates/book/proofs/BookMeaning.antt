-- The check of a book finds what a sound book is: value by value, both ways.
-- Assumes nothing.
use Prim.Native.Nat.{ℕ, ◌+◌, ◌≤◌, ◌<◌}
use mathlib.Core.Path.{◌≡◌, sym, ◌∙◌}
use mathlib.Core.Bool.{true, false}
use mathlib.Core.List.{List}
use mathlib.Core.Logic.{⊎_elim}
use native.Mathlib.Omega.{arith}
use lib.ListN.{length, get_or, drop, length-take, length-drop}
use lib.Seq.{get_or-drop}
use borrow.Author.Tests.{eq-eqb}
use Rattle.common.proofs.Lists.{every_at, every_by}
use Rattle.common.proofs.Tests.{order, never, refuted}
use Rattle.book.specs.Words.{no_entry, width, book_length, capacity, count_of, start_of, entries, entry_words, entry_at}
use Rattle.book.specs.Sound.{is_zero, entry_sound, has_number, sound_words}
use Rattle.book.specs.Meaning.{SoundSale, Sound}
use Rattle.book.proofs.SoundBook.{IsSound, is_sound, sound_is, zero_from, entry_is, entries_length}
use Rattle.book.proofs.NumbersDiffer.{has_number_lem, apart, differ_by}
use Rattle.book.proofs.EntryMeaning.{means, meant}

words_long : (w : List ℕ) → length w ≡ book_length → count_of w ≤ capacity → (i : ℕ) → i < count_of w → length (entry_words w i) ≡ width
words_long w long few i l = rw (length-take, length-drop) (omega arith)

-- FOUND SOUND, a book is sound
module _ (w : List ℕ) (s : IsSound w) where
  each_sale : (i : ℕ) → i < count_of w → SoundSale (entry_words w i)
  each_sale i l =
      let g : entry_sound (get_or (entries w) i no_entry) ≡ true = every_at entry_sound (entries w) s.good i no_entry (omega (arith, entries_length w)) in
      means (entry_words w i) (words_long w s.long s.few i l) (rw (entry_is w i l) at g)

  -- an earlier entry has another number
  earlier : (i j : ℕ) → i < count_of w → j < i → (entry_at w j).till ≡ (entry_at w i).till → (entry_at w j).sequence ≡ (entry_at w i).sequence → ⊥
  earlier i j l h t u =
      let a = apart (entries w) s.differ i j (omega (arith, entries_length w)) h in
      let d : has_number (entry_at w i).till (entry_at w i).sequence (entry_at w j) ≡ false = rw (entry_is w i l, entry_is w j (omega arith)) at a in
      never (rw (eq-eqb _ _ t, eq-eqb _ _ u)) d

  found_means : Sound w
  found_means =
      record {
        long = s.long;
        few = s.few;
        sales = each_sale;
        differ = λ i j l m t u. ⊎_elim (λ h. absurd (earlier j i m h t u)) (⊎_elim (λ x. x) (λ h. absurd (earlier i j l h (sym t) (sym u)))) (order i j);
        behind = zero_from w (start_of (count_of w)) s.clear;
      }

-- A SOUND BOOK is found sound
module _ (w : List ℕ) (s : Sound w) where
  found : IsSound w
  found =
      let n = entries_length w in
      record {
        long = s.long;
        few = s.few;
        good = every_by entry_sound no_entry (entries w)
            (λ i l. let m : i < count_of w = omega arith in rw (entry_is w i m) (meant (entry_words w i) (words_long w s.long s.few i m) (s.sales i m)));
        differ = differ_by (entries w)
            (λ i j l h. let m : i < count_of w = omega arith in
            let k : j < count_of w = omega arith in
            rw (entry_is w i m, entry_is w j k)
            (refuted (has_number (entry_at w i).till (entry_at w i).sequence (entry_at w j))
            (λ p. let x = has_number_lem _ _ (entry_at w j) p in omega (arith, s.differ j i k m x.0 x.1))));
        clear = every_by is_zero 0 (drop (start_of (count_of w)) w)
            (λ j l. eq-eqb _ 0 (get_or-drop (start_of (count_of w)) w j 0 ∙ s.behind (start_of (count_of w) + j) (omega arith)));
      }

-- THE MEANING of number 21, both ways
pub sound_means : (book : List ℕ) → sound_words book ≡ true → Sound book
sound_means book e = found_means book (is_sound book e)

pub means_sound : (book : List ℕ) → Sound book → sound_words book ≡ true
means_sound book s = sound_is book (found book s)
