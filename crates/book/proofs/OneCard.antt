-- ONE CARD OR NONE: a book whose sales have no more is sound exactly if it is by the base's rule; and one is sound by that exactly if it is such a book, and sound.
-- Assumes nothing.
use Prim.Native.Nat.{ℕ, suc, ◌+◌, ◌-◌, ◌<◌}
use mathlib.Core.Path.{◌≡◌, refl, sym, ◌∙◌, ap, ap₂}
use mathlib.Core.Bool.{Bool, true, ◌&&◌}
use mathlib.Core.List.{List, [], ◌∷◌}
use native.Mathlib.Omega.{arith}
use lib.ListN.{length, get_or}
use Rattle.common.specs.Lists.{every, same, up_to}
use Rattle.common.proofs.Lists.{every_at, same_is, upto_at}
use Rattle.common.proofs.Tests.{both_true}
use Rattle.fares.specs.Meaning.{card_at}
use Rattle.fares.specs.OneCard.{OneCard, base_in_limits}
use Rattle.fares.specs.declared.Question.{Question}
use Rattle.fares.proofs.OneCard.{limits_are, cards_apart, bound_is}
use Rattle.book.specs.Words.{Entry, no_entry, cards_at, cards_width, question_of, question_words, count_of, entries, entry_words, entry_at}
use Rattle.book.specs.Sound.{entry_sound, sound_words}
use Rattle.book.specs.Meaning.{Sound}
use Rattle.book.specs.OneCard.{OneCardBook, base_words, base_asked, base_entry, base_sound}
use Rattle.book.proofs.QuestionWords.{said}
use Rattle.book.proofs.QuestionPlaces.{zeros}
use Rattle.book.proofs.EntryWords.{asked_at_lem, card_at_lem}
use Rattle.book.proofs.SoundBook.{entry_is, entries_length}
use Rattle.book.proofs.BookMeaning.{sound_means, means_sound}

-- A QUESTION has the base's words, and as its words say it one card or none
pub words_are : (q : Question) → OneCard q → question_words q ≡ base_words q
unfolding question_words base_words up_to
words_are q o = rw (o 1 (omega arith) (omega arith), o 2 (omega arith) (omega arith), o 3 (omega arith) (omega arith))

pub said_one_card : (q : Question) → OneCard q → OneCard (question_of (question_words q))
said_one_card q o k a l = ap (λ x. card_at x k) (said q) ∙ (upto_at (card_at q) cards_width k 0 l ∙ o k a l)

-- AN ENTRY
same_entry : (e : Entry) → OneCard (question_of e.asked) → entry_sound e ≡ base_entry e
unfolding entry_sound base_entry
same_entry e o = let q = question_of e.asked in rw (limits_are q o, cards_apart q o, words_are q o, bound_is q o)

-- tests that agree on each element
every_alike : {A : Type 0} (p r : A → Bool) (d : A) (xs : List A) → ((i : ℕ) → i < length xs → p (get_or xs i d) ≡ r (get_or xs i d)) → every p xs ≡ every r xs
unfolding every
every_alike p r d [] h = refl
every_alike p r d (x ∷ xs) h = ap₂ ◌&&◌ (h 0 (omega arith)) (every_alike p r d xs (λ i l. h (suc i) (omega arith)))

-- entries whose questions have one card or none
abbrev pub OneCardEach : List Entry → Type 0
OneCardEach es = (i : ℕ) → i < length es → OneCard (question_of (get_or es i no_entry).asked)

-- A BOOK
module _ (book : List ℕ) where
  pub one_card_each : OneCardBook book → OneCardEach (entries book)
  one_card_each o i l k a m =
      let h : i < count_of book = omega (arith, entries_length book) in
      ap (λ (e : Entry). card_at (question_of e.asked) k) (entry_is book i h) ∙ (card_at_lem (entry_words book i) k m ∙ o i h k a m)

  pub one_card_book : OneCardEach (entries book) → OneCardBook book
  one_card_book o i h k a m =
      sym (card_at_lem (entry_words book i) k m)
      ∙ (ap (λ (e : Entry). card_at (question_of e.asked) k) (sym (entry_is book i h)) ∙ o i (omega (arith, entries_length book)) k a m)

  module _ (o : OneCardBook book) where
    same_entries : every entry_sound (entries book) ≡ every base_entry (entries book)
    same_entries = every_alike entry_sound base_entry no_entry (entries book) (λ i l. same_entry (get_or (entries book) i no_entry) (one_card_each o i l))

    pub same_sound : sound_words book ≡ base_sound book
    unfolding sound_words base_sound
    same_sound = rw same_entries

  -- sound by the base's rule, its further words for cards are zero
  module _ (e : base_sound book ≡ true) where
    well : (i : ℕ) → i < count_of book → base_entry (entry_at book i) ≡ true
    unfolding base_sound
    well i h =
        let g : every base_entry (entries book) ≡ true = every_at (λ b. b) _ e 2 true (omega arith) in
        rw (entry_is book i h) at (every_at base_entry (entries book) g i no_entry (omega (arith, entries_length book)))

    asked_well : (i : ℕ) → i < count_of book → base_asked (entry_at book i).asked ≡ true
    unfolding base_entry
    asked_well i h = every_at (λ b. b) _ (well i h) 1 true (omega arith)

    more_cards : (q : Question) (k : ℕ) → k < cards_width - 1 → get_or (base_words q) (cards_at + 1 + k) 0 ≡ 0
    unfolding base_words up_to
    more_cards q = zeros (λ k. get_or (base_words q) (cards_at + 1 + k) 0) (cards_width - 1) refl

    has_one_card : OneCardBook book
    has_one_card i h k a l =
        let ws = (entry_at book i).asked in
        let q = question_of ws in
        let s : ws ≡ base_words q = same_is ws (base_words q) (both_true (base_in_limits q) (same ws (base_words q)) (asked_well i h)).1 in
        let n : cards_at + k ≡ cards_at + 1 + (k - 1) = omega arith in
        sym (asked_at_lem (entry_words book i) (cards_at + k) (omega arith))
        ∙ (ap (λ x. get_or x (cards_at + k) 0) s ∙ (ap (λ p. get_or (base_words q) p 0) n ∙ more_cards q (k - 1) (omega arith)))

  -- THE BASE'S RULE, both ways
  pub base_means : base_sound book ≡ true → Sound book × OneCardBook book
  base_means e = let o = has_one_card e in (sound_means book (same_sound o ∙ e), o)

  pub means_base : Sound book × OneCardBook book → base_sound book ≡ true
  means_base h = sym (same_sound h.1) ∙ means_sound book h.0
