-- THE BASE'S RULE for a sound book: a question has one word for a card, and three that are kept zero, and there is one bound on every part (document 01, 'The
-- sales book'). It is kept to say that a book whose sales have one card, or none, is answered as it was.
-- Assumes nothing.
use Rattle.std.specs.Prelude.{ℕ, ◌+◌, ◌-◌, ◌<◌, ◌≡◌, Bool, ◌&&◌, List, ◌∷◌, replicate}
use Rattle.common.specs.Lists.{same}
use Rattle.fares.specs.Meaning.{card_at}
use Rattle.fares.specs.OneCard.{base_in_limits, base_bound}
use Rattle.fares.specs.declared.Question.{Question}
use Rattle.book.specs.Words.{Entry, cards_at, cards_width, words_with, question_of, count_of, entry_words}
use Rattle.book.specs.Sound.{entry_by, book_by}
use Rattle.book.specs.Meaning.{asked_word}

-- the sales of a book have one card or none
abbrev pub OneCardBook : List ℕ → Type 0
OneCardBook book = (i : ℕ) → i < count_of book → (k : ℕ) → 0 < k → k < 4 → asked_word (entry_words book i) (cards_at + k) ≡ 0

-- one card, and three words that are kept zero
unfoldable pub base_words : Question → List ℕ
base_words q = words_with (card_at q 0 ∷ replicate (cards_width - 1) 0) q

abbrev pub base_asked : List ℕ → Bool
base_asked ws = base_in_limits (question_of ws) && same ws (base_words (question_of ws))

unfoldable pub base_entry : Entry → Bool
base_entry e = entry_by base_asked (λ q. base_bound) e

unfoldable pub base_sound : List ℕ → Bool
base_sound book = book_by base_entry book
