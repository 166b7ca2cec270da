-- WHERE A BOOK KEEPS WHAT, in plain numbers (docs/ARCHITECTURE.md, 'The words of a book'): a book that is stored has its values there.
-- Assumes nothing.
use Rattle.std.specs.Prelude.{ℕ, ◌+◌, ◌*◌, ◌<◌, ◌≡◌, cond, List, eqb, length, get_or}
use Rattle.fares.specs.Question.{no_leg}
use Rattle.fares.specs.Meaning.{card_at}
use Rattle.book.specs.Words.{Entry, no_entry, offer_at, day_at, cards_at, count_at, persons_at, railway_at, fare_at, till_at, sequence_at, asked_at, parts_at, status_at, width, book_length, start_of, count_of, entry_words, entries, question_of}

-- a card counts one, and none counts nothing
abbrev pub given : ℕ → ℕ
given card = cond (eqb card 0) 0 1

-- the places by which a sound book is said
pub record Places : Type 0 where
  pub till : till_at ≡ 0
  pub sequence : sequence_at ≡ 1
  pub offer : asked_at + offer_at ≡ 2
  pub day : asked_at + day_at ≡ 3
  pub cards : asked_at + cards_at ≡ 4
  pub count : asked_at + count_at ≡ 8
  pub persons : asked_at + persons_at ≡ 10
  pub railways : (k : ℕ) → asked_at + railway_at k ≡ 21 + 4 * k
  pub fares : (k : ℕ) → asked_at + fare_at k ≡ 22 + 4 * k
  pub parts : parts_at ≡ 53
  pub status : status_at ≡ 61
  pub long : width ≡ 64
  pub starts : (i : ℕ) → start_of i ≡ 1 + 64 * i
  pub book_long : book_length ≡ 16385

-- entry i of a book: word p of it is word 1 + 64 i + p of the book
abbrev pub at : List ℕ → ℕ → ℕ → ℕ
at book i p = get_or book (1 + 64 * i + p) 0

pub record Says (book : List ℕ) (i : ℕ) (e : Entry) : Type 0 where
  pub till : e.till ≡ at book i 0
  pub sequence : e.sequence ≡ at book i 1
  pub offer : (question_of e.asked).offer ≡ at book i 2
  pub day : (question_of e.asked).day ≡ at book i 3
  pub cards : (k : ℕ) → k < 4 → card_at (question_of e.asked) k ≡ at book i (4 + k)
  pub count : (question_of e.asked).count ≡ at book i 8
  pub persons : (question_of e.asked).persons ≡ at book i 10
  pub railways : (k : ℕ) → k < 8 → (get_or (question_of e.asked).legs k no_leg).railway ≡ at book i (21 + 4 * k)
  pub fares : (k : ℕ) → k < 8 → (get_or (question_of e.asked).legs k no_leg).fare ≡ at book i (22 + 4 * k)
  pub parts : (k : ℕ) → k < 8 → get_or e.parts k 0 ≡ at book i (53 + k)
  pub status : e.status ≡ at book i 61

-- the book: its count is word 0, and so many are its entries
pub record Kept (book : List ℕ) : Type 0 where
  pub count : count_of book ≡ get_or book 0 0
  pub words : (i p : ℕ) → p < 64 → get_or (entry_words book i) p 0 ≡ at book i p
  pub as_many : length (entries book) ≡ get_or book 0 0
  pub each : (i : ℕ) → i < get_or book 0 0 → Says book i (get_or (entries book) i no_entry)
