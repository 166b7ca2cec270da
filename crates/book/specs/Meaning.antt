-- WHAT A SOUND BOOK IS, value by value (document 01, 'The sales book': "A book is sound if its count is at most 256, its numbers differ, its fields are in
-- the limits above, parts are within the bound, and unused places are zero"; the limits of a question are those of 'Pricing', and its cards differ).
-- Assumes nothing.
use Rattle.std.specs.Prelude.{ℕ, ◌+◌, ◌*◌, ◌≤◌, ◌<◌, ◌≡◌, List, ◌⊎◌, length, get_or}
use Rattle.common.specs.Lists.{only, up_to}
use Rattle.layout.specs.Calendar.{RealDay}
use Rattle.fares.specs.Question.{is_given}
use Rattle.fares.specs.Reductions.{greater}
use Rattle.book.specs.Words.{offer_at, day_at, cards_at, count_at, persons_at, railway_at, fare_at, till_at, sequence_at, asked_at, parts_at, status_at, width, book_length, count_of, start_of, entry_words}

abbrev pub Within : ℕ → ℕ → ℕ → Type 0
Within lowest highest v = (lowest ≤ v) × (v ≤ highest)

-- AN ENTRY, by its words: word p, and word p of its question
abbrev pub word : List ℕ → ℕ → ℕ
word ws p = get_or ws p 0

abbrev pub asked_word : List ℕ → ℕ → ℕ
asked_word ws p = word ws (asked_at + p)

-- how many of the four words for cards are not zero
abbrev pub cards_in : List ℕ → ℕ
cards_in ws = length (only is_given (up_to (λ k. asked_word ws (cards_at + k)) 4))

-- the places that the sale of n legs uses
pub data Used (n p : ℕ) : Type 0 where
  till : p ≡ till_at → Used n p
  sequence : p ≡ sequence_at → Used n p
  offer : p ≡ asked_at + offer_at → Used n p
  day : p ≡ asked_at + day_at → Used n p
  persons : p ≡ asked_at + persons_at → Used n p
  card : (k : ℕ) → k < 4 → p ≡ asked_at + (cards_at + k) → Used n p
  count : p ≡ asked_at + count_at → Used n p
  railway : (k : ℕ) → k < n → p ≡ asked_at + railway_at k → Used n p
  fare : (k : ℕ) → k < n → p ≡ asked_at + fare_at k → Used n p
  part : (k : ℕ) → k < n → p ≡ parts_at + k → Used n p
  status : p ≡ status_at → Used n p

pub record SoundSale (ws : List ℕ) : Type 0 where
  pub till : Within 1 65535 (word ws till_at)
  pub sequence : Within 1 4294967295 (word ws sequence_at)
  pub offer : Within 1 99999 (asked_word ws offer_at)
  pub day : RealDay (asked_word ws day_at)
  pub persons : Within 1 99 (asked_word ws persons_at)
  -- a card 0 is none; those that are used stand first, and differ
  pub cards : (k : ℕ) → k < 4 → asked_word ws (cards_at + k) ≤ 999
  pub used_first : (j k : ℕ) → j < k → k < 4 → asked_word ws (cards_at + j) ≡ 0 → asked_word ws (cards_at + k) ≡ 0
  pub cards_apart : (j k : ℕ) → j < k → k < 4 → asked_word ws (cards_at + j) ≡ asked_word ws (cards_at + k) → asked_word ws (cards_at + j) ≡ 0
  pub count : Within 1 8 (asked_word ws count_at)
  pub railways : (k : ℕ) → k < asked_word ws count_at → Within 1 9999 (asked_word ws (railway_at k))
  pub fares : (k : ℕ) → k < asked_word ws count_at → asked_word ws (fare_at k) ≤ 999999
  pub parts : (k : ℕ) → k < asked_word ws count_at → word ws (parts_at + k) ≤ 99 * (999999 + 998 * (1 + greater 1 (cards_in ws)))
  pub status : word ws status_at ≤ 1
  -- each other place is zero
  pub unused : (p : ℕ) → p < width → Used (asked_word ws count_at) p ⊎ (word ws p ≡ 0)

-- A BOOK: its entries are sound, those of one sale number are one, and everything behind them is zero
pub record Sound (book : List ℕ) : Type 0 where
  pub long : length book ≡ book_length
  pub few : count_of book ≤ 256
  pub sales : (i : ℕ) → i < count_of book → SoundSale (entry_words book i)
  pub differ : (i j : ℕ) → i < count_of book → j < count_of book → word (entry_words book i) till_at ≡ word (entry_words book j) till_at
      → word (entry_words book i) sequence_at ≡ word (entry_words book j) sequence_at → i ≡ j
  pub behind : (p : ℕ) → start_of (count_of book) ≤ p → word book p ≡ 0

-- A SALE NUMBER, of till t and sequence u: entry i has it, and no entry has it
abbrev pub Holds : List ℕ → ℕ → ℕ → ℕ → Type 0
Holds book i t u = (word (entry_words book i) till_at ≡ t) × (word (entry_words book i) sequence_at ≡ u)

abbrev pub HeldNowhere : List ℕ → ℕ → ℕ → Type 0
HeldNowhere book t u = (i : ℕ) → i < count_of book → Holds book i t u → ⊥
