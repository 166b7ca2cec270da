-- The sales book as words (document 01, 'The sales book'): the count, and room for 256 entries of 64 words. Words that later requests will need are
-- there from the first day, and are zero. This is the one table of places: each has its name, and follows from the widths before it.
-- Assumes nothing.
use Rattle.std.specs.Prelude.{ℕ, ◌+◌, ◌-◌, ◌*◌, cond, ltb, get_or, take, drop, replicate}
use mathlib.Core.List.{List, [], ◌∷◌, ◌++◌, flat_map}
use Rattle.common.specs.Lists.{up_to}
use Rattle.fares.specs.Question.{no_leg}
use Rattle.fares.specs.Meaning.{card_at}
use Rattle.fares.specs.declared.Leg.{Leg}
use Rattle.fares.specs.declared.Question.{Question}

-- A QUESTION: offer, day, four cards, the leg count, six pairs of a category and its persons, and eight legs of four words
abbrev pub offer_at : ℕ
offer_at = 0

abbrev pub day_at : ℕ
day_at = 1

abbrev pub cards_at : ℕ
cards_at = 2

abbrev pub cards_width : ℕ
cards_width = 4

abbrev pub count_at : ℕ
count_at = cards_at + cards_width

abbrev pub pairs_at : ℕ
pairs_at = count_at + 1

abbrev pub pairs_width : ℕ
pairs_width = 6 * 2

abbrev pub legs_at : ℕ
legs_at = pairs_at + pairs_width

abbrev pub leg_width : ℕ
leg_width = 4

abbrev pub question_width : ℕ
question_width = legs_at + 8 * leg_width

abbrev pub persons_at : ℕ
persons_at = pairs_at + 1

abbrev pub more_pairs_at : ℕ
more_pairs_at = pairs_at + 2

abbrev pub more_pairs_width : ℕ
more_pairs_width = pairs_width - 2

abbrev pub railway_at : ℕ → ℕ
railway_at j = legs_at + leg_width * j

abbrev pub fare_at : ℕ → ℕ
fare_at j = railway_at j + 1

abbrev pub third_at : ℕ → ℕ
third_at j = railway_at j + 2

abbrev pub fourth_at : ℕ → ℕ
fourth_at j = railway_at j + 3

-- the four cards, in their order
abbrev pub card_words : Question → List ℕ
card_words q = up_to (card_at q) cards_width

-- one pair, of category 0, and five that are kept zero
abbrev pub pair_words : Question → List ℕ
pair_words q = 0 ∷ q.persons ∷ replicate more_pairs_width 0

-- a leg's words, of which two are kept zero
abbrev pub leg_words : Leg → List ℕ
leg_words leg = leg.railway ∷ leg.fare ∷ 0 ∷ 0 ∷ []

-- from the leg count on there is no leg, whatever the slot holds
abbrev pub leg_at : Question → ℕ → Leg
leg_at q j = cond (ltb j q.count) (get_or q.legs j no_leg) no_leg

-- the words of a question, given those of its cards
abbrev pub words_with : List ℕ → Question → List ℕ
words_with cards q = q.offer ∷ q.day ∷ (cards ++ (q.count ∷ (pair_words q ++ flat_map leg_words (up_to (leg_at q) 8))))

unfoldable pub question_words : Question → List ℕ
question_words q = words_with (card_words q) q

-- the question that words say
abbrev pub card_in : List ℕ → ℕ → ℕ
card_in ws k = get_or ws (cards_at + k) 0

abbrev pub leg_of : List ℕ → ℕ → Leg
leg_of ws j = record { railway = get_or ws (railway_at j) 0; fare = get_or ws (fare_at j) 0 }

unfoldable pub question_of : List ℕ → Question
question_of ws =
    record {
      offer = get_or ws offer_at 0;
      day = get_or ws day_at 0;
      persons = get_or ws persons_at 0;
      cards = up_to (card_in ws) cards_width;
      count = get_or ws count_at 0;
      legs = up_to (leg_of ws) 8;
    }

-- AN ENTRY: till and sequence, the question, eight parts, the status (0 live, 1 cancelled), and two words that are kept zero
abbrev pub till_at : ℕ
till_at = 0

abbrev pub sequence_at : ℕ
sequence_at = 1

abbrev pub asked_at : ℕ
asked_at = 2

abbrev pub parts_at : ℕ
parts_at = asked_at + question_width

abbrev pub status_at : ℕ
status_at = parts_at + 8

abbrev pub spare_at : ℕ
spare_at = status_at + 1

abbrev pub width : ℕ
width = spare_at + 2

pub record Entry : Type 0 where
  pub till : ℕ
  pub sequence : ℕ
  pub asked : List ℕ
  pub parts : List ℕ
  pub status : ℕ
  pub spare : List ℕ

unfoldable pub words_of : Entry → List ℕ
words_of e = e.till ∷ e.sequence ∷ (e.asked ++ (e.parts ++ (e.status ∷ e.spare)))

abbrev pub entry_of : List ℕ → Entry
entry_of ws =
    record {
      till = get_or ws till_at 0;
      sequence = get_or ws sequence_at 0;
      asked = take question_width (drop asked_at ws);
      parts = take 8 (drop parts_at ws);
      status = get_or ws status_at 0;
      spare = take 2 (drop spare_at ws);
    }

-- a new entry, given its question's words, and of a question
abbrev pub new_entry : ℕ → ℕ → List ℕ → List ℕ → Entry
new_entry till sequence asked parts = record { till = till; sequence = sequence; asked = asked; parts = parts; status = 0; spare = 0 ∷ 0 ∷ [] }

abbrev pub booking : ℕ → ℕ → Question → List ℕ → Entry
booking till sequence q parts = new_entry till sequence (question_words q) parts

abbrev pub no_entry : Entry
no_entry = record { till = 0; sequence = 0; asked = []; parts = []; status = 0; spare = [] }

-- A BOOK: the count, and room for 256 entries
abbrev pub capacity : ℕ
capacity = 256

abbrev pub book_length : ℕ
book_length = 1 + capacity * width

abbrev pub count_of : List ℕ → ℕ
count_of book = get_or book 0 0

-- where an entry starts
abbrev pub start_of : ℕ → ℕ
start_of i = 1 + i * width

abbrev pub entry_words : List ℕ → ℕ → List ℕ
entry_words book i = take width (drop (start_of i) book)

abbrev pub entry_at : List ℕ → ℕ → Entry
entry_at book i = entry_of (entry_words book i)

-- the entries in use, in order of booking
unfoldable pub entries : List ℕ → List Entry
entries book = up_to (entry_at book) (count_of book)
