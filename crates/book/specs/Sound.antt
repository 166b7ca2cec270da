-- When a book is sound, number 21 (document 01, 'The sales book').
-- Assumes nothing.
use Rattle.std.specs.Prelude.{ℕ, Bool, cond, ◌&&◌, List, [], ◌∷◌, Option, Some, None, eqb, leb, ltb, length, get_or, drop}
use Rattle.common.specs.Least.{least}
use Rattle.common.specs.Lists.{every, same}
use Rattle.fares.specs.Question.{between, card_slots, cards_of, cards_differ, in_limits}
use Rattle.fares.specs.Reductions.{part_bound}
use Rattle.fares.specs.declared.Question.{Question}
use Rattle.book.specs.Words.{Entry, no_entry, capacity, book_length, start_of, count_of, entries, question_of, question_words}

abbrev pub is_zero : ℕ → Bool
is_zero x = eqb x 0

-- "till 1-65,535, sequence 1-4,294,967,295 (together the sale number)"
abbrev pub number_in_limits : ℕ → ℕ → Bool
number_in_limits till sequence = between 1 65535 till && between 1 4294967295 sequence

-- the question's words are those of a question within its limits, with no card given twice, so that unused places among them are zero
abbrev pub asked_sound : List ℕ → Bool
asked_sound ws = in_limits (question_of ws) && (cards_differ (card_slots (question_of ws)) && same ws (question_words (question_of ws)))

-- the bound on a part, by the number of the question's own cards
abbrev pub bound_of : Question → ℕ
bound_of q = part_bound (length (cards_of q))

abbrev pub is_bounded : ℕ → List ℕ → Bool
is_bounded bound parts = every (λ p. leb p bound) parts

-- "its fields are in the limits above, parts are within the bound, and unused places are zero", by a rule for a question's words and a bound
abbrev pub entry_by : (List ℕ → Bool) → (Question → ℕ) → Entry → Bool
entry_by sound bound e =
    every (λ b. b) (
    number_in_limits e.till e.sequence ∷
    sound e.asked ∷
    is_bounded (bound (question_of e.asked)) e.parts ∷
    every is_zero (drop (question_of e.asked).count e.parts) ∷
    leb e.status 1 ∷
    every is_zero e.spare ∷
    [])

unfoldable pub entry_sound : Entry → Bool
entry_sound e = entry_by asked_sound bound_of e

abbrev pub has_number : ℕ → ℕ → Entry → Bool
has_number till sequence e = eqb e.till till && eqb e.sequence sequence

-- the first entry that has the number; the number of the entries where none has it
unfoldable pub held_at : ℕ → ℕ → List Entry → ℕ
held_at till sequence es = least (λ i. has_number till sequence (get_or es i no_entry)) (length es)

-- its place, if an entry has the number
abbrev pub held : ℕ → ℕ → List Entry → Option ℕ
held till sequence es = let i : ℕ = held_at till sequence es in cond (ltb i (length es)) (Some i) None

-- entry i has the number of an earlier one
abbrev pub repeats : List Entry → ℕ → Bool
repeats es i =
    let e : Entry = get_or es i no_entry in
    ltb (least (λ j. has_number e.till e.sequence (get_or es j no_entry)) i) i

-- "its numbers differ": no entry repeats an earlier number
unfoldable pub numbers_differ : List Entry → Bool
numbers_differ es = eqb (least (repeats es) (length es)) (length es)

-- "A book is sound if its count is at most 256, its numbers differ, its fields are in the limits .., and unused places are zero", by a rule for an entry
abbrev pub book_by : (Entry → Bool) → List ℕ → Bool
book_by sound book =
    every (λ b. b) (
    eqb (length book) book_length ∷
    leb (count_of book) capacity ∷
    every sound (entries book) ∷
    numbers_differ (entries book) ∷
    every is_zero (drop (start_of (count_of book)) book) ∷
    [])

unfoldable pub sound_words : List ℕ → Bool
sound_words book = book_by entry_sound book
