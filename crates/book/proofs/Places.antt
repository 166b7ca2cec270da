-- A book's values stand at the places that are documented, and its cards are counted one by one.
-- Assumes nothing.
use Prim.Native.Nat.{ℕ, ◌+◌, ◌*◌, ◌<◌}
use mathlib.Core.Path.{◌≡◌, refl, sym, ◌∙◌, ap}
use mathlib.Core.Bool.{Bool, true, false, cond, not}
use mathlib.Core.List.{List, [], ◌∷◌}
use native.Mathlib.Omega.{arith}
use lib.Dec.{eqb}
use lib.ListN.{length, get_or}
use lib.Seq.{ext_get_or}
use Rattle.common.specs.Lists.{only, up_to}
use Rattle.common.proofs.Lists.{upto_length, upto_at, first_length, first_at}
use Rattle.fares.specs.Question.{no_leg, is_given, card_slots, cards_of}
use Rattle.fares.specs.Meaning.{card_at}
use Rattle.fares.specs.declared.Leg.{Leg}
use Rattle.fares.specs.declared.Question.{Question}
use Rattle.book.specs.Words.{Entry, offer_at, day_at, cards_at, count_at, persons_at, railway_at, fare_at, till_at, sequence_at, asked_at, parts_at, status_at, width, question_width, start_of, leg_of, question_of, entry_words, entry_at}
use Rattle.book.specs.Meaning.{asked_word, cards_in}
use Rattle.book.specs.Places.{given, Places, at, Says, Kept}
use Rattle.book.proofs.EntryWords.{word_at, part_at, asked_at_lem, card_at_lem}
use Rattle.book.proofs.SoundBook.{entry_is, entries_length}

pub the_places : Places
the_places =
    record {
      till = refl;
      sequence = refl;
      offer = refl;
      day = refl;
      cards = refl;
      count = refl;
      persons = refl;
      railways = λ k. omega arith;
      fares = λ k. omega arith;
      parts = refl;
      status = refl;
      long = refl;
      starts = λ i. omega arith;
      book_long = refl;
    }

-- WHAT AN ENTRY SAYS, by the words of its book
module _ (book : List ℕ) (i : ℕ) where
  abbrev ws : List ℕ
  ws = entry_words book i

  abbrev e : Entry
  e = entry_at book i

  abbrev q : Question
  q = question_of e.asked

  -- word p of the entry, and word r of its question
  here : (p r : ℕ) → p < width → p ≡ r → get_or ws p 0 ≡ at book i r
  here p r l m = word_at book i p l ∙ ap (λ k. get_or book k 0) (let n : start_of i + p ≡ 1 + 64 * i + r = omega (arith, m) in n)

  asked_here : (p r : ℕ) → p < question_width → asked_at + p ≡ r → get_or e.asked p 0 ≡ at book i r
  asked_here p r l m = asked_at_lem ws p l ∙ here (asked_at + p) r (omega arith) m

  leg_is : (k : ℕ) → k < 8 → get_or q.legs k no_leg ≡ leg_of e.asked k
  unfolding question_of
  leg_is k l = upto_at (leg_of e.asked) 8 k no_leg l

  pub entry_says : Says book i e
  unfolding question_of
  entry_says =
      record {
        till = here till_at 0 (omega arith) refl;
        sequence = here sequence_at 1 (omega arith) refl;
        offer = asked_here offer_at 2 (omega arith) refl;
        day = asked_here day_at 3 (omega arith) refl;
        cards = λ k l. card_at_lem ws k l ∙ here (asked_at + (cards_at + k)) (4 + k) (omega arith) (omega arith);
        count = asked_here count_at 8 (omega arith) refl;
        persons = asked_here persons_at 10 (omega arith) refl;
        railways = λ k l. ap (λ (leg : Leg). leg.railway) (leg_is k l) ∙ asked_here (railway_at k) (21 + 4 * k) (omega arith) (omega arith);
        fares = λ k l. ap (λ (leg : Leg). leg.fare) (leg_is k l) ∙ asked_here (fare_at k) (22 + 4 * k) (omega arith) (omega arith);
        parts = λ k l. part_at ws k l ∙ here (parts_at + k) (53 + k) (omega arith) (omega arith);
        status = here status_at 61 (omega arith) refl;
      }

pub book_kept : (book : List ℕ) → Kept book
book_kept book =
    record {
      count = refl;
      words = λ i p l. here book i p p l refl;
      as_many = entries_length book;
      each = λ i l. rw (entry_is book i l) (entry_says book i);
    }

-- HOW MANY CARDS: one for each slot of four that is used
counted : (x : ℕ) (xs : List ℕ) → length (only is_given (x ∷ xs)) ≡ given x + length (only is_given xs)
unfolding only
counted x xs = go (eqb x 0)
  where
    go : (z : Bool) → length (cond (not z) (x ∷ only is_given xs) (only is_given xs)) ≡ cond z 0 1 + length (only is_given xs)
    go true = omega arith
    go false = omega arith

nothing : length (only is_given []) ≡ 0
unfolding only
nothing = refl

four : (f : ℕ → ℕ) → length (only is_given (up_to f 4)) ≡ given (f 0) + (given (f 1) + (given (f 2) + given (f 3)))
unfolding up_to
four f =
    omega
    (arith, counted (f 0) (f 1 ∷ f 2 ∷ f 3 ∷ []), counted (f 1) (f 2 ∷ f 3 ∷ []), counted (f 2) (f 3 ∷ []), counted (f 3) [], nothing)

pub question_cards : (q : Question) → length (cards_of q) ≡ given (card_at q 0) + (given (card_at q 1) + (given (card_at q 2) + given (card_at q 3)))
question_cards q =
    let n = first_length 0 4 q.cards in
    let slots : card_slots q ≡ up_to (card_at q) 4 =
    ext_get_or 0 (card_slots q) (up_to (card_at q) 4) (n ∙ sym (upto_length (card_at q) 4))
    (λ k m. let l : k < 4 = omega (arith, n) in first_at 0 4 q.cards k l ∙ sym (upto_at (card_at q) 4 k 0 l)) in
    ap (λ cards. length (only is_given cards)) slots ∙ four (card_at q)

pub entry_cards : (ws : List ℕ) → cards_in ws
    ≡ given (asked_word ws cards_at) + (given (asked_word ws (cards_at + 1)) + (given (asked_word ws (cards_at + 2)) + given (asked_word ws (cards_at + 3))))
entry_cards ws = four (λ k. asked_word ws (cards_at + k))
