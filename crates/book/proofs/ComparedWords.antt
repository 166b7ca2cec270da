-- Words are compared, and questions are meant: those of two questions are the same exactly if the questions are.
-- Assumes nothing.
use Prim.Native.Nat.{ℕ, ◌≤◌, ◌<◌}
use mathlib.Core.Path.{◌≡◌, refl, sym, ◌∙◌, ap}
use mathlib.Core.Bool.{Bool, true, false, cond}
use mathlib.Core.List.{flat_map}
use native.Mathlib.Omega.{arith}
use lib.Dec.{ltb}
use lib.ListN.{get_or}
use borrow.Author.Tests.{lt-ltb, ltb-true}
use Rattle.common.specs.Lists.{same, up_to}
use Rattle.common.proofs.Lists.{upto_at, upto_same, is_same, same_is}
use Rattle.common.proofs.Tests.{refuted}
use Rattle.fares.specs.Question.{no_leg}
use Rattle.fares.specs.Meaning.{card_at}
use Rattle.fares.specs.declared.Question.{Question}
use Rattle.book.specs.Words.{offer_at, day_at, cards_width, count_at, persons_at, card_words, leg_at, card_in, leg_of, question_words}
use Rattle.book.specs.SameQuestion.{SameQuestion}

-- a card as the words say it, a leg, and one that is used
module _ (q : Question) where
  cards_said : up_to (card_in (question_words q)) cards_width ≡ card_words q
  unfolding question_words up_to
  cards_said = refl

  pub card_said : (k : ℕ) → k < 4 → card_in (question_words q) k ≡ card_at q k
  card_said k m = sym (upto_at (card_in (question_words q)) cards_width k 0 m) ∙ (ap (λ cards. get_or cards k 0) cards_said ∙ upto_at (card_at q) cards_width k 0 m)

  legs_said : up_to (leg_of (question_words q)) 8 ≡ up_to (leg_at q) 8
  unfolding question_words up_to flat_map
  legs_said = refl

  pub leg_said : (k : ℕ) → k < 8 → leg_of (question_words q) k ≡ leg_at q k
  leg_said k m = sym (upto_at (leg_of (question_words q)) 8 k no_leg m) ∙ (ap (λ legs. get_or legs k no_leg) legs_said ∙ upto_at (leg_at q) 8 k no_leg m)

  pub used_said : (k : ℕ) → k < q.count → k < 8 → leg_of (question_words q) k ≡ get_or q.legs k no_leg
  used_said k l m = leg_said k m ∙ rw (lt-ltb k q.count l)

module _ (q q' : Question) where
  module _ (few : q.count ≤ 8) (e : question_words q ≡ question_words q') where
    same_count : q.count ≡ q'.count
    unfolding question_words up_to
    same_count = ap (λ ws. get_or ws count_at 0) e

    same_leg : (k : ℕ) → k < q.count → get_or q.legs k no_leg ≡ get_or q'.legs k no_leg
    same_leg k l =
        let m : k < 8 = omega arith in
        sym (used_said q k l m) ∙ (ap (λ ws. leg_of ws k) e ∙ used_said q' k (omega (arith, same_count)) m)

    words_mean : SameQuestion q q'
    unfolding question_words up_to
    words_mean =
        record {
          offer = ap (λ ws. get_or ws offer_at 0) e;
          day = ap (λ ws. get_or ws day_at 0) e;
          persons = ap (λ ws. get_or ws persons_at 0) e;
          cards = λ k l. sym (card_said q k l) ∙ (ap (λ ws. card_in ws k) e ∙ card_said q' k l);
          count = same_count;
          railways = λ k l. ap (λ leg. leg.railway) (same_leg k l);
          fares = λ k l. ap (λ leg. leg.fare) (same_leg k l);
        }

  module _ (s : SameQuestion q q') where
    leg_alike : (b : Bool) (k : ℕ) → ltb k q.count ≡ b → cond b (get_or q.legs k no_leg) no_leg ≡ cond b (get_or q'.legs k no_leg) no_leg
    leg_alike true k e =
        let l = ltb-true k q.count e in
        λ j. record { railway = s.railways k l j; fare = s.fares k l j }
    leg_alike false k e = refl

    legs_alike : up_to (leg_at q) 8 ≡ up_to (leg_at q') 8
    legs_alike = upto_same (leg_at q) (leg_at q') 8 (λ k l. leg_alike (ltb k q.count) k refl ∙ rw s.count)

    mean_words : question_words q ≡ question_words q'
    unfolding question_words
    mean_words = rw (legs_alike, upto_same (card_at q) (card_at q') cards_width s.cards, s.offer, s.day, s.count, s.persons)

  -- THE SAME QUESTION, both ways
  pub same_words : SameQuestion q q' → same (question_words q) (question_words q') ≡ true
  same_words s = is_same (question_words q) (question_words q') (mean_words s)

  pub same_question : q.count ≤ 8 → same (question_words q) (question_words q') ≡ true → SameQuestion q q'
  same_question few e = words_mean few (same_is (question_words q) (question_words q') e)

  -- and another question
  pub other_words : q.count ≤ 8 → (SameQuestion q q' → ⊥) → same (question_words q) (question_words q') ≡ false
  other_words few n = refuted (same (question_words q) (question_words q')) (λ e. n (same_question few e))
