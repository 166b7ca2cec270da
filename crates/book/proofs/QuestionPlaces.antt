-- Each place of a question's words holds a value of the question, or zero; and the words of the question that words say have, at the places that are
-- used, those very words.
-- Assumes nothing.
use Prim.Native.Nat.{ℕ, ◌+◌, ◌-◌, ◌/◌, ◌%◌, ◌≤◌, ◌<◌}
use mathlib.Core.Path.{◌≡◌, refl, sym, ◌∙◌, ap, subst}
use mathlib.Core.List.{List, flat_map}
use mathlib.Core.Logic.{◌⊎◌, inl, inr, ⊎_elim}
use native.Mathlib.Omega.{arith}
use lib.ListN.{get_or}
use borrow.Author.Tests.{le-ltb}
use Rattle.common.specs.Lists.{up_to}
use Rattle.common.proofs.Lists.{upto_at}
use Rattle.common.proofs.Tests.{order, side}
use Rattle.fares.specs.Question.{no_leg}
use Rattle.fares.specs.declared.Question.{Question}
use Rattle.book.specs.Words.{offer_at, day_at, cards_at, cards_width, count_at, pairs_at, more_pairs_at, more_pairs_width, persons_at, legs_at, leg_width, question_width, railway_at, fare_at, third_at, fourth_at, card_in, leg_of, question_words, question_of, asked_at}
use Rattle.book.specs.Meaning.{Used, till, sequence, offer, day, persons, card, count, railway, fare, part, status}
use Rattle.book.proofs.ComparedWords.{card_said, leg_said, used_said}

-- what is zero in a row
pub zeros : (f : ℕ → ℕ) (m : ℕ) → up_to f m ≡ up_to (λ k. 0) m → (k : ℕ) → k < m → f k ≡ 0
zeros f m e k l = sym (upto_at f m k 0 l) ∙ (ap (λ xs. get_or xs k 0) e ∙ upto_at (λ j. 0) m k 0 l)

-- WHAT A QUESTION of n legs does not use among its words is zero: the category, further pairs, two words of a leg, and the legs from n on
pub record Unused (ws : List ℕ) (n : ℕ) : Type 0 where
  pub category : get_or ws pairs_at 0 ≡ 0
  pub pairs : (k : ℕ) → k < more_pairs_width → get_or ws (more_pairs_at + k) 0 ≡ 0
  pub third : (k : ℕ) → k < 8 → get_or ws (third_at k) 0 ≡ 0
  pub fourth : (k : ℕ) → k < 8 → get_or ws (fourth_at k) 0 ≡ 0
  pub legs : (k : ℕ) → k < 8 → n ≤ k → (get_or ws (railway_at k) 0 ≡ 0) × (get_or ws (fare_at k) 0 ≡ 0)

module _ (ws : List ℕ) (n : ℕ) (z : Unused ws n) where
  abbrev pub Place : ℕ → Type 0
  Place r = Used n (asked_at + r) ⊎ (get_or ws r 0 ≡ 0)

  leg_places : (k : ℕ) → k < 8 → Place (railway_at k) × Place (fare_at k)
  leg_places k l =
      ⊎_elim (λ m. (inl (railway k m refl), inl (fare k m refl))) (λ m. let b = z.legs k l m in (inr b.0, inr b.1)) (side k n)

  -- every place, before the legs and among them
  before_legs : (r : ℕ) → r < legs_at → Place r
  before_legs r l = ⊎_elim first (⊎_elim (λ e. inl (count (omega arith))) last) (order r count_at)
    where
      at_zero : (p : ℕ) → r ≡ p → get_or ws p 0 ≡ 0 → Place r
      at_zero p e y = inr (ap (λ i. get_or ws i 0) e ∙ y)

      first : r < count_at → Place r
      first a =
          ⊎_elim (λ h. ⊎_elim (λ b. inl (offer (omega arith))) (λ b. inl (day (omega arith))) (side r day_at))
          (λ h. inl (card (r - cards_at) (omega arith) (omega arith))) (side r cards_at)

      last : count_at < r → Place r
      last a =
          ⊎_elim (λ h. at_zero pairs_at (omega arith) z.category)
          (⊎_elim (λ e. inl (persons (omega arith))) (λ h. at_zero (more_pairs_at + (r - more_pairs_at)) (omega arith) (z.pairs (r - more_pairs_at) (omega arith))))
          (order r persons_at)

  module _ (r : ℕ) (a : legs_at ≤ r) (b : r < question_width) where
    abbrev leg : ℕ
    leg = (r - legs_at) / leg_width

    abbrev rest : ℕ
    rest = (r - legs_at) % leg_width

    inside : leg < 8
    inside = omega arith

    value_or_none : rest < 2 → Place r
    value_or_none u =
        ⊎_elim (λ h. let e : railway_at leg ≡ r = omega arith in subst Place e (leg_places leg inside).0)
        (λ h. let e : fare_at leg ≡ r = omega arith in subst Place e (leg_places leg inside).1) (side rest 1)

    kept_zero : 2 ≤ rest → Place r
    kept_zero u =
        ⊎_elim (λ h. let e : third_at leg ≡ r = omega arith in subst Place e (inr (z.third leg inside)))
        (λ h. let e : fourth_at leg ≡ r = omega arith in subst Place e (inr (z.fourth leg inside))) (side rest 3)

    among_legs : Place r
    among_legs = ⊎_elim value_or_none kept_zero (side rest 2)

  pub all_places : (r : ℕ) → r < question_width → Place r
  all_places r l = ⊎_elim (before_legs r) (λ a. among_legs r a l) (side r legs_at)

-- so it is in the words of a question
module _ (q : Question) where
  category_zero : get_or (question_words q) pairs_at 0 ≡ 0
  unfolding question_words up_to
  category_zero = refl

  more_pairs : (k : ℕ) → k < more_pairs_width → get_or (question_words q) (more_pairs_at + k) 0 ≡ 0
  unfolding question_words up_to
  more_pairs = zeros (λ k. get_or (question_words q) (more_pairs_at + k) 0) more_pairs_width refl

  third_zero : (k : ℕ) → k < 8 → get_or (question_words q) (third_at k) 0 ≡ 0
  unfolding question_words up_to flat_map
  third_zero = zeros (λ k. get_or (question_words q) (third_at k) 0) 8 refl

  fourth_zero : (k : ℕ) → k < 8 → get_or (question_words q) (fourth_at k) 0 ≡ 0
  unfolding question_words up_to flat_map
  fourth_zero = zeros (λ k. get_or (question_words q) (fourth_at k) 0) 8 refl

  no_leg_lem : (k : ℕ) → k < 8 → q.count ≤ k → leg_of (question_words q) k ≡ no_leg
  no_leg_lem k l m = leg_said q k l ∙ rw (le-ltb k q.count m)

  pub words_unused : Unused (question_words q) q.count
  words_unused =
      record {
        category = category_zero;
        pairs = more_pairs;
        third = third_zero;
        fourth = fourth_zero;
        legs = λ k l m. (ap (λ leg. leg.railway) (no_leg_lem k l m), ap (λ leg. leg.fare) (no_leg_lem k l m));
      }

  pub places : (r : ℕ) → r < question_width → Used q.count (asked_at + r) ⊎ (get_or (question_words q) r 0 ≡ 0)
  places = all_places (question_words q) q.count words_unused

-- THE QUESTION THAT WORDS SAY has these words again, at each place that is used
module _ (ws : List ℕ) (few : (question_of ws).count ≤ 8) where
  abbrev said : Question
  said = question_of ws

  card_again : (k : ℕ) → k < 4 → card_in (question_words said) k ≡ card_in ws k
  unfolding question_of
  card_again k l = card_said said k l ∙ upto_at (card_in ws) cards_width k 0 l

  leg_again : (k : ℕ) → k < said.count → leg_of (question_words said) k ≡ leg_of ws k
  unfolding question_of
  leg_again k l =
      let m : k < 8 = omega arith in
      used_said said k l m ∙ upto_at (leg_of ws) 8 k no_leg m

  pub used_again : (r : ℕ) → r < question_width → Used said.count (asked_at + r) → get_or (question_words said) r 0 ≡ get_or ws r 0
  unfolding question_words question_of up_to
  used_again r l (till e) = absurd (omega arith)
  used_again r l (sequence e) = absurd (omega arith)
  used_again r l (offer e) = let i : r ≡ offer_at = omega arith in rw i
  used_again r l (day e) = let i : r ≡ day_at = omega arith in rw i
  used_again r l (persons e) = let i : r ≡ persons_at = omega arith in rw i
  used_again r l (card k h e) = let i : r ≡ cards_at + k = omega arith in rw i (card_again k h)
  used_again r l (count e) = let i : r ≡ count_at = omega arith in rw i
  used_again r l (railway k h e) = let i : r ≡ railway_at k = omega arith in rw i (ap (λ leg. leg.railway) (leg_again k h))
  used_again r l (fare k h e) = let i : r ≡ fare_at k = omega arith in rw i (ap (λ leg. leg.fare) (leg_again k h))
  used_again r l (part k h e) = absurd (omega arith)
  used_again r l (status e) = absurd (omega arith)
