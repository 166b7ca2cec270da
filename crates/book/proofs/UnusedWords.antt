-- What is looked at is what counts: words say their question again exactly if those that a question of so many legs does not use are zero.
-- Assumes nothing.
use Prim.Native.Nat.{ℕ, ◌+◌, ◌≤◌, ◌<◌}
use mathlib.Core.Path.{◌≡◌, refl, sym, ◌∙◌, subst}
use mathlib.Core.Bool.{Bool, true, false, ◌&&◌, and-true, and-false}
use mathlib.Core.List.{List}
use mathlib.Core.Logic.{⊎_elim}
use native.Mathlib.Omega.{arith}
use lib.ListN.{length, get_or, take, drop, length-take, length-drop}
use lib.Seq.{ext_get_or, get_or-take, get_or-drop}
use borrow.Author.Tests.{eqb-true, eq-eqb}
use Rattle.common.specs.Lists.{every, same, first_of, up_to}
use Rattle.common.proofs.Lists.{every_at, every_by, zero_at, is_same, same_is, first_length, first_at, upto_length, upto_at}
use Rattle.common.proofs.Tests.{side, never, both_true, refuted}
use Rattle.fares.specs.Question.{no_leg, leg_in_limits, legs_of, card_slots, cards_in_limits, cards_differ}
use Rattle.fares.specs.Helpers.{trip_in_limits}
use Rattle.fares.specs.declared.Question.{Question}
use Rattle.fares.proofs.QuestionLimits.{limits_apart, trip_few}
use Rattle.book.specs.Words.{pairs_at, more_pairs_at, more_pairs_width, railway_at, fare_at, third_at, fourth_at, question_width, leg_of, question_of, question_words, asked_at}
use Rattle.book.specs.Sound.{is_zero, asked_sound}
use Rattle.book.specs.Meaning.{Used, till, sequence, offer, day, persons, card, count, railway, fare, part, status}
use Rattle.book.specs.Helpers.{leg_clear, legs_clear, unused_zero}
use Rattle.book.proofs.QuestionPlaces.{Unused, all_places, words_unused, places, used_again}
use Rattle.book.proofs.QuestionWords.{words_length}
use Rattle.book.proofs.Each.{all_in_range}
use Rattle.book.proofs.SoundBook.{zero_from}

module _ (ws : List ℕ) (n : ℕ) (long : length ws ≡ question_width) (few : n ≤ 8) where
  -- FOUND ZERO, it is
  module _ (e : unused_zero ws n ≡ true) where
    each_zero : (is_zero (get_or ws pairs_at 0) ≡ true)
        × (every is_zero (take more_pairs_width (drop more_pairs_at ws)) ≡ true)
        × (every is_zero (drop (railway_at n) ws) ≡ true)
        × (every (leg_clear ws) (up_to (λ j. j) n) ≡ true)
    unfolding unused_zero
    each_zero =
        let a = both_true _ _ e in
        let b = both_true _ _ a.0 in
        let c = both_true _ _ b.0 in
        (c.0, c.1, b.1, sym (all_in_range (leg_clear ws) (λ j. j) n) ∙ a.1)

    behind : (p : ℕ) → railway_at n ≤ p → get_or ws p 0 ≡ 0
    unfolding unused_zero
    behind = zero_from ws (railway_at n) each_zero.2

    in_leg : (k : ℕ) → k < n → (get_or ws (third_at k) 0 ≡ 0) × (get_or ws (fourth_at k) 0 ≡ 0)
    unfolding unused_zero
    in_leg k l =
        let g : leg_clear ws (get_or (up_to (λ j. j) n) k 0) ≡ true = every_at (leg_clear ws) (up_to (λ j. j) n) each_zero.3 k 0 (rw (upto_length (λ (j : ℕ). j) n) l) in
        let f : leg_clear ws k ≡ true = rw (upto_at (λ (j : ℕ). j) n k 0 l) at g in
        let b = both_true (is_zero (get_or ws (third_at k) 0)) (is_zero (get_or ws (fourth_at k) 0)) f in
        (eqb-true _ 0 b.0, eqb-true _ 0 b.1)

    found : Unused ws n
    unfolding unused_zero
    found =
        record {
          category = eqb-true _ 0 each_zero.0;
          pairs = λ k l.
              let h : every is_zero (take more_pairs_width (drop more_pairs_at ws)) ≡ true = each_zero.1 in
              sym (get_or-take more_pairs_width (drop more_pairs_at ws) k 0 l ∙ get_or-drop more_pairs_at ws k 0) ∙ zero_at (take more_pairs_width (drop more_pairs_at ws)) h k;
          third = λ k l. ⊎_elim (λ h. (in_leg k h).0) (λ h. behind (third_at k) (omega arith)) (side k n);
          fourth = λ k l. ⊎_elim (λ h. (in_leg k h).1) (λ h. behind (fourth_at k) (omega arith)) (side k n);
          legs = λ k l h. (behind (railway_at k) (omega arith), behind (fare_at k) (omega arith));
        }

  -- and zero, it is found so
  module _ (z : Unused ws n) where
    legs_behind : (p : ℕ) → railway_at n ≤ p → p < question_width → get_or ws p 0 ≡ 0
    legs_behind p h l = ⊎_elim unless_used (λ y. y) (all_places ws n z p l)
      where
        unless_used : Used n (asked_at + p) → get_or ws p 0 ≡ 0
        unless_used (till i) = absurd (omega arith)
        unless_used (sequence i) = absurd (omega arith)
        unless_used (offer i) = absurd (omega arith)
        unless_used (day i) = absurd (omega arith)
        unless_used (persons i) = absurd (omega arith)
        unless_used (card k m i) = absurd (omega arith)
        unless_used (count i) = absurd (omega arith)
        unless_used (railway k m i) = absurd (omega arith)
        unless_used (fare k m i) = absurd (omega arith)
        unless_used (part k m i) = absurd (omega arith)
        unless_used (status i) = absurd (omega arith)

    pairs_found : every is_zero (take more_pairs_width (drop more_pairs_at ws)) ≡ true
    pairs_found =
        let m : length (take more_pairs_width (drop more_pairs_at ws)) ≡ more_pairs_width = rw (length-take, length-drop) (omega arith) in
        every_by is_zero 0 (take more_pairs_width (drop more_pairs_at ws))
        (λ k l. let h : k < more_pairs_width = omega (arith, m) in
        eq-eqb _ 0 (get_or-take more_pairs_width (drop more_pairs_at ws) k 0 h ∙ (get_or-drop more_pairs_at ws k 0 ∙ z.pairs k h)))

    behind_found : every is_zero (drop (railway_at n) ws) ≡ true
    behind_found =
        every_by is_zero 0 (drop (railway_at n) ws)
        (λ j l. eq-eqb _ 0 (get_or-drop (railway_at n) ws j 0 ∙ legs_behind (railway_at n + j) (omega arith) (omega (arith, length-drop (railway_at n) ws))))

    legs_found : legs_clear ws n ≡ true
    legs_found =
        all_in_range (leg_clear ws) (λ j. j) n
        ∙ every_by (leg_clear ws) 0 (up_to (λ j. j) n)
        (λ k l. let h : k < n = rw (upto_length (λ (j : ℕ). j) n) at l in
        let m : k < 8 = omega arith in
        rw (upto_at (λ (j : ℕ). j) n k 0 h, eq-eqb _ 0 (z.third k m), eq-eqb _ 0 (z.fourth k m)))

    is_found : unused_zero ws n ≡ true
    unfolding unused_zero every
    is_found = rw (eq-eqb _ 0 z.category, pairs_found, behind_found, legs_found)

-- THE LAW
module _ (ws : List ℕ) (long : length ws ≡ question_width) (few : (question_of ws).count ≤ 8) where
  abbrev q : Question
  q = question_of ws

  again : Unused ws q.count → (r : ℕ) → r < question_width → get_or ws r 0 ≡ get_or (question_words q) r 0
  again z r l =
      let by_use : Used q.count (asked_at + r) → get_or ws r 0 ≡ get_or (question_words q) r 0 = λ u. sym (used_again ws few r l u) in
      ⊎_elim by_use (λ y. ⊎_elim by_use (λ x. y ∙ sym x) (places q r l)) (all_places ws q.count z r l)

  same_if_unused : same ws (question_words q) ≡ unused_zero ws q.count
  same_if_unused = go (unused_zero ws q.count) refl
    where
      go : (b : Bool) → unused_zero ws q.count ≡ b → same ws (question_words q) ≡ b
      go true e =
          is_same ws (question_words q)
          (ext_get_or 0 ws (question_words q) (long ∙ sym (words_length q)) (λ r l. again (found ws q.count long few e) r (omega arith)))
      go false e =
          refuted (same ws (question_words q))
          (λ s. never (is_found ws q.count long few (subst (λ x. Unused x q.count) (sym (same_is ws (question_words q) s)) (words_unused q))) e)

  -- the legs that are asked for, where their words stand
  legs_asked : legs_of q ≡ up_to (leg_of ws) q.count
  unfolding question_of
  legs_asked =
      let n = q.count in
      let m = first_length no_leg n (up_to (leg_of ws) 8) in
      ext_get_or no_leg (first_of no_leg n (up_to (leg_of ws) 8)) (up_to (leg_of ws) n) (m ∙ sym (upto_length (leg_of ws) n))
      (λ k l. let h : k < n = omega (arith, m) in
      first_at no_leg n (up_to (leg_of ws) 8) k h ∙ (upto_at (leg_of ws) 8 k no_leg (omega (arith, few)) ∙ sym (upto_at (leg_of ws) n k no_leg h)))

  -- SOUND WORDS test by test: what is asked for besides cards and legs, the cards, that they differ, what is not used, the legs
  pub sound_apart : asked_sound ws ≡ (trip_in_limits q.offer q.day q.persons q.count
      && (cards_in_limits (card_slots q) && (cards_differ (card_slots q) && (unused_zero ws q.count && every leg_in_limits (up_to (leg_of ws) q.count)))))
  sound_apart =
      rw (same_if_unused, limits_apart q, legs_asked)
      (go (trip_in_limits q.offer q.day q.persons q.count) (cards_in_limits (card_slots q)) (every leg_in_limits (up_to (leg_of ws) q.count))
      (cards_differ (card_slots q)) (unused_zero ws q.count))
    where
      go : (trip cards legs differ unused : Bool)
          → ((trip && (cards && legs)) && (differ && unused)) ≡ (trip && (cards && (differ && (unused && legs))))
      go false cards legs differ unused = refl
      go true false legs differ unused = refl
      go true true true differ unused = rw (and-true unused) refl
      go true true false differ unused = rw (and-false unused, and-false differ) refl

-- THE TESTS IN THEIR ORDER, whatever the words say
pub sound_tests : (ws : List ℕ) → length ws ≡ question_width → let q = question_of ws in
    asked_sound ws ≡ (trip_in_limits q.offer q.day q.persons q.count
    && (cards_in_limits (card_slots q) && (cards_differ (card_slots q) && (unused_zero ws q.count && every leg_in_limits (up_to (leg_of ws) q.count)))))
sound_tests ws long = go (trip_in_limits q.offer q.day q.persons q.count) refl
  where
    q : Question
    q = question_of ws

    go : (b : Bool) → trip_in_limits q.offer q.day q.persons q.count ≡ b → asked_sound ws ≡ (trip_in_limits q.offer q.day q.persons q.count
        && (cards_in_limits (card_slots q) && (cards_differ (card_slots q) && (unused_zero ws q.count && every leg_in_limits (up_to (leg_of ws) q.count)))))
    go true e = sound_apart ws long (trip_few _ _ _ _ e)
    go false e = rw (limits_apart q, e)
