-- What a sound book and a sound entry have, test by test.
-- Assumes nothing.
use Prim.Native.Nat.{ℕ, zero, suc, ◌+◌, ◌-◌, ◌≤◌, ◌<◌}
use mathlib.Core.Path.{◌≡◌, refl, sym, ◌∙◌, ap}
use mathlib.Core.Bool.{true, ◌&&◌}
use mathlib.Core.Logic.{⊎_elim}
use mathlib.Core.List.{List, [], ◌∷◌}
use native.Mathlib.Omega.{arith}
use lib.Dec.{leb}
use lib.ListN.{length, get_or, drop}
use lib.Seq.{get_or-drop}
use borrow.Author.Tests.{eqb-true, leb-true, eq-eqb, ne_eqb, le-leb, lt-leb}
use Rattle.common.specs.Lists.{every, same}
use Rattle.common.proofs.Tests.{both_true, side}
use Rattle.common.proofs.Lists.{every_at, zero_at, upto_length, upto_at, first_length, first_at}
use Rattle.fares.specs.Question.{between, no_leg, legs_of, leg_in_limits, card_slots, cards_differ, limits_of, in_limits}
use Rattle.fares.proofs.FareLaws.{asked as asked_of}
use Rattle.book.specs.Words.{Entry, no_entry, capacity, book_length, start_of, count_of, entries, entry_at, leg_of, question_of, question_words}
use Rattle.book.specs.Status.{number_of_status, status_of}
use Rattle.book.specs.Sound.{is_zero, number_in_limits, asked_sound, bound_of, is_bounded, entry_sound, numbers_differ, sound_words}

pub record IsSound (w : List ℕ) : Type 0 where
  pub long : length w ≡ book_length
  pub few : count_of w ≤ capacity
  pub good : every entry_sound (entries w) ≡ true
  pub differ : numbers_differ (entries w) ≡ true
  pub clear : every is_zero (drop (start_of (count_of w)) w) ≡ true

pub is_sound : (w : List ℕ) → sound_words w ≡ true → IsSound w
unfolding sound_words
is_sound w e =
    record {
      long = eqb-true (length w) book_length (every_at (λ b. b) _ e 0 true (omega arith));
      few = leb-true (count_of w) capacity (every_at (λ b. b) _ e 1 true (omega arith));
      good = every_at (λ b. b) _ e 2 true (omega arith);
      differ = every_at (λ b. b) _ e 3 true (omega arith);
      clear = every_at (λ b. b) _ e 4 true (omega arith);
    }

pub sound_is : (w : List ℕ) → IsSound w → sound_words w ≡ true
unfolding sound_words every
sound_is w s = rw (eq-eqb (length w) book_length s.long, le-leb (count_of w) capacity s.few, s.good, s.differ, s.clear)

pub record SoundEntry (e : Entry) : Type 0 where
  pub number : number_in_limits e.till e.sequence ≡ true
  pub asked_well : asked_sound e.asked ≡ true
  pub bounded : is_bounded (bound_of (question_of e.asked)) e.parts ≡ true
  pub unused : every is_zero (drop (question_of e.asked).count e.parts) ≡ true
  pub live_or_not : leb e.status 1 ≡ true
  pub spared : every is_zero e.spare ≡ true

pub sound_entry : (e : Entry) → entry_sound e ≡ true → SoundEntry e
unfolding entry_sound
sound_entry e g =
    record {
      number = every_at (λ b. b) _ g 0 true (omega arith);
      asked_well = every_at (λ b. b) _ g 1 true (omega arith);
      bounded = every_at (λ b. b) _ g 2 true (omega arith);
      unused = every_at (λ b. b) _ g 3 true (omega arith);
      live_or_not = every_at (λ b. b) _ g 4 true (omega arith);
      spared = every_at (λ b. b) _ g 5 true (omega arith);
    }

-- the number of its status is the word that it has
pub status_again : (e : Entry) → entry_sound e ≡ true → number_of_status (status_of e.status) ≡ e.status
status_again e g = by_word e.status (leb-true e.status 1 (sound_entry e g).live_or_not)
  where
    by_word : (word : ℕ) → word ≤ 1 → number_of_status (status_of word) ≡ word
    by_word zero l = refl
    by_word (suc n) l = let one : n ≡ 0 = omega (arith, l) in rw one

-- the question of a sound entry, its cards, its leg count and its legs
asked_tests : (ws : List ℕ) → asked_sound ws ≡ true → let q = question_of ws in (in_limits q ≡ true) × ((cards_differ (card_slots q) && same ws (question_words q)) ≡ true)
asked_tests ws e = let q = question_of ws in both_true (in_limits q) (cards_differ (card_slots q) && same ws (question_words q)) e

pub asked_limits : (ws : List ℕ) → asked_sound ws ≡ true → in_limits (question_of ws) ≡ true
asked_limits ws e = (asked_tests ws e).0

pub asked_differ : (ws : List ℕ) → asked_sound ws ≡ true → cards_differ (card_slots (question_of ws)) ≡ true
asked_differ ws e = (both_true (cards_differ (card_slots (question_of ws))) (same ws (question_words (question_of ws))) (asked_tests ws e).1).0

pub few_legs : (ws : List ℕ) → asked_sound ws ≡ true → (question_of ws).count ≤ 8
few_legs ws e = (asked_of (question_of ws) (asked_limits ws e)).few

pub leg_limits : (ws : List ℕ) → asked_sound ws ≡ true → (k : ℕ) → k < (question_of ws).count → leg_in_limits (leg_of ws k) ≡ true
unfolding in_limits question_of
leg_limits ws e k l =
    let q = question_of ws in
    let n = first_length no_leg q.count q.legs in
    let t : every leg_in_limits (legs_of q) ≡ true = every_at (λ b. b) (limits_of q) (asked_limits ws e) 5 true (omega arith) in
    let h : leg_in_limits (get_or (legs_of q) k no_leg) ≡ true = every_at leg_in_limits (legs_of q) t k no_leg (omega (arith, n)) in
    let x : get_or (legs_of q) k no_leg ≡ leg_of ws k = first_at no_leg q.count q.legs k l ∙ upto_at (leg_of ws) 8 k no_leg (omega (arith, few_legs ws e)) in
    rw x at h

-- what is zero from n on, and so the parts from the leg count on
pub zero_from : (xs : List ℕ) (n : ℕ) → every is_zero (drop n xs) ≡ true → (k : ℕ) → n ≤ k → get_or xs k 0 ≡ 0
zero_from xs n z k l =
    let i : n + (k - n) ≡ k = omega arith in
    ap (λ j. get_or xs j 0) (sym i) ∙ (sym (get_or-drop n xs (k - n) 0) ∙ zero_at (drop n xs) z (k - n))

pub no_part : (e : Entry) → entry_sound e ≡ true → (k : ℕ) → (question_of e.asked).count ≤ k → get_or e.parts k 0 ≡ 0
no_part e g = zero_from e.parts (question_of e.asked).count (sound_entry e g).unused

-- words that are at most 0 are zero
at_most_zero : (x : ℕ) → leb x 0 ≡ is_zero x
at_most_zero x = ⊎_elim (λ h. lt-leb x 0 h ∙ sym (ne_eqb x 0 (λ e. omega arith))) (λ h. le-leb x 0 h ∙ sym (eq-eqb x 0 (omega arith))) (side 0 x)

pub bounded_by_zero : (xs : List ℕ) → is_bounded 0 xs ≡ every is_zero xs
unfolding every
bounded_by_zero [] = refl
bounded_by_zero (x ∷ xs) = rw (at_most_zero x, bounded_by_zero xs)

-- the largest word; a sequence within its limits is one word
abbrev pub most : ℕ
most = 4294967295

pub fits_word : (t s : ℕ) → number_in_limits t s ≡ true → s ≤ most
fits_word t s n = leb-true s most (both_true (leb 1 s) (leb s most) (both_true (between 1 65535 t) (between 1 most s) n).1).1

-- the entries in use, by their number
pub entry_is : (w : List ℕ) (i : ℕ) → i < count_of w → get_or (entries w) i no_entry ≡ entry_at w i
unfolding entries
entry_is w i l = upto_at (entry_at w) (count_of w) i no_entry l

pub entries_length : (w : List ℕ) → length (entries w) ≡ count_of w
unfolding entries
entries_length w = upto_length (entry_at w) (count_of w)
