-- A question and its words say each other. What the words of a question say is that question, with no leg in the slots from its leg count on; so the
-- words of a question are its own words again, and a question within its limits stays so.
-- Assumes nothing.
use Prim.Native.Nat.{ℕ, suc, ◌+◌, ◌-◌, ◌*◌, ◌≤◌, ◌<◌}
use mathlib.Core.Path.{◌≡◌, refl, sym, ◌∙◌, ap}
use mathlib.Core.Bool.{Bool, true, false, cond, ◌&&◌}
use mathlib.Core.List.{List, [], ◌∷◌, ◌++◌, flat_map, append_assoc}
use mathlib.Core.Logic.{⊎_elim}
use native.Mathlib.Omega.{arith}
use lib.Dec.{ltb}
use lib.ListN.{length, get_or, set, replicate, length-append, get_or-eq_default}
use lib.Seq.{ext_get_or, append_snoc, set_at}
use borrow.Author.Tests.{lt-ltb, le-ltb}
use Rattle.common.specs.Lists.{same, up_to}
use Rattle.common.proofs.Lists.{upto_length, upto_at, upto_same, upto_more, first_length, first_at, is_same, same_is}
use Rattle.common.proofs.Tests.{both_true, side}
use Rattle.fares.specs.Question.{no_leg, legs_of, card_slots, cards_differ, in_limits}
use Rattle.fares.specs.Meaning.{card_at}
use Rattle.fares.specs.declared.Leg.{Leg}
use Rattle.fares.specs.declared.Question.{Question}
use Rattle.fares.proofs.FareLaws.{asked}
use Rattle.book.specs.Words.{cards_width, card_words, pair_words, leg_at, leg_words, leg_width, railway_at, fare_at, question_words, question_of, question_width}
use Rattle.book.specs.Sound.{asked_sound, bound_of}

module _ (q : Question) where
  -- the question as its words say it
  abbrev pub kept : Question
  kept = record { offer = q.offer; day = q.day; persons = q.persons; cards = card_words q; count = q.count; legs = up_to (leg_at q) 8 }

  pub said : question_of (question_words q) ≡ kept
  unfolding question_of question_words up_to flat_map
  said = refl

  pub said_count : (question_of (question_words q)).count ≡ q.count
  said_count = ap (λ x. x.count) said

  pub words_length : length (question_words q) ≡ question_width
  unfolding question_words up_to flat_map
  words_length = refl

  twice : (b : Bool) (leg : Leg) → cond b (cond b leg no_leg) no_leg ≡ cond b leg no_leg
  twice true leg = refl
  twice false leg = refl

  same_legs : up_to (leg_at kept) 8 ≡ up_to (leg_at q) 8
  same_legs = upto_same (leg_at kept) (leg_at q) 8 (λ j l. rw (upto_at (leg_at q) 8 j no_leg l) (twice (ltb j q.count) (get_or q.legs j no_leg)))

  same_cards : card_words kept ≡ card_words q
  unfolding up_to
  same_cards = refl

  pub slots_kept : card_slots kept ≡ card_slots q
  slots_kept =
      let n = first_length {A = ℕ} 0 4 in
      ext_get_or 0 (card_slots kept) (card_slots q) (n kept.cards ∙ sym (n q.cards))
      (λ k m. let l : k < 4 = omega (arith, n kept.cards) in
      first_at 0 4 kept.cards k l ∙ (upto_at (card_at q) cards_width k 0 l ∙ sym (first_at 0 4 q.cards k l)))

  -- beyond the leg count no leg is said
  pub no_leg_said : (k : ℕ) → q.count ≤ k → get_or (question_of (question_words q)).legs k no_leg ≡ no_leg
  no_leg_said k l = ap (λ x. get_or x.legs k no_leg) said ∙ ⊎_elim inside outside (side k 8)
    where
      inside : k < 8 → get_or (up_to (leg_at q) 8) k no_leg ≡ no_leg
      inside m = upto_at (leg_at q) 8 k no_leg m ∙ rw (le-ltb k q.count l)

      outside : 8 ≤ k → get_or (up_to (leg_at q) 8) k no_leg ≡ no_leg
      outside m = get_or-eq_default (up_to (leg_at q) 8) no_leg (rw (upto_length (leg_at q) 8) m)

  pub words_again : question_words (question_of (question_words q)) ≡ question_words q
  unfolding question_words
  words_again = ap question_words said ∙ rw (same_cards, same_legs)

  pub said_bound : bound_of (question_of (question_words q)) ≡ bound_of q
  said_bound = rw (said, slots_kept)

  legs_asked : q.count ≤ 8 → legs_of kept ≡ legs_of q
  legs_asked h =
      let n = first_length no_leg q.count in
      ext_get_or no_leg (legs_of kept) (legs_of q) (n kept.legs ∙ sym (n q.legs))
      (λ j m. let l : j < q.count = omega (arith, n kept.legs) in
      first_at no_leg q.count kept.legs j l
      ∙ (upto_at (leg_at q) 8 j no_leg (omega arith) ∙ rw (lt-ltb j q.count l) (sym (first_at no_leg q.count q.legs j l))))

  pub asked_sound_lem : in_limits q ≡ true → cards_differ (card_slots q) ≡ true → asked_sound (question_words q) ≡ true
  unfolding in_limits
  asked_sound_lem e d =
      let l : in_limits kept ≡ true = rw (slots_kept, legs_asked (asked q e).few) e in
      rw (said, l, slots_kept, d, is_same (question_words q) (question_words kept) (sym words_again ∙ ap question_words said))

-- and words that are sound are those of the question that they say
pub asked_again : (ws : List ℕ) → asked_sound ws ≡ true → question_words (question_of ws) ≡ ws
asked_again ws e =
    let q = question_of ws in
    let own = same ws (question_words q) in
    sym (same_is ws (question_words q) (both_true (cards_differ (card_slots q)) own (both_true (in_limits q) (cards_differ (card_slots q) && own) e).1).1)

-- AS THEY ARE WRITTEN: the words before the legs, the legs so far, and zeros
abbrev pub written : Question → ℕ → List ℕ
written q j = (q.offer ∷ q.day ∷ (card_words q ++ (q.count ∷ (pair_words q ++ flat_map leg_words (up_to (leg_at q) j))))) ++ replicate ((8 - j) * leg_width) 0

flat_length : (legs : List Leg) → length (flat_map leg_words legs) ≡ length legs * leg_width
unfolding flat_map
flat_length [] = refl
flat_length (leg ∷ legs) = omega (arith, flat_length legs)

flat_more : (legs : List Leg) (leg : Leg) → flat_map leg_words (legs ++ (leg ∷ [])) ≡ flat_map leg_words legs ++ leg_words leg
unfolding flat_map
flat_more [] leg = refl
flat_more (x ∷ legs) leg = ap (leg_words x ++◌) (flat_more legs leg)

-- two words of four zeros behind other words
leg_set : (p z : List ℕ) (n : ℕ) (leg : Leg) → length p ≡ n
    → set (set (p ++ (0 ∷ 0 ∷ 0 ∷ 0 ∷ z)) n leg.railway) (n + 1) leg.fare ≡ (p ++ leg_words leg) ++ z
leg_set p z n leg e =
    let a = leg.railway in
    let s : set (p ++ (0 ∷ 0 ∷ 0 ∷ 0 ∷ z)) n a ≡ (p ++ (a ∷ [])) ++ (0 ∷ 0 ∷ 0 ∷ z) =
    set_at p 0 (0 ∷ 0 ∷ 0 ∷ z) a n e ∙ sym (append_snoc p a (0 ∷ 0 ∷ 0 ∷ z)) in
    rw s
    (set_at (p ++ (a ∷ [])) 0 (0 ∷ 0 ∷ z) leg.fare (n + 1) (simp length-append (omega arith))
    ∙ (append_snoc p a (leg.fare ∷ 0 ∷ 0 ∷ z) ∙ sym (append_assoc p (leg_words leg) z)))

pub leg_written : (q : Question) (j : ℕ) {leg : Leg} {ws : List ℕ} → j < 8 → leg ≡ leg_at q j → ws ≡ written q j
    → set (set ws (railway_at j) leg.railway) (fare_at j) leg.fare ≡ written q (j + 1)
unfolding up_to
leg_written q j {leg} l e i =
    let first = q.offer ∷ q.day ∷ (card_words q ++ (q.count ∷ pair_words q)) in
    let z : List ℕ = replicate ((8 - (j + 1)) * leg_width) 0 in
    let n : (8 - j) * leg_width ≡ suc (suc (suc (suc ((8 - (j + 1)) * leg_width)))) = omega arith in
    let k = upto_length (leg_at q) j in
    let m : length (first ++ flat_map leg_words (up_to (leg_at q) j)) ≡ railway_at j = omega (arith, flat_length (up_to (leg_at q) j)) in
    rw (i, n)
    (leg_set (first ++ flat_map leg_words (up_to (leg_at q) j)) z (railway_at j) leg m
    ∙ rw (upto_more (leg_at q) j, flat_more (up_to (leg_at q) j) (leg_at q j), e))

pub none_written : (q : Question) → q.offer ∷ q.day ∷ (card_words q ++ (q.count ∷ (pair_words q ++ replicate (8 * leg_width) 0))) ≡ written q 0
unfolding up_to flat_map
none_written q = refl

pub all_written : (q : Question) → written q 8 ≡ question_words q
unfolding question_words up_to flat_map
all_written q = refl
