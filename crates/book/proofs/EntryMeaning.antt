-- The check of an entry finds what a sound sale is: value by value, both ways.
-- Assumes nothing.
use Prim.Native.Nat.{ℕ, ◌+◌, ◌-◌, ◌≤◌, ◌<◌, zero-le}
use mathlib.Core.Path.{◌≡◌, refl, sym, ◌∙◌, ap, subst}
use mathlib.Core.Bool.{true}
use mathlib.Core.List.{List}
use mathlib.Core.Logic.{◌⊎◌, inl, inr, ⊎_elim}
use native.Mathlib.Omega.{arith}
use lib.Dec.{leb}
use lib.ListN.{length, get_or, drop, length-take, length-drop}
use lib.Seq.{ext_get_or, get_or-take, get_or-drop}
use borrow.Author.Tests.{leb-true, le-leb, eq-eqb}
use Rattle.common.specs.Lists.{every, only, up_to}
use Rattle.common.proofs.Lists.{every_at, every_by, zero_at, is_same, upto_length, upto_at, first_length, first_at}
use Rattle.common.proofs.Tests.{order, side, both_true, in_range}
use Rattle.fares.specs.Question.{between, no_leg, is_given, card_slots, cards_differ, in_limits}
use Rattle.fares.specs.Reductions.{part_bound}
use Rattle.fares.specs.Meaning.{LegInLimits, leg_at, card_at, InLimits}
use Rattle.fares.proofs.CardSlots.{differ_means, means_differ}
use Rattle.fares.proofs.QuestionLimits.{limits_mean, means_limits}
use Rattle.fares.specs.declared.Question.{Question}
use Rattle.book.specs.Words.{Entry, offer_at, day_at, cards_at, count_at, persons_at, railway_at, fare_at, leg_of, question_width, question_of, question_words, sequence_at, asked_at, parts_at, status_at, spare_at, width, entry_of}
use Rattle.book.specs.Sound.{is_zero, number_in_limits, asked_sound, bound_of, is_bounded, entry_sound}
use Rattle.book.specs.Meaning.{Within, word, asked_word, cards_in, Used, till, sequence, offer, day, persons, card, count, railway, fare, part, status, SoundSale}
use Rattle.book.proofs.QuestionPlaces.{places, used_again}
use Rattle.book.proofs.QuestionWords.{words_length, asked_again}
use Rattle.book.proofs.EntryWords.{asked_at_lem, part_at, card_at_lem, count_at_lem}
use Rattle.book.proofs.SoundBook.{SoundEntry, sound_entry, asked_limits, asked_differ, no_part}

module _ (b : List ℕ) (long : length b ≡ width) where
  abbrev e : Entry
  e = entry_of b

  abbrev ws : List ℕ
  ws = e.asked

  abbrev q : Question
  q = question_of ws

  abbrev n : ℕ
  n = asked_word b count_at

  parts_long : length e.parts ≡ 8
  parts_long = rw (length-take, length-drop) (omega arith)

  spare_at_lem : (j : ℕ) → j < 2 → get_or e.spare j 0 ≡ word b (spare_at + j)
  spare_at_lem j l = get_or-take 2 (drop spare_at b) j 0 l ∙ get_or-drop spare_at b j 0

  leg_is : (k : ℕ) → k < 8 → leg_at q k ≡ leg_of ws k
  unfolding question_of
  leg_is k l = upto_at (leg_of ws) 8 k no_leg l

  -- a card, and the bound by how many there are
  card_is : (k : ℕ) → k < 4 → card_at q k ≡ asked_word b (cards_at + k)
  card_is = card_at_lem b

  slots_are : card_slots q ≡ up_to (λ k. asked_word b (cards_at + k)) 4
  slots_are =
      let n = first_length 0 4 q.cards in
      let own : ℕ → ℕ = λ k. asked_word b (cards_at + k) in
      ext_get_or 0 (card_slots q) (up_to own 4) (n ∙ sym (upto_length own 4))
      (λ k m. let l : k < 4 = omega (arith, n) in first_at 0 4 q.cards k l ∙ (card_is k l ∙ sym (upto_at own 4 k 0 l)))

  bound_is : bound_of q ≡ part_bound (cards_in b)
  bound_is = ap (λ cards. part_bound (length (only is_given cards))) slots_are

  -- FOUND SOUND, an entry is a sound sale
  module _ (g : entry_sound e ≡ true) where
    abbrev s : SoundEntry e
    s = sound_entry e g

    -- the limits of its question
    asked : InLimits q
    asked = limits_mean q (asked_limits ws s.asked_well)

    number : (between 1 65535 e.till ≡ true) × (between 1 4294967295 e.sequence ≡ true)
    number = both_true (between 1 65535 e.till) (between 1 4294967295 e.sequence) s.number

    few : n ≤ 8
    few = rw (count_at_lem b) at asked.count.1

    leg : (k : ℕ) → k < n → LegInLimits (leg_of ws k)
    leg k l = rw (leg_is k (omega (arith, few))) at (asked.legs k (rw (count_at_lem b) l))

    -- a place of the question, of the parts, and any
    in_question : (r : ℕ) → r < question_width → Used n (asked_at + r) ⊎ (word b (asked_at + r) ≡ 0)
    in_question r l =
        ⊎_elim (λ u. inl (subst (λ m. Used m (asked_at + r)) (count_at_lem b) u))
        (λ z. inr (sym (asked_at_lem b r l) ∙ (ap (λ x. get_or x r 0) (sym (asked_again ws s.asked_well)) ∙ z))) (places q r l)

    in_parts : (k : ℕ) → k < 8 → Used n (parts_at + k) ⊎ (word b (parts_at + k) ≡ 0)
    in_parts k l = ⊎_elim (λ h. inl (part k h refl)) (λ h. inr (sym (part_at b k l) ∙ no_part e g k (rw (count_at_lem b) h))) (side k n)

    abbrev Place : ℕ → Type 0
    Place p = Used n p ⊎ (word b p ≡ 0)

    spared : (p : ℕ) → p < width → status_at < p → Place p
    spared p l h =
        let i : spare_at + (p - spare_at) ≡ p = omega arith in
        subst Place i (inr (sym (spare_at_lem (p - spare_at) (omega arith)) ∙ zero_at e.spare s.spared (p - spare_at)))

    in_entry : (p : ℕ) → p < width → Place p
    in_entry p l =
        ⊎_elim (λ h. ⊎_elim (λ a. inl (till (omega arith))) (λ a. inl (sequence (omega arith))) (side p sequence_at))
        (λ h. ⊎_elim (λ a. let i : asked_at + (p - asked_at) ≡ p = omega arith in subst Place i (in_question (p - asked_at) (omega arith)))
        (λ a. ⊎_elim (λ c. let i : parts_at + (p - parts_at) ≡ p = omega arith in subst Place i (in_parts (p - parts_at) (omega arith)))
        (⊎_elim (λ c. inl (status c)) (spared p l)) (order p status_at)) (side p parts_at)) (side p asked_at)

    pub means : SoundSale b
    unfolding question_of
    means =
        record {
          till = in_range 1 e.till 65535 number.0;
          sequence = in_range 1 e.sequence 4294967295 number.1;
          offer = rw (asked_at_lem b offer_at (omega arith)) at asked.offer;
          day = rw (asked_at_lem b day_at (omega arith)) at asked.day;
          persons = rw (asked_at_lem b persons_at (omega arith)) at asked.persons;
          cards = λ k l. rw (card_is k l) at (asked.cards k l);
          used_first = λ j k m l z. sym (card_is k l) ∙ asked.used_first j k m l (card_is j (omega arith) ∙ z);
          cards_apart = λ j k m l z.
              let i : j < 4 = omega arith in
              sym (card_is j i) ∙ differ_means q (asked_differ ws s.asked_well) j k m l (card_is j i ∙ (z ∙ sym (card_is k l)));
          count = rw (asked_at_lem b count_at (omega arith)) at asked.count;
          railways = λ k l. rw (asked_at_lem b (railway_at k) (omega (arith, few))) at (leg k l).railway;
          fares = λ k l. rw (asked_at_lem b (fare_at k) (omega (arith, few))) at (leg k l).fare;
          parts = λ k l.
              let h = every_at (λ p. leb p (bound_of q)) e.parts s.bounded k 0 (omega (arith, few, parts_long)) in
              rw (part_at b k (omega (arith, few)), bound_is) at (leb-true (get_or e.parts k 0) (bound_of q) h);
          status = leb-true e.status 1 s.live_or_not;
          unused = in_entry;
        }

  -- A SOUND SALE is found sound
  module _ (s : SoundSale b) where
    said_count : q.count ≡ n
    said_count = count_at_lem b

    few_said : q.count ≤ 8
    few_said = omega (arith, said_count, s.count)

    between_by : (lowest highest v x : ℕ) → x ≡ v → Within lowest highest v → between lowest highest x ≡ true
    between_by lowest highest v x i h = rw (i, le-leb lowest v h.0, le-leb v highest h.1)

    number_found : number_in_limits e.till e.sequence ≡ true
    number_found = rw (between_by 1 65535 _ e.till refl s.till, between_by 1 4294967295 _ e.sequence refl s.sequence)

    leg_found : (k : ℕ) → k < n → k < 8 → LegInLimits (leg_of ws k)
    leg_found k l m = record { railway = rw (asked_at_lem b (railway_at k) (omega arith)) (s.railways k l); fare = rw (asked_at_lem b (fare_at k) (omega arith)) (s.fares k l) }

    limits_found : in_limits q ≡ true
    unfolding question_of
    limits_found =
        means_limits q (record {
          offer = rw (asked_at_lem b offer_at (omega arith)) s.offer;
          day = rw (asked_at_lem b day_at (omega arith)) s.day;
          persons = rw (asked_at_lem b persons_at (omega arith)) s.persons;
          cards = λ k l. rw (card_is k l) (s.cards k l);
          used_first = λ j k m l z. card_is k l ∙ s.used_first j k m l (sym (card_is j (omega arith)) ∙ z);
          count = rw said_count s.count;
          legs = λ k l. rw (leg_is k (omega (arith, few_said))) (leg_found k (omega (arith, said_count)) (omega (arith, few_said)));
        })

    differ_found : cards_differ (card_slots q) ≡ true
    differ_found =
        means_differ q
        (λ j k m l z. let i : j < 4 = omega arith in card_is j i ∙ s.cards_apart j k m l (sym (card_is j i) ∙ (z ∙ card_is k l)))

    -- the words are those of the question that they say: a place is used, or it is zero in both
    word_again : (r : ℕ) → r < question_width → get_or ws r 0 ≡ get_or (question_words q) r 0
    word_again r l = ⊎_elim by_use (λ z. ⊎_elim by_own_use (λ y. asked_at_lem b r l ∙ (y ∙ sym z)) (s.unused (asked_at + r) (omega arith))) (places q r l)
      where
        by_use : Used q.count (asked_at + r) → get_or ws r 0 ≡ get_or (question_words q) r 0
        by_use u = sym (used_again ws few_said r l u)

        by_own_use : Used n (asked_at + r) → get_or ws r 0 ≡ get_or (question_words q) r 0
        by_own_use u = by_use (subst (λ m. Used m (asked_at + r)) (sym said_count) u)

    asked_found : asked_sound ws ≡ true
    asked_found =
        let k : length ws ≡ question_width = rw (length-take, length-drop) (omega arith) in
        let i : ws ≡ question_words q = ext_get_or 0 ws (question_words q) (k ∙ sym (words_length q)) (λ r l. word_again r (omega arith)) in
        rw (limits_found, differ_found, is_same ws (question_words q) i)

    -- behind the parts of the legs only the status is used
    behind : (p : ℕ) → parts_at + n ≤ p → p < width → (p ≡ status_at → ⊥) → word b p ≡ 0
    behind p h l no-status = ⊎_elim unless_used (λ z. z) (s.unused p l)
      where
        unless_used : Used n p → word b p ≡ 0
        unless_used (till i) = absurd (omega arith)
        unless_used (sequence i) = absurd (omega arith)
        unless_used (offer i) = absurd (omega arith)
        unless_used (day i) = absurd (omega arith)
        unless_used (persons i) = absurd (omega arith)
        unless_used (card k m i) = absurd (omega arith)
        unless_used (count i) = absurd (omega arith)
        unless_used (railway k m i) = absurd (omega (arith, s.count))
        unless_used (fare k m i) = absurd (omega (arith, s.count))
        unless_used (part k m i) = absurd (omega arith)
        unless_used (status i) = absurd (no-status i)

    no_part_at : (k : ℕ) → n ≤ k → k < 8 → get_or e.parts k 0 ≡ 0
    no_part_at k h l = part_at b k l ∙ behind (parts_at + k) (omega arith) (omega arith) (λ i. omega arith)

    bounded_found : is_bounded (bound_of q) e.parts ≡ true
    bounded_found =
        rw bound_is
        (every_by (λ p. leb p (part_bound (cards_in b))) 0 e.parts
        (λ k l. let m : k < 8 = omega (arith, parts_long) in
        le-leb (get_or e.parts k 0) (part_bound (cards_in b))
        (⊎_elim (λ h. rw (part_at b k m) (s.parts k h)) (λ h. rw (no_part_at k h m) zero-le) (side k n))))

    unused_found : every is_zero (drop q.count e.parts) ≡ true
    unused_found =
        every_by is_zero 0 (drop q.count e.parts)
        (λ j l. let m : q.count + j < 8 = omega (arith, parts_long, length-drop q.count e.parts) in
        eq-eqb _ 0 (get_or-drop q.count e.parts j 0 ∙ no_part_at (q.count + j) (omega (arith, said_count)) m))

    spare_found : every is_zero e.spare ≡ true
    spare_found =
        let k : length e.spare ≡ 2 = rw (length-take, length-drop) (omega arith) in
        every_by is_zero 0 e.spare
        (λ j l. eq-eqb _ 0 (spare_at_lem j (omega arith) ∙ behind (spare_at + j) (omega (arith, s.count)) (omega arith) (λ i. omega arith)))

    pub meant : entry_sound e ≡ true
    unfolding entry_sound every
    meant = rw (number_found, asked_found, bounded_found, unused_found, le-leb e.status 1 s.status, spare_found)
