-- The four slots for cards: what their limits and their difference mean, slot by slot, and a step at a slot.
-- Assumes nothing.
use Prim.Native.Nat.{ℕ, zero, suc, ◌+◌, ◌≤◌, ◌<◌, zero-le, suc-le-suc}
use mathlib.Core.Path.{◌≡◌, refl, sym, ◌∙◌}
use mathlib.Core.Bool.{Bool, true, false, cond, not, ◌&&◌, and-true}
use mathlib.Core.List.{List, [], ◌∷◌}
use native.Mathlib.Nat.{le_of_suc-le-suc, not-suc-le-zero}
use native.Mathlib.Numerals.{add-one}
use native.Mathlib.Omega.{arith}
use lib.Dec.{eqb, leb}
use lib.ListN.{length, get_or, drop, length-drop, drop_of_length-le}
use lib.Seq.{drop-cons, get_or-drop, ext_get_or}
use borrow.Author.Tests.{eqb-true, eq-eqb, ne_eqb, leb-true, le-leb, not-true}
use Rattle.common.specs.Lists.{every, any, only, first_of}
use Rattle.common.proofs.Tests.{never, both_true, refuted}
use Rattle.common.proofs.Lists.{any_at, at_any, first_length, first_at}
use Rattle.fares.specs.Question.{is_given, card_slots, cards_in_limits, cards_differ}
use Rattle.fares.specs.Meaning.{card_at, CardsDiffer}
use Rattle.fares.specs.declared.Question.{Question}

-- none is used
none_used : (cs : List ℕ) → every (eqb 0) cs ≡ true → (k : ℕ) → k < length cs → get_or cs k 0 ≡ 0
unfolding every
none_used [] e k l = absurd (not-suc-le-zero l)
none_used (c ∷ cs) e zero l = sym (eqb-true 0 c (both_true (eqb 0 c) (every (eqb 0) cs) e).0)
none_used (c ∷ cs) e (suc k) l = none_used cs (both_true (eqb 0 c) (every (eqb 0) cs) e).1 k (le_of_suc-le-suc l)

used_none : (cs : List ℕ) → ((k : ℕ) → k < length cs → get_or cs k 0 ≡ 0) → every (eqb 0) cs ≡ true
unfolding every
used_none [] h = refl
used_none (c ∷ cs) h = rw (eq-eqb 0 c (sym (h 0 (suc-le-suc zero-le)))) (used_none cs (λ k l. h (suc k) (suc-le-suc l)))

-- THE LIMITS: each card is at most 999, and behind a slot that is not used none is
pub record Tidy (cs : List ℕ) : Type 0 where
  pub small : (k : ℕ) → k < length cs → get_or cs k 0 ≤ 999
  pub used_first : (j k : ℕ) → j < k → k < length cs → get_or cs j 0 ≡ 0 → get_or cs k 0 ≡ 0

tidy : (cs : List ℕ) → cards_in_limits cs ≡ true → Tidy cs
unfolding cards_in_limits
tidy [] e = record { small = λ k l. absurd (not-suc-le-zero l); used_first = λ j k m l. absurd (not-suc-le-zero l) }
tidy (c ∷ cs) e =
    let b = both_true (leb c 999) (cond (is_given c) (cards_in_limits cs) (every (eqb 0) cs)) e in
    go (eqb c 0) refl (leb-true c 999 b.0) b.1 (tidy cs)
  where
    go : (z : Bool) → eqb c 0 ≡ z → c ≤ 999 → cond (not z) (cards_in_limits cs) (every (eqb 0) cs) ≡ true → (cards_in_limits cs ≡ true → Tidy cs) → Tidy (c ∷ cs)
    go true z s h r =
        let none = none_used cs h in
        record { small = small none; used_first = used none }
      where
        small : ((k : ℕ) → k < length cs → get_or cs k 0 ≡ 0) → (k : ℕ) → k < suc (length cs) → get_or (c ∷ cs) k 0 ≤ 999
        small n zero l = s
        small n (suc k) l = rw (n k (le_of_suc-le-suc l)) (omega arith)

        used : ((k : ℕ) → k < length cs → get_or cs k 0 ≡ 0) → (j k : ℕ) → j < k → k < suc (length cs) → get_or (c ∷ cs) j 0 ≡ 0 → get_or (c ∷ cs) k 0 ≡ 0
        used n j zero m l f = absurd (not-suc-le-zero m)
        used n j (suc k) m l f = n k (le_of_suc-le-suc l)
    go false z s h r = let t = r h in record { small = small t; used_first = used t }
      where
        small : Tidy cs → (k : ℕ) → k < suc (length cs) → get_or (c ∷ cs) k 0 ≤ 999
        small t zero l = s
        small t (suc k) l = t.small k (le_of_suc-le-suc l)

        used : Tidy cs → (j k : ℕ) → j < k → k < suc (length cs) → get_or (c ∷ cs) j 0 ≡ 0 → get_or (c ∷ cs) k 0 ≡ 0
        used t zero k m l f = never (eq-eqb c 0 f) z
        used t (suc j) zero m l f = absurd (not-suc-le-zero m)
        used t (suc j) (suc k) m l f = t.used_first j k (le_of_suc-le-suc m) (le_of_suc-le-suc l) f

within_limits : (cs : List ℕ) → Tidy cs → cards_in_limits cs ≡ true
unfolding cards_in_limits
within_limits [] t = refl
within_limits (c ∷ cs) t = rw (le-leb c 999 (t.small 0 (suc-le-suc zero-le))) (go (eqb c 0) refl (within_limits cs rest))
  where
    rest : Tidy cs
    rest = record { small = λ k l. t.small (suc k) (suc-le-suc l); used_first = λ j k m l. t.used_first (suc j) (suc k) (suc-le-suc m) (suc-le-suc l) }

    go : (z : Bool) → eqb c 0 ≡ z → cards_in_limits cs ≡ true → cond (not z) (cards_in_limits cs) (every (eqb 0) cs) ≡ true
    go true z r = used_none cs (λ k l. t.used_first 0 (suc k) (suc-le-suc zero-le) (suc-le-suc l) (eqb-true c 0 z))
    go false z r = r

-- NO CARD TWICE
abbrev pub Differ : List ℕ → Type 0
Differ cs = (j k : ℕ) → j < k → k < length cs → get_or cs j 0 ≡ get_or cs k 0 → get_or cs j 0 ≡ 0

differ : (cs : List ℕ) → cards_differ cs ≡ true → Differ cs
unfolding cards_differ
differ [] e j k m l f = absurd (not-suc-le-zero l)
differ (c ∷ cs) e j zero m l f = absurd (not-suc-le-zero m)
differ (c ∷ cs) e (suc j) (suc k) m l f =
    differ cs (both_true (not (is_given c && any (eqb c) cs)) (cards_differ cs) e).1 j k (le_of_suc-le-suc m) (le_of_suc-le-suc l) f
differ (c ∷ cs) e zero (suc k) m l f = go (eqb c 0) refl (both_true (not (is_given c && any (eqb c) cs)) (cards_differ cs) e).0
  where
    go : (z : Bool) → eqb c 0 ≡ z → not (not z && any (eqb c) cs) ≡ true → c ≡ 0
    go true z h = eqb-true c 0 z
    go false z h = never (at_any (eqb c) 0 cs k (le_of_suc-le-suc l) (eq-eqb c (get_or cs k 0) f)) (not-true (any (eqb c) cs) h)

differs : (cs : List ℕ) → Differ cs → cards_differ cs ≡ true
unfolding cards_differ
differs [] d = refl
differs (c ∷ cs) d = rw (differs cs (λ j k m l. d (suc j) (suc k) (suc-le-suc m) (suc-le-suc l))) (go (eqb c 0) refl)
  where
    go : (z : Bool) → eqb c 0 ≡ z → (not (not z && any (eqb c) cs) && true) ≡ true
    go true z = refl
    go false z =
        rw (refuted (any (eqb c) cs) (λ h. let a = any_at (eqb c) 0 cs h in
        never (eq-eqb c 0 (d 0 (suc a.0) (suc-le-suc zero-le) (suc-le-suc a.1) (eqb-true c (get_or cs a.0 0) a.2))) z))

-- OF A QUESTION
module _ (q : Question) where
  slot_is : (k : ℕ) → k < 4 → get_or (card_slots q) k 0 ≡ card_at q k
  slot_is k l = first_at 0 4 q.cards k l

  four : length (card_slots q) ≡ 4
  four = first_length 0 4 q.cards

  pub slots_mean : cards_in_limits (card_slots q) ≡ true → ((k : ℕ) → k < 4 → card_at q k ≤ 999) × ((j k : ℕ) → j < k → k < 4 → card_at q j ≡ 0 → card_at q k ≡ 0)
  slots_mean e =
      let t = tidy (card_slots q) e in (
        λ k l. rw (← slot_is k l) (t.small k (omega (arith, four))),
        λ j k m l f. sym (slot_is k l) ∙ t.used_first j k m (omega (arith, four)) (slot_is j (omega arith) ∙ f),
      )

  pub means_slots : ((k : ℕ) → k < 4 → card_at q k ≤ 999) → ((j k : ℕ) → j < k → k < 4 → card_at q j ≡ 0 → card_at q k ≡ 0) → cards_in_limits (card_slots q) ≡ true
  means_slots s u =
      within_limits (card_slots q) (record {
        small = λ k l. let m : k < 4 = omega (arith, four) in rw (slot_is k m) (s k m);
        used_first = λ j k m l f. let n : k < 4 = omega (arith, four) in slot_is k n ∙ u j k m n (sym (slot_is j (omega arith)) ∙ f);
      })

  pub differ_means : cards_differ (card_slots q) ≡ true → CardsDiffer q
  differ_means e j k m l f =
      let n : j < 4 = omega arith in
      sym (slot_is j n) ∙ differ (card_slots q) e j k m (omega (arith, four)) (slot_is j n ∙ (f ∙ sym (slot_is k l)))

  pub means_differ : CardsDiffer q → cards_differ (card_slots q) ≡ true
  means_differ d =
      differs (card_slots q)
      (λ j k m l f. let n : k < 4 = omega (arith, four) in let i : j < 4 = omega arith in slot_is j i ∙ d j k m n (sym (slot_is j i) ∙ (f ∙ slot_is k n)))

-- A STEP at slot k of so many: the card there, and then those behind it
module _ (cs : List ℕ) (k : ℕ) (l : k < length cs) where
  pub limits_step : cards_in_limits (drop k cs)
      ≡ (leb (get_or cs k 0) 999 && cond (is_given (get_or cs k 0)) (cards_in_limits (drop (k + 1) cs)) (every (eqb 0) (drop (k + 1) cs)))
  unfolding cards_in_limits
  limits_step = rw (add-one, drop-cons cs k 0 l)

  pub differ_step : cards_differ (drop k cs) ≡ (not (is_given (get_or cs k 0) && any (eqb (get_or cs k 0)) (drop (k + 1) cs)) && cards_differ (drop (k + 1) cs))
  unfolding cards_differ
  differ_step = rw (add-one, drop-cons cs k 0 l)

-- and behind the last slot
pub none_behind : (cs : List ℕ) (k : ℕ) → length cs ≤ k → drop k cs ≡ []
none_behind cs k l = drop_of_length-le cs l

-- ONE CARD AT MOST, where no other slot is used
pub further_slots : (cards : List ℕ) → drop 1 (first_of 0 4 cards) ≡ get_or cards 1 0 ∷ get_or cards 2 0 ∷ get_or cards 3 0 ∷ []
further_slots cards =
    ext_get_or 0 (drop 1 (first_of 0 4 cards)) (get_or cards 1 0 ∷ get_or cards 2 0 ∷ get_or cards 3 0 ∷ []) long
    (λ k l. let m : 1 + k < 4 = omega (arith, long) in get_or-drop 1 (first_of 0 4 cards) k 0 ∙ (first_at 0 4 cards (1 + k) m ∙ at k m))
  where
    long : length (drop 1 (first_of 0 4 cards)) ≡ 3
    long = length-drop 1 (first_of 0 4 cards) ∙ omega (arith, first_length 0 4 cards)

    at : (k : ℕ) → 1 + k < 4 → get_or cards (1 + k) 0 ≡ get_or (get_or cards 1 0 ∷ get_or cards 2 0 ∷ get_or cards 3 0 ∷ []) k 0
    at zero l = refl
    at (suc zero) l = refl
    at (suc (suc zero)) l = refl
    at (suc (suc (suc k))) l = absurd (omega arith)

pub swapped : (c d : ℕ) → eqb c d ≡ eqb d c
swapped c d = go (eqb c d) refl
  where
    go : (t : Bool) → eqb c d ≡ t → t ≡ eqb d c
    go true e = sym (eq-eqb d c (sym (eqb-true c d e)))
    go false e = sym (ne_eqb d c (λ h. never (eq-eqb c d (sym h)) e))

pub turned : (c : ℕ) → eqb c 0 ≡ eqb 0 c
turned c = swapped c 0

none_given : (xs : List ℕ) → every (eqb 0) xs ≡ true → only is_given xs ≡ []
unfolding every only
none_given [] h = refl
none_given (x ∷ xs) h =
    let b = both_true (eqb 0 x) (every (eqb 0) xs) h in
    rw (eq-eqb x 0 (sym (eqb-true 0 x b.0))) (none_given xs b.1)

module _ (c : ℕ) (rest : List ℕ) (e : every (eqb 0) rest ≡ true) where
  abbrev alone : Tidy rest
  alone =
      record {
        small = λ k l. rw (none_used rest e k l) (omega arith);
        used_first = λ j k m l f. none_used rest e k l;
      }

  pub one_limits : cards_in_limits (c ∷ rest) ≡ leb c 999
  unfolding cards_in_limits
  one_limits = rw (within_limits rest alone, e) (go (is_given c))
    where
      go : (b : Bool) → (leb c 999 && cond b true true) ≡ leb c 999
      go true = and-true (leb c 999)
      go false = and-true (leb c 999)

  pub one_differs : cards_differ (c ∷ rest) ≡ true
  one_differs = differs (c ∷ rest) by_slot
    where
      by_slot : Differ (c ∷ rest)
      by_slot j zero m l f = absurd (not-suc-le-zero m)
      by_slot zero (suc k) m l f = f ∙ none_used rest e k (le_of_suc-le-suc l)
      by_slot (suc j) (suc k) m l f = f ∙ none_used rest e k (le_of_suc-le-suc l)

  pub one_counts : length (only is_given (c ∷ rest)) ≤ 1
  unfolding only
  one_counts = rw (none_given rest e) (go (is_given c))
    where
      go : (b : Bool) → length (cond b (c ∷ []) []) ≤ 1
      go true = omega arith
      go false = omega arith

-- and where another is used, there is a card
some_given : (xs : List ℕ) → every (eqb 0) xs ≡ false → 0 < length (only is_given xs)
unfolding every only
some_given [] e = never refl e
some_given (x ∷ xs) e = rw (turned x) (go (eqb 0 x) refl (some_given xs))
  where
    go : (z : Bool) → eqb 0 x ≡ z → (every (eqb 0) xs ≡ false → 0 < length (only is_given xs)) → 0 < length (cond (not z) (x ∷ only is_given xs) (only is_given xs))
    go true z h = h (rw z at e)
    go false z h = suc-le-suc zero-le

pub more_counts : (c : ℕ) (rest : List ℕ) → every (eqb 0) rest ≡ false → 1 ≤ length (only is_given (c ∷ rest))
unfolding only
more_counts c rest e = go (is_given c) (some_given rest e)
  where
    go : (b : Bool) → 0 < length (only is_given rest) → 1 ≤ length (cond b (c ∷ only is_given rest) (only is_given rest))
    go true h = suc-le-suc zero-le
    go false h = h
