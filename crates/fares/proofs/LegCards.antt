-- What the loops over the cards of a leg come to, and how far the cards can raise an amount: the laws that their functions cite.
-- Assumes nothing.
use Prim.Native.Nat.{ℕ, zero, suc, ◌+◌, ◌*◌, ◌≤◌, ◌<◌, zero-le}
use mathlib.Core.Path.{◌≡◌, refl, sym, ◌∙◌, ap}
use mathlib.Core.Bool.{Bool, true, false, cond, not}
use mathlib.Core.List.{List, [], ◌∷◌, ◌++◌, map, append_assoc}
use native.Mathlib.Nat.{le_trans, le_refl, zero-add}
use native.Mathlib.Numerals.{add-one}
use native.Mathlib.Omega.{arith}
use lib.Dec.{eqb, ltb}
use lib.ListN.{length, get_or, take, drop, set, length-map, drop_of_length-le}
use lib.Seq.{drop-cons, take-suc}
use Rattle.std.proofs.lemmas.List.{take_more_set, drop-set-lt}
use borrow.Author.Tests.{leb-true, le-leb, lt-ltb, le-ltb}
use Rattle.common.specs.Lists.{every, only}
use Rattle.common.specs.Rising.{insert, insert_all, rising}
use Rattle.common.proofs.Tests.{never}
use Rattle.common.proofs.Lists.{every_at}
use Rattle.common.proofs.Only.{only_few}
use Rattle.common.proofs.Sums.{map_at}
use Rattle.common.proofs.Rising.{all_map, all_length, insert_length}
use Rattle.bundle.specs.Helpers.{body_at}
use Rattle.fares.specs.Reductions.{card_grants, reduce_by, reduce_all}
use Rattle.fares.specs.Cards.{is_together, is_alone, rank_of, together_of, after_all, if_any, lesser, least_from, least_or, after_cards}
use Rattle.fares.specs.Helpers.{bodies_at, step_of, rank_in, grant_of, no_step, factor_fits, alone_from}
use Rattle.fares.specs.declared.cards.Step.{Step}
use Rattle.fares.proofs.Chains.{take_all}
use Rattle.fares.proofs.LeastLaws.{least_first}
use Rattle.fares.proofs.StepLaws.{card_small, step_small, Granted, none, more, all_small}

-- ONE MORE IN A ROW: in front stands what is settled, behind it what is not looked at yet, and one is carried
abbrev pub Carried : List Step → Step → ℕ → List Step → Step → Type 0
Carried steps step k row carried = take k row ++ insert rank_in carried (drop k row) ≡ insert rank_in step steps

module _ (steps : List Step) (step : Step) (k : ℕ) (row : List Step) (carried : Step) (c : Carried steps step k row carried) (l : k < length row) where
  abbrev there : Step
  there = get_or row k no_step

  behind : drop k row ≡ there ∷ drop (k + 1) row
  behind = rw add-one (drop-cons row k no_step l)

  yet_is : {b : Bool} → ltb (rank_in carried) (rank_in there) ≡ b
      → take k row ++ cond b (carried ∷ insert rank_in there (drop (k + 1) row)) (there ∷ insert rank_in carried (drop (k + 1) row)) ≡ insert rank_in step steps
  unfolding insert
  yet_is e = rw (← e) (rw behind at c)

  pub carried_swapped : carried.rank < there.rank → Carried steps step (k + 1) (set row k carried) there
  carried_swapped h =
      rw (take_more_set row k carried l, drop-set-lt (k + 1) row k carried (omega arith))
      (append_assoc (take k row) (carried ∷ []) _ ∙ yet_is (lt-ltb carried.rank there.rank h))

  pub carried_on : there.rank ≤ carried.rank → Carried steps step (k + 1) row carried
  carried_on h =
      let e : take (k + 1) row ≡ take k row ++ (there ∷ []) = rw add-one (take-suc row k no_step l) in
      rw e (append_assoc (take k row) (there ∷ []) _ ∙ yet_is (le-ltb carried.rank there.rank h))

-- at the end it stands behind them
pub carried_last : (steps : List Step) (step : Step) (k : ℕ) (row : List Step) (carried : Step) → Carried steps step k row carried → length row ≤ k
    → row ++ (carried ∷ []) ≡ insert rank_in step steps
unfolding insert
carried_last steps step k row carried c l = rw (take_all k row l, drop_of_length-le row l) at c

-- THE RECORDS APPLIED TOGETHER: those met so far in their row, and those yet to come
abbrev steps_of : List (List ℕ) → List Step
steps_of ars = map step_of (only is_together ars)

abbrev pub Built : List (List ℕ) → ℕ → List Step → Type 0
Built ars k row = (length row ≤ k) × (insert_all rank_in row (steps_of (drop k ars)) ≡ map step_of (together_of ars))

module _ (ars : List (List ℕ)) where
  pub built_first : Built ars 0 []
  built_first = (zero-le, sym (all_map step_of rank_in [] (only is_together ars)))

  module _ (k : ℕ) (row : List Step) (b : Built ars k row) (l : k < length ars) where
    abbrev ar : List ℕ
    ar = get_or ars k []

    to_come : {t : Bool} → is_together ar ≡ t → insert_all rank_in row (map step_of (cond t (ar ∷ only is_together (drop (k + 1) ars)) (only is_together (drop (k + 1) ars))))
        ≡ map step_of (together_of ars)
    unfolding only
    to_come e = rw (← e, add-one) (rw (drop-cons ars k [] l) at b.1)

    pub built_more : is_together ar ≡ true → Built ars (k + 1) (insert rank_in (step_of ar) row)
    unfolding insert_all
    built_more e = (omega (arith, insert_length rank_in (step_of ar) row, b.0), to_come e)

    pub built_same : is_together ar ≡ false → Built ars (k + 1) row
    built_same e = (omega (arith, b.0), to_come e)

  pub built_last : (k : ℕ) (row : List Step) (b : Built ars k row) → length ars ≤ k → row ≡ map step_of (together_of ars)
  unfolding only insert_all
  built_last k row b l = rw (drop_of_length-le ars l) at b.1

-- A ROW one step after the other
pub factor_at : (row : List Step) → every factor_fits row ≡ true → (k : ℕ) → k < length row → (get_or row k no_step).grant.factor ≤ 999
factor_at row e k l = leb-true _ 999 (every_at factor_fits row e k no_step l)

pub row_step : (row : List Step) (k : ℕ) → k < length row → (left : ℕ) → reduce_all left (map grant_of (drop k row))
    ≡ reduce_all (reduce_by left (get_or row k no_step).grant) (map grant_of (drop (k + 1) row))
unfolding reduce_all
row_step row k l left = rw (add-one, drop-cons row k no_step l)

pub row_last : (row : List Step) (k left : ℕ) → length row ≤ k → reduce_all left (map grant_of (drop k row)) ≡ left
unfolding reduce_all
row_last row k left l = rw (drop_of_length-le row l)

pub some_by : (n : ℕ) → eqb n 0 ≡ false → 0 < n
some_by zero e = never refl e
some_by (suc n) e = omega arith

-- THE BYTES of the records by their places
module _ (s : List ℕ) (places : List ℕ) where
  pub card_bodies_long : length (bodies_at s places) ≡ length places
  card_bodies_long = length-map places (body_at s)

  pub card_body_at : (k : ℕ) → k < length places → get_or (bodies_at s places) k [] ≡ body_at s (get_or places k 0)
  card_body_at k l = map_at (body_at s) places k [] 0 l

-- of none and of one record
pub no_bodies : (s : List ℕ) (places : List ℕ) → length places ≡ 0 → bodies_at s places ≡ []
no_bodies s [] e = refl
no_bodies s (p ∷ places) e = absurd (omega (arith, e))

pub one_body : (s : List ℕ) (places : List ℕ) → length places ≡ 1 → bodies_at s places ≡ body_at s (get_or places 0 0) ∷ []
one_body s [] e = absurd (omega (arith, e))
one_body s (p ∷ []) e = refl
one_body s (p ∷ q ∷ places) e = absurd (omega (arith, e))

-- THE RECORDS APPLIED ALONE: the least so far, and those yet to come
module _ (amount : ℕ) (ars : List (List ℕ)) (k : ℕ) (l : k < length ars) where
  abbrev at : List ℕ
  at = get_or ars k []

  pub alone_step : (least : ℕ) {t : Bool} → is_together at ≡ t
      → least_from least (alone_from amount (drop k ars))
      ≡ least_from (cond t least (lesser least (reduce_by amount (card_grants at)))) (alone_from amount (drop (k + 1) ars))
  unfolding only least_from
  alone_step least {t} e = rw (add-one, drop-cons ars k [] l, e) (go t)
    where
      go : (t : Bool) → least_from least (map (λ ar. reduce_by amount (card_grants ar)) (cond (not t) (at ∷ only is_alone (drop (suc k) ars)) (only is_alone (drop (suc k) ars))))
          ≡ least_from (cond t least (lesser least (reduce_by amount (card_grants at)))) (alone_from amount (drop (suc k) ars))
      go true = refl
      go false = refl

pub alone_last : (amount least k : ℕ) (ars : List (List ℕ)) → length ars ≤ k → least_from least (alone_from amount (drop k ars)) ≡ least
unfolding only least_from
alone_last amount least k ars l = rw (drop_of_length-le ars l)

-- HOW FAR THE CARDS CAN RAISE AN AMOUNT
all_granted : (ars : List (List ℕ)) → Granted (map card_grants ars)
all_granted [] = none
all_granted (ar ∷ ars) = more (card_small ar) (all_granted ars)

after_all_small : (amount : ℕ) (ars : List (List ℕ)) → after_all amount ars ≤ amount + 998 * length ars
after_all_small amount ars = omega (arith, all_small (map card_grants ars) (all_granted ars) amount, length-map ars card_grants)

pub after_small : (amount : ℕ) (ars : List (List ℕ)) → after_cards amount ars ≤ amount + 998 * length ars
unfolding after_cards
after_small amount ars =
    by (together_of ars) (omega (arith, all_length rank_of [] (only is_together ars), only_few is_together ars)) (only is_alone ars) (only_few is_alone ars)
  where
    by : (row : List (List ℕ)) → length row ≤ length ars → (others : List (List ℕ)) → length others ≤ length ars
        → least_or amount (if_any amount row ++ map (λ ar. reduce_by amount (card_grants ar)) others) ≤ amount + 998 * length ars
    by (x ∷ row) l others m = le_trans (least_first (after_all amount (x ∷ row)) _) (omega (arith, after_all_small amount (x ∷ row)))
    by [] l [] m = omega arith
    by [] l (y ∷ others) m = le_trans (least_first (reduce_by amount (card_grants y)) _) (omega (arith, step_small (card_grants y) (card_small y) amount))

-- one record is the one choice, whichever its flag is
pub one_choice : (amount : ℕ) (ar : List ℕ) → after_cards amount (ar ∷ []) ≡ reduce_by amount (card_grants ar)
unfolding after_cards least_from only insert_all insert reduce_all
one_choice amount ar = go (is_together ar)
  where
    go : (b : Bool) → least_or amount (if_any amount (rising rank_of (cond b (ar ∷ []) [])) ++ map (λ ar. reduce_by amount (card_grants ar)) (cond (not b) (ar ∷ []) []))
        ≡ reduce_by amount (card_grants ar)
    go true = refl
    go false = refl

-- the first of some that are all applied alone
first_alone : (amount : ℕ) (ar : List ℕ) (rest : List (List ℕ)) (b : Bool) → is_together ar ≡ b → length (only is_together (ar ∷ rest)) ≡ 0
    → least_from (reduce_by amount (card_grants ar)) (alone_from amount (ar ∷ rest)) ≡ least_or amount (alone_from amount (ar ∷ rest))
unfolding only least_from
first_alone amount ar rest true t e = absurd (omega (arith, rw t at e))
first_alone amount ar rest false t e = rw t (rw (le-leb (reduce_by amount (card_grants ar)) (reduce_by amount (card_grants ar)) (le_refl (reduce_by amount (card_grants ar)))))

-- WHAT IS PERMITTED, by the row of those applied together
module _ (amount : ℕ) (ars : List (List ℕ)) where
  pub none_applies : ars ≡ [] → amount ≡ after_cards amount ars
  unfolding after_cards only insert_all
  none_applies e = rw e

  together_long : length (together_of ars) ≡ length (only is_together ars)
  together_long = all_length rank_of [] (only is_together ars) ∙ zero-add (length (only is_together ars))

  -- none is applied together: the first is applied alone
  pub all_alone : length (together_of ars) ≡ 0 → 0 < length ars → least_from (reduce_by amount (card_grants (get_or ars 0 []))) (alone_from amount ars) ≡ after_cards amount ars
  unfolding after_cards
  all_alone e l = rw (nothing (together_of ars) e) (go ars (sym together_long ∙ e) l)
    where
      nothing : (xs : List (List ℕ)) → length xs ≡ 0 → xs ≡ []
      nothing [] e = refl
      nothing (x ∷ xs) e = absurd (omega (arith, e))

      go : (ars : List (List ℕ)) → length (only is_together ars) ≡ 0 → 0 < length ars
          → least_from (reduce_by amount (card_grants (get_or ars 0 []))) (alone_from amount ars) ≡ least_or amount (alone_from amount ars)
      go [] e l = absurd (omega arith)
      go (ar ∷ rest) e l = first_alone amount ar rest (is_together ar) refl e

  -- some are
  pub some_together : 0 < length (together_of ars) → least_from (after_all amount (together_of ars)) (alone_from amount ars) ≡ after_cards amount ars
  unfolding after_cards
  some_together l = go (together_of ars) l
    where
      go : (row : List (List ℕ)) → 0 < length row → least_from (after_all amount row) (alone_from amount ars) ≡ least_or amount (if_any amount row ++ alone_from amount ars)
      go [] l = absurd (omega arith)
      go (x ∷ row) l = refl

  -- their row as the code keeps it
  module _ {row : List Step} (e : row ≡ map step_of (together_of ars)) where
    pub row_count_lem : length row ≡ length (together_of ars)
    row_count_lem = rw e (length-map (together_of ars) step_of)

    pub row_grants : map grant_of row ≡ map card_grants (together_of ars)
    row_grants = rw e (go (together_of ars))
      where
        go : (xs : List (List ℕ)) → map grant_of (map step_of xs) ≡ map card_grants xs
        go [] = refl
        go (x ∷ xs) = ap (card_grants x ∷◌) (go xs)

    pub row_fits : every factor_fits row ≡ true
    unfolding every
    row_fits = rw e (go (together_of ars))
      where
        go : (xs : List (List ℕ)) → every factor_fits (map step_of xs) ≡ true
        go [] = refl
        go (x ∷ xs) = rw (le-leb (card_grants x).factor 999 (card_small x)) (go xs)

    pub row_few : length ars ≤ 4 → length row ≤ 4
    row_few few = omega (arith, row_count_lem, together_long, only_few is_together ars)
