-- "Its numbers differ". Of two entries none has the other's number, so that a number is held at one place at most; an entry with a new number keeps this.
-- A number that ranks above all earlier ones repeats none of them.
-- Assumes nothing.
use Prim.Native.Nat.{ℕ, suc, ◌+◌, ◌≤◌, ◌<◌}
use mathlib.Core.Path.{◌≡◌, refl, sym, ◌∙◌, ap, subst}
use mathlib.Core.Bool.{Bool, true, false, cond, not}
use mathlib.Core.List.{List, [], ◌∷◌, ◌++◌, map}
use mathlib.Core.Logic.{◌⊎◌, inl, inr, ⊎_elim}
use native.Mathlib.Omega.{arith}
use lib.Dec.{eqb, ltb}
use lib.ListN.{length, get_or, take, length-map, length-append, get_or-append}
use lib.Seq.{get_or_at, get_or-take, length-take-le}
use Rattle.std.proofs.Common.{Some, None, is_some}
use Rattle.std.specs.List.{position, prefix_len}
use borrow.Author.Tests.{eqb-true, eq-eqb, ne_eqb, ltb-true, ltb-false}
use Rattle.common.specs.Least.{least}
use Rattle.common.proofs.Least.{hit, none, before, passes, finds_none, none_finds, alike}
use Rattle.common.proofs.Sums.{map_at}
use Rattle.common.proofs.Tests.{order, side, never, both_true, refuted}
use Rattle.book.specs.Words.{Entry, no_entry, entry_of}
use Rattle.book.specs.Sound.{has_number, held_at, held, repeats, numbers_differ}
use Rattle.book.specs.Helpers.{rank_of, RanksUpTo}

pub has_number_lem : (t s : ℕ) (e : Entry) → has_number t s e ≡ true → (e.till ≡ t) × (e.sequence ≡ s)
has_number_lem t s e h = let b = both_true (eqb e.till t) (eqb e.sequence s) h in (eqb-true e.till t b.0, eqb-true e.sequence s b.1)

-- entry j has the number of entry i
abbrev shares_number : List Entry → ℕ → ℕ → Bool
shares_number es i j = has_number (get_or es i no_entry).till (get_or es i no_entry).sequence (get_or es j no_entry)

pub apart : (es : List Entry) → numbers_differ es ≡ true → (i j : ℕ) → i < length es → j < i → shares_number es i j ≡ false
unfolding numbers_differ
apart es e i j l h =
    finds_none (shares_number es i) i (before (repeats es) (length es) i (omega (arith, eqb-true (least (repeats es) (length es)) (length es) e))) j h

pub differ_by : (es : List Entry) → ((i j : ℕ) → i < length es → j < i → shares_number es i j ≡ false) → numbers_differ es ≡ true
unfolding numbers_differ
differ_by es f =
    eq-eqb (least (repeats es) (length es)) (length es)
    (none (repeats es) (length es) (λ i l. none_finds (shares_number es i) i (λ j h. f i j l h)))

-- HELD: where a number is held, and that it is held nowhere else
module _ (t s : ℕ) (es : List Entry) where
  pub held_here : held_at t s es < length es → has_number t s (get_or es (held_at t s es) no_entry) ≡ true
  unfolding held_at
  held_here l = passes (λ k. has_number t s (get_or es k no_entry)) (length es) l

  pub held_not_before : (j : ℕ) → j < held_at t s es → has_number t s (get_or es j no_entry) ≡ false
  unfolding held_at
  held_not_before j h = before (λ k. has_number t s (get_or es k no_entry)) (length es) j h

  held_once : numbers_differ es ≡ true → (i j : ℕ) → i < length es → j < i → has_number t s (get_or es i no_entry) ≡ true → has_number t s (get_or es j no_entry) ≡ true → ⊥
  held_once d i j l h p r =
      let a = has_number_lem t s (get_or es i no_entry) p in
      never (rw (a.0, a.1) r) (apart es d i j l h)

  pub held_only : numbers_differ es ≡ true → (j : ℕ) → j < length es → has_number t s (get_or es j no_entry) ≡ true → held_at t s es ≡ j
  held_only d j l p =
      ⊎_elim (λ h. absurd (held_once d j (held_at t s es) l h p (held_here (omega arith))))
      (⊎_elim (λ e. e) (λ h. never p (held_not_before j h))) (order (held_at t s es) j)

  pub held_not_elsewhere : numbers_differ es ≡ true → (j : ℕ) → j < length es → (j ≡ held_at t s es → ⊥) → has_number t s (get_or es j no_entry) ≡ false
  held_not_elsewhere d j l n = refuted (has_number t s (get_or es j no_entry)) (λ p. n (omega (arith, held_only d j l p)))

-- A SEARCH among the words of entries comes to the first that has the number
prefix_least : {A : Type 0} (p : A → Bool) (d : A) (xs : List A) → prefix_len (λ x. not (p x)) xs ≡ least (λ k. p (get_or xs k d)) (length xs)
unfolding least
prefix_least p d [] = refl
prefix_least p d (x ∷ xs) = go (p x) (prefix_least p d xs)
  where
    go : {m n : ℕ} (b : Bool) → m ≡ n → cond (not b) (1 + m) 0 ≡ cond b 0 (suc n)
    go true e = refl
    go false e = omega (arith, e)

pub first_held : (t s : ℕ) (bs : List (List ℕ)) → position (λ ws. has_number t s (entry_of ws)) bs ≡ held t s (map entry_of bs)
unfolding held_at
first_held t s bs =
    let p : List ℕ → Bool = λ ws. has_number t s (entry_of ws) in
    let e : prefix_len (λ ws. not (p ws)) bs ≡ least (λ k. has_number t s (get_or (map entry_of bs) k no_entry)) (length bs) =
    prefix_least p [] bs ∙ alike _ _ (length bs) (λ k l. ap (has_number t s) (sym (map_at entry_of bs k no_entry [] l))) in
    rw (length-map, e)

-- and among those in front of entry i it tells whether one has it
module _ (t s : ℕ) (es : List Entry) where
  abbrev has_it : ℕ → Bool
  has_it k = has_number t s (get_or es k no_entry)

  pub in_front : (i : ℕ) → i ≤ length es → is_some (held t s (take i es)) ≡ ltb (least has_it i) i
  unfolding held_at
  in_front i l =
      let n : length (take i es) ≡ i = length-take-le i es l in
      let e : least (λ k. has_number t s (get_or (take i es) k no_entry)) i ≡ least has_it i = alike _ _ i (λ k h. rw (get_or-take i es k no_entry h)) in
      rw (n, e) (told (least has_it i) (ltb (least has_it i) i))
    where
      told : (k : ℕ) (b : Bool) → is_some (cond b (Some k) None) ≡ b
      told k true = refl
      told k false = refl

-- WHERE IT IS FOUND, and that it is not
module _ (t s : ℕ) (es : List Entry) where
  pub held_some : (i : ℕ) → held t s es ≡ Some i → (held_at t s es ≡ i) × (i < length es)
  held_some i = go (ltb (held_at t s es) (length es)) refl
    where
      go : (b : Bool) → ltb (held_at t s es) (length es) ≡ b → cond b (Some (held_at t s es)) None ≡ Some i → (held_at t s es ≡ i) × (i < length es)
      go true h e = let k : held_at t s es ≡ i = cc in (k, omega (arith, k, ltb-true (held_at t s es) (length es) h))
      go false h e = cc

  pub held_none : held t s es ≡ None → length es ≤ held_at t s es
  held_none = go (ltb (held_at t s es) (length es)) refl
    where
      go : (b : Bool) → ltb (held_at t s es) (length es) ≡ b → cond b (Some (held_at t s es)) None ≡ None → length es ≤ held_at t s es
      go true h e = cc
      go false h e = ltb-false (held_at t s es) (length es) h

-- AN ENTRY ADDED, with a number that no entry has
module _ (es : List Entry) (e : Entry) where
  abbrev more : List Entry
  more = es ++ (e ∷ [])

  pub added_differ : numbers_differ es ≡ true → held_at e.till e.sequence es ≡ length es → numbers_differ more ≡ true
  added_differ d p = differ_by more (λ i j l h. go i j h (side i (length es)) (omega (arith, length-append es (e ∷ []))))
    where
      old : (i : ℕ) → i < length es → get_or more i no_entry ≡ get_or es i no_entry
      old i l = get_or-append es (e ∷ []) no_entry i l

      go : (i j : ℕ) → j < i → (i < length es) ⊎ (length es ≤ i) → i ≤ length es → shares_number more i j ≡ false
      go i j h (inl l) m = rw (old i l, old j (omega arith)) (apart es d i j l h)
      go i j h (inr l) m =
          let z : i ≡ length es = omega arith in
          rw (z, get_or_at es e [] no_entry (length es) refl, old j (omega arith)) (held_not_before e.till e.sequence es j (omega (arith, p)))

-- AS THE CODE FINDS IT: an entry that repeats a number, after none that does, and none at all
module _ (es : List Entry) where
  pub number_repeats : (i : ℕ) → i < length es → least (repeats es) i ≡ i → repeats es i ≡ true → numbers_differ es ≡ false
  unfolding numbers_differ
  number_repeats i l e h = rw (hit (repeats es) i (length es) e h l) (ne_eqb i (length es) (λ q. omega arith))

  pub none_repeats : least (repeats es) (length es) ≡ length es → numbers_differ es ≡ true
  unfolding numbers_differ
  none_repeats e = rw e (eq-eqb (length es) (length es) refl)

  -- RANKS: an entry that ranks above those before it has another number
  pub above_none : (i top : ℕ) → RanksUpTo es i top → top < rank_of (get_or es i no_entry) → repeats es i ≡ false
  above_none i top f h =
      let e = get_or es i no_entry in
      none_finds (λ j. has_number e.till e.sequence (get_or es j no_entry)) i
      (λ j l. refuted (has_number e.till e.sequence (get_or es j no_entry))
      (λ p. let d = has_number_lem e.till e.sequence (get_or es j no_entry) p in omega (arith, d.0, d.1, f j l, h)))

  pub ranks_none : (top : ℕ) → RanksUpTo es 0 top
  ranks_none top j l = absurd (omega arith)

  pub ranks_more : (i top most : ℕ) → RanksUpTo es i top → top ≤ most → rank_of (get_or es i no_entry) ≤ most → RanksUpTo es (i + 1) most
  ranks_more i top most f a b j l =
      ⊎_elim (λ h. omega (arith, f j h))
      (λ h. let e : i ≡ j = omega arith in subst (λ k. rank_of (get_or es k no_entry) ≤ most) e b)
      (side j i)
