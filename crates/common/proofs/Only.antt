-- Laws of what stands in a list: among the elements that pass, and in lists one behind the other.
-- Assumes nothing.
use Rattle.std.proofs.Common.{◌≡◌, ℕ, suc, ◌<◌, ◌≤◌, Bool, true, false, cond, ◌&&◌, ◌||◌, eqb, List, [], ◌∷◌, ◌++◌, map, length, get_or, sym, refl, ap, ◌∙◌, suc-le-suc, zero-le, arith, eq-eqb, eqb-true}
use mathlib.Core.Bool.{and-false, or_assoc}
use mathlib.Core.List.{flat_map}
use Rattle.common.specs.Lists.{every, any, only}
use Rattle.common.proofs.Tests.{both_true}
use Rattle.common.proofs.Lists.{every_by, any_at, at_any}
use Rattle.common.proofs.Rising.{has, other, all_other}

-- an element stands in a list, at a place of it
abbrev pub Stands : {A : Type 0} → A → List A → A → Type 0
Stands d xs x = (k : ℕ) × (k < length xs) × (get_or xs k d ≡ x)

pub has_at : (i : ℕ) (xs : List ℕ) → has i xs ≡ true → Stands 0 xs i
has_at i xs h = let a = any_at (eqb i) 0 xs h in (a.0, a.1, sym (eqb-true i (get_or xs a.0 0) a.2))

pub at_has : (i : ℕ) (xs : List ℕ) → Stands 0 xs i → has i xs ≡ true
at_has i xs a = at_any (eqb i) 0 xs a.0 a.1 (eq-eqb i (get_or xs a.0 0) (sym a.2))

pub has_each : (xs : List ℕ) (k : ℕ) → k < length xs → has (get_or xs k 0) xs ≡ true
has_each xs k l = at_has (get_or xs k 0) xs (k, l, refl)

-- those that pass are not more than all
pub only_few : {A : Type 0} (p : A → Bool) (xs : List A) → length (only p xs) ≤ length xs
unfolding only
only_few p [] = zero-le
only_few p (x ∷ xs) = go (p x) (only_few p xs)
  where
    go : (b : Bool) → length (only p xs) ≤ length xs → length (cond b (x ∷ only p xs) (only p xs)) ≤ suc (length xs)
    go true h = suc-le-suc h
    go false h = omega (arith, h)

-- what passes by another name
pub only_map : {A B : Type 0} (f : A → B) (p : B → Bool) (xs : List A) → only p (map f xs) ≡ map f (only (λ x. p (f x)) xs)
unfolding only
only_map f p [] = refl
only_map f p (x ∷ xs) = go (p (f x)) (only_map f p xs)
  where
    go : (b : Bool) → only p (map f xs) ≡ map f (only (λ x. p (f x)) xs)
        → cond b (f x ∷ only p (map f xs)) (only p (map f xs)) ≡ map f (cond b (x ∷ only (λ x. p (f x)) xs) (only (λ x. p (f x)) xs))
    go true e = ap (f x ∷◌) e
    go false e = e

-- a number stands among those that pass exactly if it passes and stands among all
pub has_only : (p : ℕ → Bool) (i : ℕ) (xs : List ℕ) → has i (only p xs) ≡ (p i && has i xs)
unfolding only any
has_only p i [] = sym (and-false (p i))
has_only p i (x ∷ xs) = go (p x) refl (eqb i x) refl (has_only p i xs)
  where
    go : (b : Bool) → p x ≡ b → (t : Bool) → eqb i x ≡ t → has i (only p xs) ≡ (p i && has i xs)
        → has i (cond b (x ∷ only p xs) (only p xs)) ≡ (p i && (t || has i xs))
    go true b true t e = rw (t, ap p (eqb-true i x t) ∙ b)
    go true b false t e = rw t e
    go false b true t e = e ∙ rw (ap p (eqb-true i x t) ∙ b)
    go false b false t e = e

-- a test that each number of a list passes
pub every_has : (p : ℕ → Bool) (xs : List ℕ) → ((i : ℕ) → has i xs ≡ true → p i ≡ true) → every p xs ≡ true
every_has p xs h = every_by p 0 xs (λ k l. h (get_or xs k 0) (has_each xs k l))

-- some element passes in front or behind, and in one of several lists
any_append : {A : Type 0} (p : A → Bool) (a b : List A) → any p (a ++ b) ≡ (any p a || any p b)
unfolding any
any_append p [] b = refl
any_append p (x ∷ a) b = rw (any_append p a b) (sym (or_assoc (p x) (any p a) (any p b)))

pub any_flat : {A B : Type 0} (p : B → Bool) (f : A → List B) (xs : List A) → any p (flat_map f xs) ≡ any (λ x. any p (f x)) xs
unfolding any flat_map
any_flat p f [] = refl
any_flat p f (x ∷ xs) = any_append p (f x) (flat_map f xs) ∙ rw (any_flat p f xs)

-- of ranks that all differ, those of what passes do
module _ {A : Type 0} (p : A → Bool) where
  every_only : (r : A → Bool) (xs : List A) → every r xs ≡ true → every r (only p xs) ≡ true
  unfolding only every
  every_only r [] e = refl
  every_only r (x ∷ xs) e = let d = both_true (r x) (every r xs) e in go (p x) d.0 (every_only r xs d.1)
    where
      go : (b : Bool) → r x ≡ true → every r (only p xs) ≡ true → every r (cond b (x ∷ only p xs) (only p xs)) ≡ true
      go true h g = rw h g
      go false h g = g

  pub other_only : (rank : A → ℕ) (xs : List A) → all_other rank xs ≡ true → all_other rank (only p xs) ≡ true
  unfolding only all_other
  other_only rank [] e = refl
  other_only rank (x ∷ xs) e =
      let d = both_true (every (other rank x) xs) (all_other rank xs) e in
      go (p x) (every_only (other rank x) xs d.0) (other_only rank xs d.1)
    where
      go : (b : Bool) → every (other rank x) (only p xs) ≡ true → all_other rank (only p xs) ≡ true → all_other rank (cond b (x ∷ only p xs) (only p xs)) ≡ true
      go true h g = rw h g
      go false h g = g
