-- Laws of the least of some amounts: it is not above any of them, and it is one of them.
-- Assumes nothing.
use Prim.Native.Nat.{ℕ, zero, suc, min, ◌≤◌, ◌<◌, zero-le, suc-le-suc}
use mathlib.Core.Path.{◌≡◌, refl, ◌∙◌}
use mathlib.Core.Bool.{Bool, true, false, cond}
use mathlib.Core.List.{List, [], ◌∷◌, map}
use mathlib.Core.Logic.{◌⊎◌, inl, inr, ⊎_elim}
use native.Mathlib.Nat.{le_of_suc-le-suc, not-suc-le-zero, le_trans, le_refl}
use native.Mathlib.Omega.{arith}
use lib.Dec.{leb}
use lib.ListN.{length, get_or}
use borrow.Author.Tests.{leb-true, leb-false}
use Rattle.fares.specs.Cards.{lesser, least_from, least_or}

-- the lesser of two
lesser_is : (a b : ℕ) → (lesser a b ≤ a) × (lesser a b ≤ b) × ((lesser a b ≡ a) ⊎ (lesser a b ≡ b))
lesser_is a b = go (leb a b) refl
  where
    go : (t : Bool) → leb a b ≡ t → (cond t a b ≤ a) × (cond t a b ≤ b) × ((cond t a b ≡ a) ⊎ (cond t a b ≡ b))
    go true e = (le_refl a, leb-true a b e, inl refl)
    go false e = (omega (arith, leb-false a b e), le_refl b, inr refl)

pub least_is : (a b : ℕ) → min a b ≡ lesser a b
least_is a b = go (leb a b) refl
  where
    go : (t : Bool) → leb a b ≡ t → min a b ≡ cond t a b
    go true e = let l = leb-true a b e in omega arith
    go false e = let l = leb-false a b e in omega arith

-- from a first amount on: not above it,
pub least_first : (a : ℕ) (bs : List ℕ) → least_from a bs ≤ a
unfolding least_from
least_first a [] = le_refl a
least_first a (b ∷ bs) = le_trans (least_first (lesser a b) bs) (lesser_is a b).0

-- the amounts by the places of what they are amounts of
module _ {A : Type 0} (f : A → ℕ) (d : A) where
  abbrev At : List A → ℕ → Type 0
  At xs x = (k : ℕ) × (k < length xs) × (x ≡ f (get_or xs k d))

  -- nor above any further one,
  from_each : (a : ℕ) (xs : List A) (k : ℕ) → k < length xs → least_from a (map f xs) ≤ f (get_or xs k d)
  unfolding least_from
  from_each a [] k l = absurd (not-suc-le-zero l)
  from_each a (x ∷ xs) zero l = le_trans (least_first (lesser a (f x)) (map f xs)) (lesser_is a (f x)).1
  from_each a (x ∷ xs) (suc k) l = from_each (lesser a (f x)) xs k (le_of_suc-le-suc l)

  -- and one of them
  from_one : (a : ℕ) (xs : List A) → (least_from a (map f xs) ≡ a) ⊎ At xs (least_from a (map f xs))
  unfolding least_from
  from_one a [] = inl refl
  from_one a (x ∷ xs) =
      ⊎_elim (λ e. ⊎_elim (λ t. inl (e ∙ t)) (λ t. inr (0, suc-le-suc zero-le, e ∙ t)) (lesser_is a (f x)).2)
      (λ r. inr (suc r.0, suc-le-suc r.1, r.2)) (from_one (lesser a (f x)) xs)

  -- THE LEAST is not above any,
  pub least_below : (stands : ℕ) (xs : List A) (k : ℕ) → k < length xs → least_or stands (map f xs) ≤ f (get_or xs k d)
  least_below stands [] k l = absurd (not-suc-le-zero l)
  least_below stands (x ∷ xs) zero l = least_first (f x) (map f xs)
  least_below stands (x ∷ xs) (suc k) l = from_each (f x) xs k (le_of_suc-le-suc l)

  -- and is one of them; where there are none, what stands
  pub least_one : (stands : ℕ) (xs : List A) → ((length xs ≡ 0) × (least_or stands (map f xs) ≡ stands)) ⊎ At xs (least_or stands (map f xs))
  least_one stands [] = inl (refl, refl)
  least_one stands (x ∷ xs) =
      inr (⊎_elim (λ e. (0, suc-le-suc zero-le, e)) (λ r. (suc r.0, suc-le-suc r.1, r.2)) (from_one (f x) xs))
