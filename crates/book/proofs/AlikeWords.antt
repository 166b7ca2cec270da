-- Two lists of one length are the same exactly if as many places are alike as there are.
-- Assumes nothing.
use Rattle.std.proofs.Common.{◌≡◌, ℕ, ◌≤◌, Bool, true, false, cond, eqb, List, [], ◌∷◌, length, refl, ◌∙◌, ap, ap₂, arith, eq-eqb, ne_eqb, eqb-true, ◌+◌}
use Rattle.std.specs.Prelude.{◌==◌}
use Rattle.std.specs.List.{count_by, zip}
use Rattle.std.proofs.lemmas.List.Sums.{sum_by-cons}
use Rattle.common.specs.Lists.{same}
use Rattle.common.proofs.Lists.{is_same, same_is}
use Rattle.common.proofs.Tests.{never}

abbrev alike : List ℕ → List ℕ → ℕ
alike xs ys = count_by (λ p. p.0 == p.1) (zip xs ys)

step : (x y : ℕ) (xs ys : List ℕ) {b : Bool} → (x == y) ≡ b → alike (x ∷ xs) (y ∷ ys) ≡ cond b 1 0 + alike xs ys
step x y xs ys e = sum_by-cons (λ (p : ℕ × ℕ). cond (p.0 == p.1) 1 0) (x, y) (zip xs ys) ∙ ap (λ b. cond b 1 0 + alike xs ys) e

most : (xs ys : List ℕ) → alike xs ys ≤ length xs
most [] ys = omega arith
most (x ∷ xs) [] = omega arith
most (x ∷ xs) (y ∷ ys) = go (x == y) (step x y xs ys refl) (most xs ys)
  where
    go : (b : Bool) {n m : ℕ} → n ≡ cond b 1 0 + m → m ≤ length xs → n ≤ length (x ∷ xs)
    go true e h = omega (arith, e, h)
    go false e h = omega (arith, e, h)

itself : (xs : List ℕ) → alike xs xs ≡ length xs
itself [] = refl
itself (x ∷ xs) = let e = step x x xs xs (eq-eqb x x refl) in omega (arith, e, itself xs)

found : (xs ys : List ℕ) → length xs ≡ length ys → alike xs ys ≡ length xs → xs ≡ ys
found [] [] l e = refl
found [] (y ∷ ys) l e = absurd (omega (arith, l))
found (x ∷ xs) [] l e = absurd (omega (arith, l))
found (x ∷ xs) (y ∷ ys) l e = go (x == y) refl (λ h. found xs ys (omega (arith, l)) h)
  where
    go : (b : Bool) → (x == y) ≡ b → (alike xs ys ≡ length xs → xs ≡ ys) → x ∷ xs ≡ y ∷ ys
    go true d rest = let h = step x y xs ys d in ap₂ ◌∷◌ (eqb-true x y d) (rest (omega (arith, h, e)))
    go false d rest = let h = step x y xs ys d in absurd (omega (arith, h, e, most xs ys))

pub all_alike : (xs ys : List ℕ) → length xs ≡ length ys → eqb (count_by (λ p. p.0 == p.1) (zip xs ys)) (length xs) ≡ same xs ys
all_alike xs ys l = go (same xs ys) refl
  where
    go : (b : Bool) → same xs ys ≡ b → eqb (alike xs ys) (length xs) ≡ b
    go true e = eq-eqb _ _ (rw (← same_is xs ys e) (itself xs))
    go false e = ne_eqb _ _ (λ i. never (is_same xs ys (found xs ys l i)) e)
