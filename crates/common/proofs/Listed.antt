-- What is proved, or tested, of each entry of a list holds of whatever is in it: one theorem for a list of figures.
-- Assumes nothing.
use Rattle.std.proofs.Common.{◌≡◌, Bool, true, false, ◌||◌, List, [], ◌∷◌, sym, refl, ap, ◌∙◌, subst, ⊎_elim}
use mathlib.Core.List.Memᴰ
use mathlib.Core.List.{Memᴰ}
use Rattle.common.specs.Lists.{every, any}
use Rattle.common.proofs.Tests.{never, both_true}

module _ {A : Type 0} (Says : A → Type 0) where
  abbrev pub All : List A → Type 0
  All [] = Unit
  All (x ∷ xs) = Says x × All xs

  pub each : (xs : List A) → All xs → (x : A) → Memᴰ x xs → Says x
  each [] a x m = absurd (Memᴰ.not-nil m)
  each (y ∷ ys) a x m = ⊎_elim (λ e. subst Says (sym e) a.0) (λ n. each ys a.1 x n) (Memᴰ.cases_cons m)

-- tests of lists, by their entries
module _ {A : Type 0} (p : A → Bool) where
  pub every_listed : (xs : List A) → every p xs ≡ true → (x : A) → Memᴰ x xs → p x ≡ true
  unfolding every
  every_listed [] e x m = absurd (Memᴰ.not-nil m)
  every_listed (y ∷ ys) e x m =
      let b = both_true (p y) (every p ys) e in
      ⊎_elim (λ q. ap p q ∙ b.0) (λ n. every_listed ys b.1 x n) (Memᴰ.cases_cons m)

  pub listed_every : (xs : List A) → ((x : A) → Memᴰ x xs → p x ≡ true) → every p xs ≡ true
  unfolding every
  listed_every [] f = refl
  listed_every (y ∷ ys) f = rw (f y (Memᴰ.head refl)) (listed_every ys (λ x m. f x (Memᴰ.tail m)))

  pub any_listed : (xs : List A) → any p xs ≡ true → (x : A) × Memᴰ x xs × (p x ≡ true)
  unfolding any
  any_listed [] e = never e refl
  any_listed (y ∷ ys) e = go (p y) refl e (any_listed ys)
    where
      go : (b : Bool) → p y ≡ b → (b || any p ys) ≡ true → (any p ys ≡ true → (x : A) × Memᴰ x ys × (p x ≡ true))
          → (x : A) × Memᴰ x (y ∷ ys) × (p x ≡ true)
      go true q h f = (y, Memᴰ.head refl, q)
      go false q h f = let w = f h in (w.0, Memᴰ.tail w.1, w.2)
