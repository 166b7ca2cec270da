-- In rising order, by a rank.
-- Assumes nothing.
use Rattle.std.specs.Prelude.{ℕ, Bool, true, cond, ◌&&◌, ltb, List, [], ◌∷◌, nat_lt}
use Rattle.common.specs.Lists.{every}

module _ {A : Type 0} (rank : A → ℕ) where
  -- one more in a row that rises: at each place the lower one stays, and the other goes on
  unfoldable pub insert : A → List A → List A
  insert x [] = x ∷ []
  insert x (y ∷ ys) = cond (nat_lt (rank x) (rank y)) (x ∷ insert y ys) (y ∷ insert x ys)

  unfoldable pub insert_all : List A → List A → List A
  insert_all row [] = row
  insert_all row (x ∷ xs) = insert_all (insert x row) xs

  abbrev pub rising : List A → List A
  rising xs = insert_all [] xs

  -- each is below all that follow it
  unfoldable pub is_rising : List A → Bool
  is_rising [] = true
  is_rising (x ∷ xs) = every (λ y. ltb (rank x) (rank y)) xs && is_rising xs
