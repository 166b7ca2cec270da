-- For all, there is, the same, the sum: over any list.
-- Assumes nothing.
use Rattle.std.specs.Prelude.{ℕ, zero, suc, ◌+◌, ◌-◌, Bool, true, false, cond, ◌&&◌, ◌||◌, List, [], ◌∷◌, ◌++◌, drop, ◌==◌, slice_index, slice_index_or}

-- each element passes
unfoldable pub every : {A : Type 0} → (A → Bool) → List A → Bool
every p [] = true
every p (x ∷ xs) = p x && every p xs

-- some element passes
unfoldable pub any : {A : Type 0} → (A → Bool) → List A → Bool
any p [] = false
any p (x ∷ xs) = p x || any p xs

-- two lists are the same
unfoldable pub same : List ℕ → List ℕ → Bool
same [] [] = true
same [] (y ∷ ys) = false
same (x ∷ xs) [] = false
same (x ∷ xs) (y ∷ ys) = x == y && same xs ys

-- the elements that pass
unfoldable pub only : {A : Type 0} → (A → Bool) → List A → List A
only p [] = []
only p (x ∷ xs) = cond (p x) (x ∷ only p xs) (only p xs)

-- the first n elements, d where the list has fewer
unfoldable pub first_of : {A : Type 0} → A → ℕ → List A → List A
first_of d zero xs = []
first_of d (suc n) xs = slice_index_or xs 0 d ∷ first_of d n (drop 1 xs)

unfoldable pub sum : List ℕ → ℕ
sum [] = 0
sum (x ∷ xs) = x + sum xs

-- the byte at a position, counted from 1
abbrev pub byte_at : ℕ → List ℕ → ℕ
byte_at position s = slice_index s (position - 1)

-- f 0, f 1, .., f (n - 1)
unfoldable pub up_to : {A : Type 0} → (ℕ → A) → ℕ → List A
up_to f zero = []
up_to f (suc n) = up_to f n ++ (f n ∷ [])
