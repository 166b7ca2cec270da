-- Sums, a list that is filled from the front with zeros behind, and f 0, f 1, .., f (n - 1) as a list.
-- Assumes nothing.
use Rattle.std.proofs.Common.{◌≡◌, ℕ, zero, suc, ◌+◌, ◌-◌, ◌*◌, ◌<◌, ◌≤◌, Bool, true, false, cond, ◌&&◌, eqb, ◌⊎◌, List, [], ◌∷◌, ◌++◌, map, length, get_or, take, set, replicate, sym, refl, ap, ◌∙◌, inl, inr, append_assoc, suc-le-suc, suc-mul, zero-add, add-one, arith, length-take, get_or-take, take-suc, eq-eqb, ne_eqb, eqb-true}
use mathlib.Core.List.{map-append}
use lib.ListN.{length-map}
use lib.Seq.{set_at}
use Rattle.common.specs.Lists.{sum, every, up_to}
use Rattle.common.proofs.Tests.{never, side}
use Rattle.common.proofs.Lists.{upto_length, upto_at, upto_same}

pub sum_append : (a b : List ℕ) → sum (a ++ b) ≡ sum a + sum b
unfolding sum
sum_append [] b = sym (zero-add (sum b))
sum_append (x ∷ a) b = omega (arith, sum_append a b)

pub sum_zeros : (k : ℕ) → sum (replicate k 0) ≡ 0
unfolding sum
sum_zeros zero = refl
sum_zeros (suc k) = omega (arith, sum_zeros k)

-- zeros behind add nothing
pub sum_padded : (xs : List ℕ) (k : ℕ) → sum (xs ++ replicate k 0) ≡ sum xs
sum_padded xs k = omega (arith, sum_append xs (replicate k 0), sum_zeros k)

module _ {A : Type 0} (f : A → ℕ) (xs : List A) (k : ℕ) (d : A) (l : k < length xs) where
  pub map_next : map f (take (k + 1) xs) ≡ map f (take k xs) ++ (f (get_or xs k d) ∷ [])
  map_next = rw (add-one, take-suc xs k d l) (map-append f (take k xs) (get_or xs k d ∷ []))

  pub sum_next : sum (map f (take (k + 1) xs)) ≡ sum (map f (take k xs)) + f (get_or xs k d)
  unfolding sum
  sum_next = rw map_next (omega (arith, sum_append (map f (take k xs)) (f (get_or xs k d) ∷ [])))

  -- one store at the seam
  pub fill_next : (n : ℕ) → k < n → set (map f (take k xs) ++ replicate (n - k) 0) k (f (get_or xs k d)) ≡ map f (take (k + 1) xs) ++ replicate (n - (k + 1)) 0
  fill_next n h =
      let z : n - k ≡ suc (n - (k + 1)) = omega arith in
      let w : length (map f (take k xs)) ≡ k = rw (length-map, length-take) (omega arith) in
      rw (z, map_next, append_assoc) (set_at (map f (take k xs)) 0 (replicate (n - (k + 1)) 0) (f (get_or xs k d)) k w)

-- an element of what a function made of a list
pub map_at : {A B : Type 0} (f : A → B) (xs : List A) (k : ℕ) (z : B) (d : A) → k < length xs → get_or (map f xs) k z ≡ f (get_or xs k d)
map_at f [] k z d l = absurd (omega arith)
map_at f (x ∷ xs) zero z d l = refl
map_at f (x ∷ xs) (suc k) z d l = map_at f xs k z d (omega arith)

-- EACH OF n NUMBERS AT MOST b, and so their sum at most n times b:
pub sum_bounded : (xs : List ℕ) (b : ℕ) → ((k : ℕ) → k < length xs → get_or xs k 0 ≤ b) → sum xs ≤ length xs * b
unfolding sum
sum_bounded [] b h = omega arith
sum_bounded (x ∷ xs) b h = omega (arith, h 0 (omega arith), sum_bounded xs b (λ k l. h (suc k) (suc-le-suc l)), suc-mul (length xs) b)

-- what a function made of the first k of a list,
pub sum_small : {A : Type 0} (f : A → ℕ) (xs : List A) (d : A) (b k : ℕ) → k ≤ length xs → ((j : ℕ) → j < k → f (get_or xs j d) ≤ b)
    → sum (map f (take k xs)) ≤ k * b
sum_small f xs d b k l h =
    let n : length (take k xs) ≡ k = rw length-take (omega arith) in
    let e : length (map f (take k xs)) ≡ k = length-map (take k xs) f ∙ n in
    rw e at (sum_bounded (map f (take k xs)) b
    (λ j m. let i : j < k = omega (arith, e) in rw (map_at f (take k xs) j 0 d (omega (arith, n)), get_or-take k xs j d i) (h j i)))

-- THE SUM of f 0, .., f (n - 1): one more,
pub sum_up : (f : ℕ → ℕ) (k : ℕ) → sum (up_to f (k + 1)) ≡ sum (up_to f k) + f k
unfolding sum up_to
sum_up f k = rw add-one (omega (arith, sum_append (up_to f k) (f k ∷ [])))

-- and each of them at most b.
pub sum_up_small : (f : ℕ → ℕ) (b k : ℕ) → ((j : ℕ) → j < k → f j ≤ b) → sum (up_to f k) ≤ k * b
sum_up_small f b k h =
    let n = upto_length f k in
    rw n at (sum_bounded (up_to f k) b (λ j m. let i : j < k = omega (arith, n) in rw (upto_at f k j 0 i) (h j i)))

-- a sum is zero exactly if each of its words is
zero_by : (x n : ℕ) (b : Bool) → eqb x 0 ≡ b → eqb (x + n) 0 ≡ (b && eqb n 0)
zero_by x n true e = let x0 : x ≡ 0 = eqb-true x 0 e in let z : x + n ≡ n = omega arith in ap (λ m. eqb m 0) z
zero_by x n false e = ne_eqb (x + n) 0 (λ h. let z : x ≡ 0 = omega arith in never (eq-eqb x 0 z) e)

pub zero_sum : (xs : List ℕ) → eqb (sum xs) 0 ≡ every (λ x. eqb x 0) xs
unfolding sum every
zero_sum [] = refl
zero_sum (x ∷ xs) = zero_by x (sum xs) (eqb x 0) refl ∙ ap (λ b. eqb x 0 && b) (zero_sum xs)

-- SUMS of sums, added and swapped
pub sum_both : (f g : ℕ → ℕ) (n : ℕ) → sum (up_to (λ r. f r + g r) n) ≡ sum (up_to f n) + sum (up_to g n)
unfolding up_to sum
sum_both f g zero = refl
sum_both f g (suc n) =
    omega (arith, sum_append (up_to (λ r. f r + g r) n) ((f n + g n) ∷ []), sum_append (up_to f n) (f n ∷ []), sum_append (up_to g n) (g n ∷ []), sum_both f g n)

pub sum_nothing : (n : ℕ) → sum (up_to (λ r. 0) n) ≡ 0
unfolding up_to sum
sum_nothing zero = refl
sum_nothing (suc n) = omega (arith, sum_append (up_to (λ r. 0) n) (0 ∷ []), sum_nothing n)

pub sum_swapped : (f : ℕ → ℕ → ℕ) (m n : ℕ) → sum (up_to (λ r. sum (up_to (f r) m)) n) ≡ sum (up_to (λ j. sum (up_to (λ r. f r j) n)) m)
unfolding up_to sum
sum_swapped f zero n = sum_nothing n
sum_swapped f (suc m) n =
    ap sum (upto_same (λ r. sum (up_to (f r) m ++ (f r m ∷ []))) (λ r. sum (up_to (f r) m) + f r m) n (λ r l. sum_append (up_to (f r) m) (f r m ∷ []) ∙ omega arith))
    ∙ (sum_both (λ r. sum (up_to (f r) m)) (λ r. f r m) n
    ∙ omega (arith, sum_swapped f m n, sum_append (up_to (λ j. sum (up_to (λ r. f r j) n)) m) (sum (up_to (λ r. f r m) n) ∷ [])))

-- over all numbers 1 to n, one hit counts once
module _ (x p : ℕ) where
  abbrev pub hits : ℕ → ℕ
  hits r = cond (eqb x (r + 1)) p 0

  one_more : (n : ℕ) → sum (up_to hits (suc n)) ≡ sum (up_to hits n) + hits n
  unfolding up_to sum
  one_more n = sum_append (up_to hits n) (hits n ∷ []) ∙ omega arith

  no_hit : (n : ℕ) → n < x → sum (up_to hits n) ≡ 0
  unfolding up_to sum
  no_hit zero l = refl
  no_hit (suc n) l =
      let z : hits n ≡ 0 = rw (ne_eqb x (n + 1) (λ e. omega arith)) in
      omega (arith, one_more n, no_hit n (omega arith))

  one_hit_by : (n : ℕ) → 1 ≤ x → x ≤ suc n → (x ≤ n → sum (up_to hits n) ≡ p) → (x < suc n) ⊎ (suc n ≤ x) → sum (up_to hits (suc n)) ≡ p
  one_hit_by n a b ih (inl h) =
      let z : hits n ≡ 0 = rw (ne_eqb x (n + 1) (λ e. omega arith)) in
      omega (arith, one_more n, ih (omega arith))
  one_hit_by n a b ih (inr h) =
      let z : hits n ≡ p = rw (eq-eqb x (n + 1) (omega arith)) in
      omega (arith, one_more n, no_hit n (omega arith))

  pub one_hit : (n : ℕ) → 1 ≤ x → x ≤ n → sum (up_to hits n) ≡ p
  one_hit zero a b = absurd (omega arith)
  one_hit (suc n) a b = one_hit_by n a b (one_hit n a) (side x (suc n))
