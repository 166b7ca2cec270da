-- What the chains of iterators over a question's slots answer, in the words of specs/.
-- Assumes nothing.
use Rattle.std.proofs.Common.{◌≡◌, ℕ, zero, suc, ◌+◌, ◌≤◌, Bool, List, [], ◌∷◌, length, take, drop, refl, sym, ◌∙◌, ap, arith, le_of_suc-le-suc, not-suc-le-zero, length-drop}
use Rattle.std.specs.List.{list_all, list_any, filter, count_by}
use Rattle.std.proofs.lemmas.List.Sums.{length-filter}
use Rattle.common.specs.Lists.{every, any, only, first_of}

pub all_is : {A : Type 0} (p q : A → Bool) → ((x : A) → p x ≡ q x) → (xs : List A) → list_all p xs ≡ every q xs
unfolding every
all_is p q h [] = refl
all_is p q h (x ∷ xs) = rw (h x, all_is p q h xs)

pub any_is : {A : Type 0} (p q : A → Bool) → ((x : A) → p x ≡ q x) → (xs : List A) → list_any p xs ≡ any q xs
unfolding any
any_is p q h [] = refl
any_is p q h (x ∷ xs) = rw (h x, any_is p q h xs)

-- the first n of a list that has as many
pub first_is : {A : Type 0} (d : A) (n : ℕ) (xs : List A) → n ≤ length xs → take n xs ≡ first_of d n xs
unfolding first_of
first_is d zero xs l = refl
first_is d (suc n) [] l = absurd (not-suc-le-zero l)
first_is d (suc n) (x ∷ xs) l = ap (x ∷◌) (first_is d n xs (le_of_suc-le-suc l))

pub slots_are : {A : Type 0} (d : A) (n : ℕ) (xs : List A) → length xs ≡ n → first_of d n xs ≡ xs
unfolding first_of
slots_are d zero [] e = refl
slots_are d zero (x ∷ xs) e = absurd (omega (arith, e))
slots_are d (suc n) [] e = absurd (omega (arith, e))
slots_are d (suc n) (x ∷ xs) e = ap (x ∷◌) (slots_are d n xs (omega (arith, e)))

-- what stands behind a slot
pub take_all : {A : Type 0} (n : ℕ) (xs : List A) → length xs ≤ n → take n xs ≡ xs
take_all zero [] l = refl
take_all zero (x ∷ xs) l = absurd (not-suc-le-zero l)
take_all (suc n) [] l = refl
take_all (suc n) (x ∷ xs) l = ap (x ∷◌) (take_all n xs (le_of_suc-le-suc l))

pub behind : {A : Type 0} (i n : ℕ) (xs : List A) → length xs ≤ i + n → take n (drop i xs) ≡ drop i xs
behind i n xs l = take_all n (drop i xs) (omega (arith, length-drop i xs))

-- how many pass
filter_is : {A : Type 0} (p : A → Bool) (xs : List A) → filter p xs ≡ only p xs
unfolding only
filter_is p [] = refl
filter_is p (x ∷ xs) = rw (filter_is p xs)

pub count_is : {A : Type 0} (p : A → Bool) (xs : List A) → count_by p xs ≡ length (only p xs)
count_is p xs = sym (length-filter p xs) ∙ ap length (filter_is p xs)
