-- Laws of for all, there is and the same: a step at a place of the list, the end, and what each means.
-- Assumes nothing.
use Rattle.std.proofs.Common.{◌≡◌, ℕ, zero, suc, ◌+◌, ◌<◌, ◌≤◌, Bool, true, false, cond, ◌&&◌, ◌||◌, eqb, ltb, ◌⊎◌, List, [], ◌∷◌, ◌++◌, map, length, get_or, take, drop, set, replicate, sym, refl, ap, ◌∙◌, ap₂, inl, inr, ⊎_elim, suc-le-suc, zero-le, le_of_suc-le-suc, not-suc-le-zero, zero-add, add-one, one-add, arith, length-append, length-drop, drop_of_length-le, get_or-drop, drop-cons, lt-ltb, eq-eqb, eqb-true}
use Rattle.std.specs.List.{list_all}
use mathlib.Core.Bool.{or-true, and-false, and_assoc}
use lib.Dec.{leb-suc-suc}
use lib.ListN.{get_or-append}
use lib.Seq.{drop-append-le, take-append-le, take-nil, get_or_at}
use Rattle.common.specs.Least.{least}
use Rattle.common.specs.Lists.{every, any, same, first_of, up_to}
use Rattle.common.proofs.Tests.{never, both_true, side}

module _ {A : Type 0} (p : A → Bool) where
  pub every_step : (s : List A) (i : ℕ) (d : A) → i < length s → every p (drop i s) ≡ (p (get_or s i d) && every p (drop (i + 1) s))
  unfolding every
  every_step s i d h = rw (add-one, drop-cons s i d h)

  pub every_end : (s : List A) (i : ℕ) → length s ≤ i → every p (drop i s) ≡ true
  unfolding every
  every_end s i h = rw (drop_of_length-le s h)

  -- and std's word for it
  pub every_is_all : (s : List A) → list_all p s ≡ every p s
  unfolding every
  every_is_all [] = refl
  every_is_all (x ∷ s) = rw (every_is_all s)

  -- each element passes
  pub every_at : (s : List A) → every p s ≡ true → (i : ℕ) (d : A) → i < length s → p (get_or s i d) ≡ true
  unfolding every
  every_at [] e i d h = absurd (not-suc-le-zero h)
  every_at (x ∷ s) e zero d h = (both_true (p x) (every p s) e).0
  every_at (x ∷ s) e (suc i) d h = every_at s (both_true (p x) (every p s) e).1 i d (le_of_suc-le-suc h)

-- the test is equality
pub same_is : (a b : List ℕ) → same a b ≡ true → a ≡ b
unfolding same
same_is [] [] e = refl
same_is [] (y ∷ b) e = never e refl
same_is (x ∷ a) [] e = never e refl
same_is (x ∷ a) (y ∷ b) e =
    let d = both_true (eqb x y) (same a b) e in
    ap₂ ◌∷◌ (eqb-true x y d.0) (same_is a b d.1)

itself : (s : List ℕ) → same s s ≡ true
unfolding same
itself [] = refl
itself (x ∷ s) = rw (eq-eqb x x refl) (itself s)

pub is_same : (a b : List ℕ) → a ≡ b → same a b ≡ true
is_same a b e = rw (← e) (itself a)

-- what differs is not the same
pub not_same : (a b : List ℕ) → (a ≡ b → ⊥) → same a b ≡ false
not_same a b h = go (same a b) refl
  where
    go : (t : Bool) → same a b ≡ t → same a b ≡ false
    go true e = absurd (h (same_is a b e))
    go false e = e

-- some element passes, at a place of the list
module _ {A : Type 0} (p : A → Bool) (d : A) where
  pub any_at : (s : List A) → any p s ≡ true → (i : ℕ) × (i < length s) × (p (get_or s i d) ≡ true)
  unfolding any
  any_at [] e = never e refl
  any_at (x ∷ s) e = go (p x) refl (λ h. any_at s h) e
    where
      go : (b : Bool) → p x ≡ b → (any p s ≡ true → (i : ℕ) × (i < length s) × (p (get_or s i d) ≡ true)) → (b || any p s) ≡ true
          → (i : ℕ) × (i < suc (length s)) × (p (get_or (x ∷ s) i d) ≡ true)
      go true q f h = (0, suc-le-suc zero-le, q)
      go false q f h = let r = f h in (suc r.0, suc-le-suc r.1, r.2)

  pub at_any : (s : List A) (i : ℕ) → i < length s → p (get_or s i d) ≡ true → any p s ≡ true
  unfolding any
  at_any [] i l h = absurd (not-suc-le-zero l)
  at_any (x ∷ s) zero l h = rw h
  at_any (x ∷ s) (suc i) l h = rw (at_any s i (le_of_suc-le-suc l) h, or-true)

-- what holds of all of a list holds of a number among them
pub every_among : (p : ℕ → Bool) (s : List ℕ) (n : ℕ) → every p s ≡ true → any (eqb n) s ≡ true → p n ≡ true
every_among p s n e h = let a = any_at (eqb n) 0 s h in rw (eqb-true n (get_or s a.0 0) a.2) (every_at p s e a.0 0 a.1)

-- a list after a store: the stored number at its place, and elsewhere what was there
pub after_store : (l : List ℕ) (k j v : ℕ) → ((j ≡ k) × (get_or (set l k v) j 0 ≡ v)) ⊎ (get_or (set l k v) j 0 ≡ get_or l j 0)
after_store [] k j v = inr refl
after_store (x ∷ l) zero zero v = inl (refl, refl)
after_store (x ∷ l) zero (suc j) v = inr refl
after_store (x ∷ l) (suc k) zero v = inr refl
after_store (x ∷ l) (suc k) (suc j) v = ⊎_elim (λ h. inl (ap suc h.0, h.1)) inr (after_store l k j v)

-- the first n elements
module _ {A : Type 0} (d : A) where
  pub first_length : (n : ℕ) (xs : List A) → length (first_of d n xs) ≡ n
  unfolding first_of
  first_length zero xs = refl
  first_length (suc n) xs = ap suc (first_length n (drop 1 xs))

  pub first_at : (n : ℕ) (xs : List A) (k : ℕ) → k < n → get_or (first_of d n xs) k d ≡ get_or xs k d
  unfolding first_of
  first_at zero xs k l = absurd (not-suc-le-zero l)
  first_at (suc n) xs zero l = refl
  first_at (suc n) xs (suc k) l = first_at n (drop 1 xs) k (le_of_suc-le-suc l) ∙ (get_or-drop 1 xs k d ∙ ap (λ j. get_or xs j d) (one-add k))

-- f 0, .., f (n - 1)
module _ {A : Type 0} (f : ℕ → A) where
  pub upto_length : (n : ℕ) → length (up_to f n) ≡ n
  unfolding up_to
  upto_length zero = refl
  upto_length (suc n) = length-append (up_to f n) (f n ∷ []) ∙ rw (upto_length n) (add-one n)

  pub upto_at : (n k : ℕ) (d : A) → k < n → get_or (up_to f n) k d ≡ f k
  unfolding up_to
  upto_at zero k d l = absurd (not-suc-le-zero l)
  upto_at (suc n) k d l =
      ⊎_elim
      (λ h. get_or-append (up_to f n) (f n ∷ []) d k (rw (upto_length n) h) ∙ upto_at n k d h)
      (λ h. let e : k ≡ n = omega arith in rw e (get_or_at (up_to f n) (f n) [] d n (upto_length n)))
      (side k n)

  -- each of them passes: a step at a place, and the end
  pub upto_step : (p : A → Bool) (n i : ℕ) → i < n → every p (drop i (up_to f n)) ≡ (p (f i) && every p (drop (i + 1) (up_to f n)))
  upto_step p n i l = every_step p (up_to f n) i (f i) (rw (upto_length n) l) ∙ rw (upto_at n i (f i) l)

  pub upto_end : (p : A → Bool) (n : ℕ) → every p (drop n (up_to f n)) ≡ true
  upto_end p n = every_end p (up_to f n) n (omega (arith, upto_length n))

-- there is an element that passes exactly if the first such one is in the list
pub any_least : {A : Type 0} (p : A → Bool) (d : A) (xs : List A) → any p xs ≡ ltb (least (λ i. p (get_or xs i d)) (length xs)) (length xs)
unfolding any least
any_least p d [] = refl
any_least p d (x ∷ xs) = go (p x) (any_least p d xs)
  where
    go : (b : Bool) → any p xs ≡ ltb (least (λ i. p (get_or xs i d)) (length xs)) (length xs)
        → (b || any p xs) ≡ ltb (cond b zero (suc (least (λ i. p (get_or xs i d)) (length xs)))) (suc (length xs))
    go true e = sym (lt-ltb 0 (suc (length xs)) (omega arith))
    go false e = e ∙ sym (leb-suc-suc (suc (least (λ i. p (get_or xs i d)) (length xs))) (length xs))

pub upto_same : {A : Type 0} (f g : ℕ → A) (n : ℕ) → ((k : ℕ) → k < n → f k ≡ g k) → up_to f n ≡ up_to g n
unfolding up_to
upto_same f g zero h = refl
upto_same f g (suc n) h = ap₂ (λ xs x. xs ++ (x ∷ [])) (upto_same f g n (λ k l. h k (omega arith))) (h n (omega arith))

pub upto_more : {A : Type 0} (f : ℕ → A) (n : ℕ) → up_to f (n + 1) ≡ up_to f n ++ (f n ∷ [])
unfolding up_to
upto_more f n = rw add-one

-- all pass in front and behind
pub every_append : {A : Type 0} (p : A → Bool) (a b : List A) → every p (a ++ b) ≡ (every p a && every p b)
unfolding every
every_append p [] b = refl
every_append p (x ∷ a) b = rw (every_append p a b) (sym (and_assoc (p x) (every p a) (every p b)))

-- two parts of equal lengths are the same exactly if they are in front and behind
pub same_parts : (l n : ℕ) (a b : List ℕ) → same (take (l + n) a) (take (l + n) b) ≡ (same (take l a) (take l b) && same (take n (drop l a)) (take n (drop l b)))
unfolding same
same_parts zero n a b = rw zero-add
same_parts (suc l) n [] [] = rw (take-nil (suc l + n), take-nil n)
same_parts (suc l) n [] (y ∷ b) = let e : suc l + n ≡ suc (l + n) = omega arith in rw e
same_parts (suc l) n (x ∷ a) [] = let e : suc l + n ≡ suc (l + n) = omega arith in rw e
same_parts (suc l) n (x ∷ a) (y ∷ b) =
    let e : suc l + n ≡ suc (l + n) = omega arith in
    rw (e, same_parts l n a b) (sym (and_assoc (eqb x y) (same (take l a) (take l b)) (same (take n (drop l a)) (take n (drop l b)))))

-- what follows from a test that each passes, each passes
pub every_so : {A : Type 0} (p q : A → Bool) (xs : List A) → ((x : A) → p x ≡ true → q x ≡ true) → every p xs ≡ true → every q xs ≡ true
unfolding every
every_so p q [] f e = refl
every_so p q (x ∷ xs) f e = let d = both_true (p x) (every p xs) e in rw (f x d.0, every_so p q xs f d.1)

-- each passes two tests exactly if each passes both at once
pub every_both : {A : Type 0} (p r : A → Bool) (xs : List A) → (every p xs && every r xs) ≡ every (λ x. p x && r x) xs
unfolding every
every_both p r [] = refl
every_both p r (x ∷ xs) = go (p x) (r x) (every p xs) (every r xs) (every_both p r xs)
  where
    go : (a b c d : Bool) {e : Bool} → (c && d) ≡ e → ((a && c) && (b && d)) ≡ ((a && b) && e)
    go true true c d h = h
    go true false c d h = and-false c
    go false b c d h = refl

pub every_mapped : {A B : Type 0} (p : B → Bool) (g : A → B) (xs : List A) → every p (map g xs) ≡ every (λ x. p (g x)) xs
unfolding every
every_mapped p g [] = refl
every_mapped p g (x ∷ xs) = ap (p (g x) &&◌) (every_mapped p g xs)

-- tests that agree on each element
pub every_alike : {A : Type 0} (p r : A → Bool) (d : A) (xs : List A) → ((i : ℕ) → i < length xs → p (get_or xs i d) ≡ r (get_or xs i d)) → every p xs ≡ every r xs
unfolding every
every_alike p r d [] h = refl
every_alike p r d (x ∷ xs) h = ap₂ ◌&&◌ (h 0 (omega arith)) (every_alike p r d xs (λ i l. h (suc i) (omega arith)))

module _ {A : Type 0} (p : A → Bool) where
  pub every_drop : (xs : List A) (k : ℕ) → every p xs ≡ true → every p (drop k xs) ≡ true
  unfolding every
  every_drop [] zero e = refl
  every_drop [] (suc k) e = refl
  every_drop (x ∷ xs) zero e = e
  every_drop (x ∷ xs) (suc k) e = every_drop xs k (both_true (p x) (every p xs) e).1

  pub every_take : (xs : List A) (k : ℕ) → every p xs ≡ true → every p (take k xs) ≡ true
  unfolding every
  every_take [] zero e = refl
  every_take [] (suc k) e = refl
  every_take (x ∷ xs) zero e = refl
  every_take (x ∷ xs) (suc k) e = let d = both_true (p x) (every p xs) e in rw d.0 (every_take xs k d.1)

  pub every_by : (d : A) (xs : List A) → ((i : ℕ) → i < length xs → p (get_or xs i d) ≡ true) → every p xs ≡ true
  unfolding every
  every_by d [] f = refl
  every_by d (x ∷ xs) f = rw (f 0 (omega arith)) (every_by d xs (λ i l. f (suc i) (omega arith)))

  pub every_replicate : (x : A) → p x ≡ true → (k : ℕ) → every p (replicate k x) ≡ true
  unfolding every
  every_replicate x e zero = refl
  every_replicate x e (suc k) = rw e (every_replicate x e k)

  pub every_map : (g : A → A) → ((x : A) → p x ≡ true → p (g x) ≡ true) → (xs : List A) → every p xs ≡ true → every p (map g xs) ≡ true
  unfolding every
  every_map g f [] e = refl
  every_map g f (x ∷ xs) e = let d = both_true (p x) (every p xs) e in rw (f x d.0) (every_map g f xs d.1)

pub zero_at : (xs : List ℕ) → every (λ x. eqb x 0) xs ≡ true → (i : ℕ) → get_or xs i 0 ≡ 0
unfolding every
zero_at [] z i = refl
zero_at (x ∷ xs) z zero = eqb-true x 0 (both_true (eqb x 0) (every (λ x. eqb x 0) xs) z).0
zero_at (x ∷ xs) z (suc i) = zero_at xs (both_true (eqb x 0) (every (λ x. eqb x 0) xs) z).1 i

-- a part that lies in the first of two lists
pub part_front : {A : Type 0} (p q : List A) (a k : ℕ) → a + k ≤ length p → take k (drop a (p ++ q)) ≡ take k (drop a p)
part_front p q a k l = rw (drop-append-le a p q (omega arith)) (take-append-le k (drop a p) q (rw length-drop (omega arith)))

-- MAPPED: where nothing changes, and where one element does
pub map_fixed : {A : Type 0} (g : A → A) (d : A) (xs : List A) → ((j : ℕ) → j < length xs → g (get_or xs j d) ≡ get_or xs j d) → map g xs ≡ xs
map_fixed g d [] f = refl
map_fixed g d (x ∷ xs) f = ap₂ ◌∷◌ (f 0 (omega arith)) (map_fixed g d xs (λ j l. f (suc j) (omega arith)))

pub set_map : {A : Type 0} (p : A → Bool) (g : A → A) (d : A) (xs : List A) (i : ℕ) → i < length xs → p (get_or xs i d) ≡ true
    → ((j : ℕ) → j < length xs → (j ≡ i → ⊥) → p (get_or xs j d) ≡ false) → set xs i (g (get_or xs i d)) ≡ map (λ x. cond (p x) (g x) x) xs
set_map p g d [] i l h f = absurd (omega arith)
set_map p g d (x ∷ xs) zero l h f =
    ap₂ ◌∷◌ (sym (rw h)) (sym (map_fixed (λ y. cond (p y) (g y) y) d xs (λ j m. rw (f (suc j) (omega arith) (λ e. omega arith)))))
set_map p g d (x ∷ xs) (suc i) l h f =
    ap₂ ◌∷◌ (sym (rw (f 0 (omega arith) (λ e. omega arith)))) (set_map p g d xs i (omega arith) h (λ j m n. f (suc j) (omega arith) (λ e. n (omega arith))))
