-- Laws of rising order: the same elements, each below all that follow it, and in no other order.
-- Assumes nothing.
use Rattle.std.proofs.Common.{◌≡◌, ℕ, zero, suc, ◌+◌, ◌<◌, Bool, true, false, cond, not, ◌&&◌, ◌||◌, eqb, ltb, List, [], ◌∷◌, map, length, get_or, sym, refl, ap, ◌∙◌, ap₂, ⊎_elim, suc-le-suc, zero-le, le_of_suc-le-suc, not-suc-le-zero, arith, ltb-false, ltb-true, lt-ltb, eq-eqb, ne_eqb, eqb-true}
use mathlib.Core.Bool.{and-true, or-true, or-false}
use borrow.Author.Tests.{not-true}
use Rattle.common.specs.Lists.{every, any}
use Rattle.common.specs.Rising.{insert, insert_all, rising, is_rising}
use Rattle.common.proofs.Tests.{never, both_true, order}
use Rattle.common.proofs.Lists.{every_at, every_by, any_at}

-- the same by another name of the elements
module _ {A B : Type 0} (f : A → B) (rank : B → ℕ) where
  abbrev own : A → ℕ
  own x = rank (f x)

  pub insert_map : (x : A) (ys : List A) → map f (insert own x ys) ≡ insert rank (f x) (map f ys)
  unfolding insert
  insert_map x [] = refl
  insert_map x (y ∷ ys) = go (ltb (own x) (own y)) (insert_map x ys) (insert_map y ys)
    where
      go : (b : Bool) → map f (insert own x ys) ≡ insert rank (f x) (map f ys) → map f (insert own y ys) ≡ insert rank (f y) (map f ys)
          → map f (cond b (x ∷ insert own y ys) (y ∷ insert own x ys)) ≡ cond b (f x ∷ insert rank (f y) (map f ys)) (f y ∷ insert rank (f x) (map f ys))
      go true e g = ap (f x ∷◌) g
      go false e g = ap (f y ∷◌) e

  pub all_map : (row xs : List A) → map f (insert_all own row xs) ≡ insert_all rank (map f row) (map f xs)
  unfolding insert_all
  all_map row [] = refl
  all_map row (x ∷ xs) = all_map (insert own x row) xs ∙ rw (insert_map x row)

module _ {A : Type 0} (rank : A → ℕ) where
  pub insert_length : (x : A) (ys : List A) → length (insert rank x ys) ≡ suc (length ys)
  unfolding insert
  insert_length x [] = refl
  insert_length x (y ∷ ys) = go (ltb (rank x) (rank y)) (insert_length x ys) (insert_length y ys)
    where
      go : (b : Bool) → length (insert rank x ys) ≡ suc (length ys) → length (insert rank y ys) ≡ suc (length ys)
          → length (cond b (x ∷ insert rank y ys) (y ∷ insert rank x ys)) ≡ suc (suc (length ys))
      go true e g = ap suc g
      go false e g = ap suc e

  pub all_length : (row xs : List A) → length (insert_all rank row xs) ≡ length row + length xs
  unfolding insert_all
  all_length row [] = omega arith
  all_length row (x ∷ xs) = omega (arith, all_length (insert rank x row) xs, insert_length x row)

  -- THE SAME ELEMENTS
  module _ (p : A → Bool) where
    and_turned : (a b c : Bool) → (a && (b && c)) ≡ (b && (a && c))
    and_turned true b c = refl
    and_turned false true c = refl
    and_turned false false c = refl

    or_turned : (a b c : Bool) → (a || (b || c)) ≡ (b || (a || c))
    or_turned false b c = refl
    or_turned true true c = refl
    or_turned true false c = refl

    pub insert_every : (x : A) (ys : List A) → every p (insert rank x ys) ≡ (p x && every p ys)
    unfolding insert every
    insert_every x [] = refl
    insert_every x (y ∷ ys) = go (ltb (rank x) (rank y)) (insert_every x ys) (insert_every y ys)
      where
        go : (b : Bool) → every p (insert rank x ys) ≡ (p x && every p ys) → every p (insert rank y ys) ≡ (p y && every p ys)
            → every p (cond b (x ∷ insert rank y ys) (y ∷ insert rank x ys)) ≡ (p x && (p y && every p ys))
        go true e g = ap (p x &&◌) g
        go false e g = ap (p y &&◌) e ∙ and_turned (p y) (p x) (every p ys)

    pub insert_any : (x : A) (ys : List A) → any p (insert rank x ys) ≡ (p x || any p ys)
    unfolding insert any
    insert_any x [] = refl
    insert_any x (y ∷ ys) = go (ltb (rank x) (rank y)) (insert_any x ys) (insert_any y ys)
      where
        go : (b : Bool) → any p (insert rank x ys) ≡ (p x || any p ys) → any p (insert rank y ys) ≡ (p y || any p ys)
            → any p (cond b (x ∷ insert rank y ys) (y ∷ insert rank x ys)) ≡ (p x || (p y || any p ys))
        go true e g = ap (p x ||◌) g
        go false e g = ap (p y ||◌) e ∙ or_turned (p y) (p x) (any p ys)

    pub all_every : (row xs : List A) → every p (insert_all rank row xs) ≡ (every p row && every p xs)
    unfolding insert_all every
    all_every row [] = sym (and-true (every p row))
    all_every row (x ∷ xs) = all_every (insert rank x row) xs ∙ rw (insert_every x row) (go (p x) (every p row) (every p xs))
      where
        go : (a b c : Bool) → ((a && b) && c) ≡ (b && (a && c))
        go true b c = refl
        go false true c = refl
        go false false c = refl

    pub all_any : (row xs : List A) → any p (insert_all rank row xs) ≡ (any p row || any p xs)
    unfolding insert_all any
    all_any row [] = sym (or-false (any p row))
    all_any row (x ∷ xs) = all_any (insert rank x row) xs ∙ rw (insert_any x row) (go (p x) (any p row) (any p xs))
      where
        go : (a b c : Bool) → ((a || b) || c) ≡ (b || (a || c))
        go false b c = refl
        go true true c = refl
        go true false c = refl

  -- EACH IS BELOW ALL THAT FOLLOW IT, where no two ranks are the same
  abbrev pub below : A → A → Bool
  below x y = ltb (rank x) (rank y)

  abbrev pub other : A → A → Bool
  other x y = not (eqb (rank x) (rank y))

  unfoldable pub all_other : List A → Bool
  all_other [] = true
  all_other (x ∷ xs) = every (other x) xs && all_other xs

  -- what follows from a fact about each
  every_by_each : (p r : A → Bool) → ((y : A) → p y ≡ true → r y ≡ true) → (ys : List A) → every p ys ≡ true → every r ys ≡ true
  unfolding every
  every_by_each p r h [] e = refl
  every_by_each p r h (y ∷ ys) e = let b = both_true (p y) (every p ys) e in rw (h y b.0, every_by_each p r h ys b.1)

  below_other : (x y : A) → below x y ≡ true → other x y ≡ true
  below_other x y e = rw (ne_eqb (rank x) (rank y) (λ h. omega (arith, ltb-true (rank x) (rank y) e)))

  insert_rises : (x : A) (ys : List A) → every (other x) ys ≡ true → is_rising rank ys ≡ true → is_rising rank (insert rank x ys) ≡ true
  unfolding insert is_rising every
  insert_rises x [] d r = refl
  insert_rises x (y ∷ ys) d r =
      let b = both_true (every (below y) ys) (is_rising rank ys) r in
      let e = both_true (other x y) (every (other x) ys) d in
      go (ltb (rank x) (rank y)) refl b.0 e.0 (insert_rises x ys e.1 b.1) (insert_rises y ys (every_by_each (below y) (other y) (below_other y) ys b.0) b.1)
    where
      go : (t : Bool) → ltb (rank x) (rank y) ≡ t → every (below y) ys ≡ true → other x y ≡ true → is_rising rank (insert rank x ys) ≡ true
          → is_rising rank (insert rank y ys) ≡ true → is_rising rank (cond t (x ∷ insert rank y ys) (y ∷ insert rank x ys)) ≡ true
      go true t b o rx ry =
          let l = ltb-true (rank x) (rank y) t in
          let all : every (below x) ys ≡ true = every_by_each (below y) (below x) (λ z h. lt-ltb (rank x) (rank z) (omega (arith, ltb-true (rank y) (rank z) h))) ys b in
          rw (insert_every (below x) y ys, t, all, ry)
      go false t b o rx ry =
          let n : rank x ≡ rank y → ⊥ = λ h. never (eq-eqb (rank x) (rank y) h) (not-true (eqb (rank x) (rank y)) o) in
          let l = ltb-false (rank x) (rank y) t in
          let m : rank y < rank x = ⊎_elim (λ h. h) (⊎_elim (λ h. absurd (n (sym h))) (λ h. omega arith)) (order (rank y) (rank x)) in
          rw (insert_every (below y) x ys, lt-ltb (rank y) (rank x) m, b, rx)

  all_rise : (row xs : List A) → is_rising rank row ≡ true → all_other xs ≡ true → every (λ x. every (other x) row) xs ≡ true
      → is_rising rank (insert_all rank row xs) ≡ true
  unfolding insert_all all_other every
  all_rise row [] r d o = r
  all_rise row (x ∷ xs) r d o =
      let b = both_true (every (other x) xs) (all_other xs) d in
      let e = both_true (every (other x) row) (every (λ z. every (other z) row) xs) o in
      all_rise (insert rank x row) xs (insert_rises x row e.0 r) b.1 (further xs b.0 e.1)
    where
      further : (zs : List A) → every (other x) zs ≡ true → every (λ z. every (other z) row) zs ≡ true → every (λ z. every (other z) (insert rank x row)) zs ≡ true
      further [] f g = refl
      further (z ∷ zs) f g =
          let f' = both_true (other x z) (every (other x) zs) f in
          let g' = both_true (every (other z) row) (every (λ z. every (other z) row) zs) g in
          rw (insert_every (other z) x row, turned z f'.0, g'.0, further zs f'.1 g'.1)
        where
          turned : (z : A) → other x z ≡ true → other z x ≡ true
          turned z h = rw (ne_eqb (rank z) (rank x) (λ e. never (eq-eqb (rank x) (rank z) (sym e)) (not-true (eqb (rank x) (rank z)) h)))

  pub rises : (xs : List A) → all_other xs ≡ true → is_rising rank (rising rank xs) ≡ true
  unfolding is_rising every
  rises xs d = all_rise [] xs refl d (nothing xs)
    where
      nothing : (zs : List A) → every (λ z. true) zs ≡ true
      nothing [] = refl
      nothing (z ∷ zs) = nothing zs

  -- by places
  pub rising_at : (xs : List A) → is_rising rank xs ≡ true → (d : A) (j k : ℕ) → j < k → k < length xs → rank (get_or xs j d) < rank (get_or xs k d)
  unfolding is_rising
  rising_at [] r d j k m l = absurd (not-suc-le-zero l)
  rising_at (x ∷ xs) r d j zero m l = absurd (not-suc-le-zero m)
  rising_at (x ∷ xs) r d zero (suc k) m l =
      ltb-true (rank x) (rank (get_or xs k d)) (every_at (below x) xs (both_true (every (below x) xs) (is_rising rank xs) r).0 k d (le_of_suc-le-suc l))
  rising_at (x ∷ xs) r d (suc j) (suc k) m l =
      rising_at xs (both_true (every (below x) xs) (is_rising rank xs) r).1 d j k (le_of_suc-le-suc m) (le_of_suc-le-suc l)

  pub at_rising : (xs : List A) (d : A) → ((j k : ℕ) → j < k → k < length xs → rank (get_or xs j d) < rank (get_or xs k d)) → is_rising rank xs ≡ true
  unfolding is_rising
  at_rising [] d h = refl
  at_rising (x ∷ xs) d h =
      rw (
        every_by (below x) d xs (λ k l. lt-ltb (rank x) (rank (get_or xs k d)) (h 0 (suc k) (suc-le-suc zero-le) (suc-le-suc l))),
        at_rising xs d (λ j k m l. h (suc j) (suc k) (suc-le-suc m) (suc-le-suc l)),
      )

-- IN NO OTHER ORDER: of numbers, two rows that rise and have the same elements are one
abbrev pub has : ℕ → List ℕ → Bool
has i xs = any (eqb i) xs

module _ (rank : ℕ → ℕ) where
  -- what stands behind the first is above it
  above : (x : ℕ) (xs : List ℕ) → every (below rank x) xs ≡ true → (i : ℕ) → has i xs ≡ true → rank x < rank i
  above x xs e i h =
      let a = any_at (eqb i) 0 xs h in
      let f : i ≡ get_or xs a.0 0 = eqb-true i (get_or xs a.0 0) a.2 in
      let l = ltb-true (rank x) (rank (get_or xs a.0 0)) (every_at (below rank x) xs e a.0 0 a.1) in
      rw (f) l

  one_first : (x y i : ℕ) (xs : List ℕ) → (eqb i x || has i xs) ≡ true → (i ≡ x → ⊥) → has i xs ≡ true
  one_first x y i xs e n = rw (ne_eqb i x n) at e

  pub rising_only : (xs ys : List ℕ) → is_rising rank xs ≡ true → is_rising rank ys ≡ true
      → ((i : ℕ) → has i xs ≡ true → has i ys ≡ true) → ((i : ℕ) → has i ys ≡ true → has i xs ≡ true) → xs ≡ ys
  unfolding is_rising any
  rising_only [] [] r s f g = refl
  rising_only [] (y ∷ ys) r s f g = never (g y (rw (eq-eqb y y refl))) refl
  rising_only (x ∷ xs) [] r s f g = never (f x (rw (eq-eqb x x refl))) refl
  rising_only (x ∷ xs) (y ∷ ys) r s f g =
      let b = both_true (every (below rank x) xs) (is_rising rank xs) r in
      let c = both_true (every (below rank y) ys) (is_rising rank ys) s in
      let e : x ≡ y = same_first (eqb x y) refl b.0 c.0 (f x (rw (eq-eqb x x refl))) (g y (rw (eq-eqb y y refl))) in
      ap₂ ◌∷◌ e (rising_only xs ys b.1 c.1
      (λ i h. let l = above x xs b.0 i h in
      one_first y y i ys (f i (rw (h, or-true (eqb i x)))) (λ t. omega (arith, ap rank (t ∙ sym e))))
      (λ i h. let l = above y ys c.0 i h in
      one_first x x i xs (g i (rw (h, or-true (eqb i y)))) (λ t. omega (arith, ap rank (t ∙ e)))))
    where
      same_first : (t : Bool) → eqb x y ≡ t → every (below rank x) xs ≡ true → every (below rank y) ys ≡ true → (eqb x y || has x ys) ≡ true
          → (eqb y x || has y xs) ≡ true → x ≡ y
      same_first true t b c h k = eqb-true x y t
      same_first false t b c h k =
          let n : x ≡ y → ⊥ = λ e. never (eq-eqb x y e) t in
          let p = above y ys c x (one_first y y x ys h n) in
          let q = above x xs b y (one_first x x y xs k (λ e. n (sym e))) in
          absurd (omega arith)
