-- Laws of `least`: what a search from 0 upwards uses, and what the definition means.
-- Assumes nothing.
use Rattle.std.proofs.Common.{◌≡◌, ℕ, zero, suc, ◌+◌, ◌<◌, ◌≤◌, Bool, true, false, cond, ltb, refl, ap, suc-le-suc, zero-le, le_of_suc-le-suc, not-suc-le-zero, add-one, arith, ltb-false, le-ltb}
use native.Mathlib.Nat.{suc_inj}
use Rattle.common.specs.Least.{least}

-- what was found above 0 was not at 0
above : (b : Bool) (m i : ℕ) → cond b zero (suc m) ≡ suc i → (b ≡ false) × (m ≡ i)
above true m i e = absurd (omega arith)
above false m i e = (refl, suc_inj e)

next : (p : ℕ → Bool) (i : ℕ) → least p i ≡ i → p i ≡ false → least p (suc i) ≡ suc i
unfolding least
next p zero e h = rw h
next p (suc i) e h =
    let d = above (p zero) (least (λ (k : ℕ). p (suc k)) i) i e in
    rw d.0 (ap suc (next (λ (k : ℕ). p (suc k)) i d.1 h))

-- A SEARCH starts with nothing below 0,
pub start : (p : ℕ → Bool) → least p 0 ≡ 0
unfolding least
start p = refl

-- goes on where nothing is below i, nor at i,
pub more : (p : ℕ → Bool) (i : ℕ) → least p i ≡ i → p i ≡ false → least p (i + 1) ≡ i + 1
more p i e h = rw add-one (next p i e h)

-- and ends where nothing is below i, and i passes.
pub hit : (p : ℕ → Bool) (i n : ℕ) → least p i ≡ i → p i ≡ true → i < n → least p n ≡ i
unfolding least
hit p i zero e h l = absurd (not-suc-le-zero l)
hit p zero (suc n) e h l = rw h
hit p (suc i) (suc n) e h l =
    let d = above (p zero) (least (λ (k : ℕ). p (suc k)) i) i e in
    rw d.0 (ap suc (hit (λ (k : ℕ). p (suc k)) i n d.1 h (le_of_suc-le-suc l)))

-- nothing below n passes
pub none : (p : ℕ → Bool) (n : ℕ) → ((k : ℕ) → k < n → p k ≡ false) → least p n ≡ n
unfolding least
none p zero f = refl
none p (suc n) f = rw (f zero (omega arith)) (ap suc (none (λ (k : ℕ). p (suc k)) n (λ k h. f (suc k) (suc-le-suc h))))

-- WHAT IT MEANS. It is at most the bound,
pub within : (p : ℕ → Bool) (n : ℕ) → least p n ≤ n
unfolding least
within p zero = zero-le
within p (suc n) = go (p zero) (within (λ (k : ℕ). p (suc k)) n)
  where
    go : (b : Bool) {m : ℕ} → m ≤ n → cond b zero (suc m) ≤ suc n
    go true h = zero-le
    go false h = suc-le-suc h

-- it passes where it is below the bound,
pub passes : (p : ℕ → Bool) (n : ℕ) → least p n < n → p (least p n) ≡ true
unfolding least
passes p zero l = absurd (not-suc-le-zero l)
passes p (suc n) l = go (p zero) refl (least (λ (k : ℕ). p (suc k)) n) l (passes (λ (k : ℕ). p (suc k)) n)
  where
    go : (b : Bool) → p zero ≡ b → (m : ℕ) → cond b zero (suc m) < suc n → (m < n → p (suc m) ≡ true) → p (cond b zero (suc m)) ≡ true
    go true e m g f = e
    go false e m g f = f (le_of_suc-le-suc g)

-- and nothing below it passes.
pub before : (p : ℕ → Bool) (n k : ℕ) → k < least p n → p k ≡ false
unfolding least
before p zero k l = absurd (not-suc-le-zero l)
before p (suc n) k l = go (p zero) refl (least (λ (j : ℕ). p (suc j)) n) k l (before (λ (j : ℕ). p (suc j)) n)
  where
    go : (b : Bool) → p zero ≡ b → (m i : ℕ) → i < cond b zero (suc m) → ((j : ℕ) → j < m → p (suc j) ≡ false) → p i ≡ false
    go true e m i g f = absurd (not-suc-le-zero g)
    go false e m zero g f = e
    go false e m (suc i) g f = f i (le_of_suc-le-suc g)

-- The test that it is below the bound fails exactly if nothing below the bound passes.
pub finds_none : (p : ℕ → Bool) (n : ℕ) → ltb (least p n) n ≡ false → (k : ℕ) → k < n → p k ≡ false
finds_none p n e k l = before p n k (omega (arith, ltb-false (least p n) n e))

pub none_finds : (p : ℕ → Bool) (n : ℕ) → ((k : ℕ) → k < n → p k ≡ false) → ltb (least p n) n ≡ false
none_finds p n f = le-ltb (least p n) n (omega (arith, none p n f))

-- what was found below a bound is found below any further one
pub stays : (p : ℕ → Bool) (m n : ℕ) → least p m < m → m ≤ n → least p n ≡ least p m
stays p m n l h =
    hit p (least p m) n (none p (least p m) (λ k g. before p m k g)) (passes p m l) (omega arith)

-- two tests that agree below the bound find the same
pub alike : (p q : ℕ → Bool) (n : ℕ) → ((k : ℕ) → k < n → p k ≡ q k) → least p n ≡ least q n
unfolding least
alike p q zero f = refl
alike p q (suc n) f =
    rw (f zero (omega arith), alike (λ (k : ℕ). p (suc k)) (λ (k : ℕ). q (suc k)) n (λ k h. f (suc k) (suc-le-suc h)))
