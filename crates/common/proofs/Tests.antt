-- What a test that came out one way says.
-- Assumes nothing.
use Rattle.std.proofs.Common.{◌≡◌, ℕ, zero, suc, ◌<◌, ◌≤◌, Bool, true, false, cond, not, ◌&&◌, ◌||◌, leb, ◌⊎◌, sym, refl, ap, ◌∙◌, inl, inr, ⊎_elim, suc-le-suc, zero-le, arith, leb-true}
use native.Mathlib.Decide.{dec_lt}
use borrow.Author.Tests.{not-true, not-false}

-- a call whose negation was tested
pub fails : (r : Bool) {b : Bool} → not r ≡ true → r ≡ b → b ≡ false
fails r h e = sym e ∙ not-true r h

pub holds : (r : Bool) {b : Bool} → not r ≡ false → r ≡ b → b ≡ true
holds r h e = sym e ∙ not-false r h

-- a test has one outcome
pub never : {A : Type 0} {b : Bool} → b ≡ true → b ≡ false → A
never h e = let z : ◌≡◌ {A = ℕ} 0 1 = cc in absurd (omega arith)

pub both_true : (a b : Bool) → (a && b) ≡ true → (a ≡ true) × (b ≡ true)
both_true true b e = (refl, e)
both_true false b e = never e refl

pub in_range : (lowest v highest : ℕ) → (leb lowest v && leb v highest) ≡ true → (lowest ≤ v) × (v ≤ highest)
in_range lowest v highest e =
    let b = both_true (leb lowest v) (leb v highest) e in
    (leb-true lowest v b.0, leb-true v highest b.1)

pub either_false : (a b : Bool) → (a || b) ≡ false → (a ≡ false) × (b ≡ false)
either_false true b e = never refl e
either_false false b e = (refl, e)

pub side : (k m : ℕ) → (k < m) ⊎ (m ≤ k)
side k m = go (dec_lt k m)
  where
    go : Dec (k < m) → (k < m) ⊎ (m ≤ k)
    go (yes h) = inl h
    go (no h) = inr (omega arith)

pub order : (a b : ℕ) → (a < b) ⊎ ((a ≡ b) ⊎ (b < a))
order zero zero = inr (inl refl)
order zero (suc b) = inl (suc-le-suc zero-le)
order (suc a) zero = inr (inr (suc-le-suc zero-le))
order (suc a) (suc b) =
    ⊎_elim (λ h. inl (suc-le-suc h)) (λ r. inr (⊎_elim (λ e. inl (ap suc e)) (λ h. inr (suc-le-suc h)) r)) (order a b)

-- a test that cannot hold fails
pub refuted : (b : Bool) → (b ≡ true → ⊥) → b ≡ false
refuted true h = absurd (h refl)
refuted false h = refl

-- a choice between the same
pub either_way : {A : Type 0} (b : Bool) (x : A) → cond b x x ≡ x
either_way true x = refl
either_way false x = refl
