-- The rules of rounding mean what they are to mean, no other amount does, and each is bounded and monotone.
-- Assumes nothing.
use Prim.Native.Nat.{ℕ, zero, suc, ◌+◌, ◌-◌, ◌*◌, ◌/◌, ◌%◌, ◌≤◌, ◌<◌, zero-le}
use mathlib.Core.Path.{◌≡◌, refl, sym, ap}
use mathlib.Core.Bool.{Bool, true, false, cond}
use mathlib.Core.Logic.{⊎_elim}
use native.Mathlib.Nat.{mul_assoc, mul-zero, suc-mul, mul_left_comm, div-add-mod', mod-lt, div-mul-le_self, le-div_iff_mul-le, mul-le-mul_right, lt_of_mul-lt-mul_right, le_antisymm, le_trans, le_of_lt, le_of_eq, le_refl}
use native.Mathlib.Omega.{arith}
use lib.Dec.{eqb}
use Rattle.common.proofs.Tests.{order}
use Rattle.layout.specs.Bytes.{byte_plus, byte_minus, byte_0, byte_N}
use Rattle.fares.specs.Rounding.{unit, upwards, downwards, nearest, rounded, IsUp, IsDown, apart, IsNear, IsRounded}

-- The one use of a product of two unknowns: of multiples of w, less than a step further is no further,
below : (w q k : ℕ) → q * w < k * w + w → q ≤ k
below w q k h =
    let g : q * w < suc k * w = omega (arith, suc-mul k w) in
    omega (arith, lt_of_mul-lt-mul_right w g)

-- and a multiple below another is a whole step below it.
step : (w k q : ℕ) → k < q → k * w + w ≤ q * w
step w k q h = omega (arith, mul-le-mul_right w h, suc-mul k w)

-- the multiple A that is nearest to n, and one a step or more above it, are not equally near
not_tied : (n w A B : ℕ) → 0 < w → 2 * n < 2 * A + w → A + w ≤ B → apart A n ≡ apart B n → ⊥
not_tied n w A B p h g t = omega arith

module _ (n f : ℕ) (pos : 0 < f) where
  pub up_is : IsUp n f (upwards n f)
  unfolding upwards
  up_is =
      let w : ℕ = f * unit in
      let x : ℕ = n + (w - 1) in
      let q : ℕ = x / w in
      let d : q * w + x % w ≡ x = div-add-mod' x w in
      let m : x % w < w = mod-lt x (omega arith) in
      record {
        multiple = (q, refl);
        not_below = rw mul_assoc (omega arith);
        least = λ k h. mul-le-mul_right f (below w q k (omega (arith, rw mul_assoc at h)));
      }

  pub down_is : IsDown n f (downwards n f)
  unfolding downwards
  down_is =
      let w : ℕ = f * unit in
      let q : ℕ = n / w in
      let d : q * w + n % w ≡ n = div-add-mod' n w in
      let m : n % w < w = mod-lt n (omega arith) in
      record {
        multiple = (q, refl);
        not_above = rw mul_assoc (omega arith);
        greatest = λ k h. mul-le-mul_right f (below w k q (omega (arith, rw mul_assoc at h)));
      }

  pub near_is : IsNear n f (nearest n f)
  unfolding nearest
  near_is =
      let w : ℕ = f * unit in
      let x : ℕ = 2 * n + w in
      let q : ℕ = x / (2 * w) in
      let d : q * (2 * w) + x % (2 * w) ≡ x = div-add-mod' x (2 * w) in
      let m : x % (2 * w) < 2 * w = mod-lt x (omega arith) in
      let e : q * (2 * w) ≡ 2 * (q * w) = mul_left_comm q 2 w in
      let c : 2 * n < 2 * (q * w) + w = omega arith in
      let not_above : (k : ℕ) → apart (q * w) n ≡ apart (k * w) n → k ≤ q =
      λ k t. ⊎_elim (λ g. le_of_lt g) (⊎_elim (λ g. le_of_eq g) (λ g. absurd (not_tied n w (q * w) (k * w) (omega arith) c (step w q k g) t))) (order k q) in
      record {
        multiple = (q, refl);
        near = λ k. rw (mul_assoc q f unit, mul_assoc k f unit)
            (⊎_elim (λ h. omega (arith, step w k q h))
            (⊎_elim (λ h. omega (arith, ap (λ (j : ℕ). j * w) h)) (λ h. omega (arith, step w q k h)))
            (order k q));
        halves_up = λ k t. mul-le-mul_right f (not_above k (rw (mul_assoc q f unit, mul_assoc k f unit) at t));
      }

-- No second amount meets any of the three.
pub up_only : {n f r s : ℕ} → IsUp n f r → IsUp n f s → r ≡ s
up_only {n} {f} {r} {s} a b =
    le_antisymm
    (rw b.multiple.1 (a.least b.multiple.0 (rw (← b.multiple.1) b.not_below)))
    (rw a.multiple.1 (b.least a.multiple.0 (rw (← a.multiple.1) a.not_below)))

pub down_only : {n f r s : ℕ} → IsDown n f r → IsDown n f s → r ≡ s
down_only {n} {f} {r} {s} a b =
    le_antisymm
    (rw a.multiple.1 (b.greatest a.multiple.0 (rw (← a.multiple.1) a.not_above)))
    (rw b.multiple.1 (a.greatest b.multiple.0 (rw (← b.multiple.1) b.not_above)))

pub near_only : {n f r s : ℕ} → IsNear n f r → IsNear n f s → r ≡ s
near_only {n} {f} {r} {s} a b =
    let p : apart (r * unit) n ≤ apart (s * unit) n = rw b.multiple.1 (a.near b.multiple.0) in
    let q : apart (s * unit) n ≤ apart (r * unit) n = rw a.multiple.1 (b.near a.multiple.0) in
    let e : apart (r * unit) n ≡ apart (s * unit) n = le_antisymm p q in
    le_antisymm
    (rw a.multiple.1 (b.halves_up a.multiple.0 (rw (← a.multiple.1) (sym e))))
    (rw b.multiple.1 (a.halves_up b.multiple.0 (rw (← b.multiple.1) e)))

-- BOUNDS: a rounded amount is less than a factor above the exact one.
module _ (n f : ℕ) where
  up_small : upwards n f * unit ≤ n + (f * unit - 1)
  unfolding upwards
  up_small = rw mul_assoc (omega (arith, div-mul-le_self (n + (f * unit - 1)) (f * unit)))

  down_small : downwards n f * unit ≤ n
  unfolding downwards
  down_small = rw mul_assoc (div-mul-le_self n (f * unit))

  near_small : nearest n f * unit * 2 ≤ 2 * n + f * unit
  unfolding nearest
  near_small =
      let w : ℕ = f * unit in
      let q : ℕ = (2 * n + w) / (2 * w) in
      rw mul_assoc (omega (arith, div-mul-le_self (2 * n + w) (2 * w), mul_left_comm q 2 w, mul_assoc q f unit))

either : (b : Bool) (x y : ℕ) {k : ℕ} → x * unit ≤ k → y * unit ≤ k → cond b x y * unit ≤ k
either true x y h g = h
either false x y h g = g

pub rounded_small : (mode n f : ℕ) → f ≤ 999 → rounded mode n f * unit ≤ n + 99899999
unfolding rounded
rounded_small mode n f h =
    either (eqb mode byte_plus) _ _ (omega (arith, up_small n f))
    (either (eqb mode byte_minus) _ _ (omega (arith, down_small n f))
    (either (eqb mode byte_0) _ _ (omega (arith, near_small n f)) (either (eqb mode byte_N) _ _ (omega (arith, near_small n 1)) (omega arith))))

-- MONOTONE: a smaller exact amount is not rounded to more.
quotient : (k x y : ℕ) → 0 < k → x ≤ y → x / k ≤ y / k
quotient k x y p h = (le-div_iff_mul-le p).1 (le_trans (div-mul-le_self x k) h)

module _ (n m : ℕ) (h : n ≤ m) where
  up_mono : (f : ℕ) → upwards n f ≤ upwards m f
  unfolding upwards
  up_mono zero = rw (mul-zero, mul-zero) zero-le
  up_mono (suc g) =
      let f = suc g in
      mul-le-mul_right f (quotient (f * unit) (n + (f * unit - 1)) (m + (f * unit - 1)) (omega arith) (omega arith))

  down_mono : (f : ℕ) → downwards n f ≤ downwards m f
  unfolding downwards
  down_mono zero = rw (mul-zero, mul-zero) zero-le
  down_mono (suc g) = mul-le-mul_right (suc g) (quotient (suc g * unit) n m (omega arith) h)

  near_mono : (f : ℕ) → nearest n f ≤ nearest m f
  unfolding nearest
  near_mono zero = rw (mul-zero, mul-zero) zero-le
  near_mono (suc g) =
      let f = suc g in
      mul-le-mul_right f (quotient (2 * (f * unit)) (2 * n + f * unit) (2 * m + f * unit) (omega arith) (omega arith))

  by_cases : (b : Bool) (x y x' y' : ℕ) → x ≤ x' → y ≤ y' → cond b x y ≤ cond b x' y'
  by_cases true x y x' y' l g = l
  by_cases false x y x' y' l g = g

  pub rounded_mono : (mode f : ℕ) → rounded mode n f ≤ rounded mode m f
  unfolding rounded
  rounded_mono mode f =
      by_cases (eqb mode byte_plus) _ _ _ _ (up_mono f)
      (by_cases (eqb mode byte_minus) _ _ _ _ (down_mono f)
      (by_cases (eqb mode byte_0) _ _ _ _ (near_mono f) (by_cases (eqb mode byte_N) _ _ _ _ (near_mono 1) (le_refl 0))))

-- NOTHING is rounded to nothing.
pub nothing_left : {mode f r : ℕ} → IsRounded mode 0 f r → r ≡ 0
nothing_left x =
    ⊎_elim (λ a. omega (arith, a.1.least 0 (omega arith)))
    (⊎_elim (λ a. omega (arith, a.1.not_above)) (⊎_elim (λ a. omega (arith, a.1.near 0)) (λ a. omega (arith, a.1.near 0)))) x
