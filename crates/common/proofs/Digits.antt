-- Laws of decimal numbers: one digit more, the end, how large a number can be, and that it tells its digits.
-- Assumes nothing.
use Rattle.std.proofs.Common.{◌≡◌, ℕ, suc, Option, Some, None, ◌+◌, ◌-◌, ◌*◌, ◌^◌, ◌<◌, ◌≤◌, Bool, true, false, cond, ltb, List, [], ◌∷◌, length, get_or, drop, refl, ap₂, ◌∙◌, lt_of_lt_of_le, add-zero, pow-suc, add-one, arith, drop_of_length-le, drop-cons}
use native.Mathlib.Nat.{one-le-pow, suc_inj, pow-le-pow_right}
use Rattle.common.specs.Digits.{digits_after, number_of, value_of, is_digit, digit_of, is_within, digit_0, digit_9}
use Rattle.common.proofs.Tests.{never, in_range}

digits_step : (v : ℕ) (s : List ℕ) (i : ℕ) → i < length s
    → digits_after v (drop i s) ≡ cond (is_digit (get_or s i 0)) (digits_after (v * 10 + (get_or s i 0 - digit_0)) (drop (i + 1) s)) None
unfolding digits_after
digits_step v s i h = rw (add-one, drop-cons s i 0 h)

-- one byte more is a digit that the number goes on with, or is none, and then there is no number
is_said : (b : Bool) (x : ℕ) {d : ℕ} → cond b (Some x) None ≡ Some d → (b ≡ true) × (x ≡ d)
is_said true x e = (refl, cc)
is_said false x e = (cc, cc)

not_said : (b : Bool) (x : ℕ) → cond b (Some x) None ≡ None → b ≡ false
not_said true x e = cc
not_said false x e = refl

pub digits_more : (v : ℕ) (s : List ℕ) (i : ℕ) {d : ℕ} → i < length s → digit_of (get_or s i 0) ≡ Some d
    → (d ≤ 9) × (digits_after v (drop i s) ≡ digits_after (v * 10 + d) (drop (i + 1) s))
digits_more v s i h e =
    let f = is_said (is_digit (get_or s i 0)) _ e in
    (omega (arith, f.1, in_range digit_0 (get_or s i 0) digit_9 f.0), digits_step v s i h ∙ rw (f.0, f.1))

pub digits_stop : (v : ℕ) (s : List ℕ) (i : ℕ) → i < length s → digit_of (get_or s i 0) ≡ None → digits_after v (drop i s) ≡ None
digits_stop v s i h e = digits_step v s i h ∙ rw (not_said (is_digit (get_or s i 0)) _ e)

pub digits_end : (v : ℕ) (s : List ℕ) (i : ℕ) → length s ≤ i → digits_after v (drop i s) ≡ Some v
unfolding digits_after
digits_end v s i h = rw (drop_of_length-le s h)

-- one digit more
pub grows : (v i d : ℕ) → v < 10 ^ i → d ≤ 9 → v * 10 + d < 10 ^ (i + 1)
grows v i d h e = rw (add-one, pow-suc) (omega arith)

-- at most nine digits fit
pub small : (v i d : ℕ) → v < 10 ^ i → d ≤ 9 → i ≤ 8 → v * 10 + d < 10 ^ 9
small v i d h e l = lt_of_lt_of_le (grows v i d h e) (pow-le-pow_right {n = 10} (omega arith) {i = i + 1} {j = 9} (omega arith))

ten_pos : (k : ℕ) → 0 < 10 ^ k
ten_pos k = one-le-pow k 10 (omega arith)

-- as many digits as there are bytes
after_cond : (b : Bool) (x : Option ℕ) {n : ℕ} → 0 < n → (b ≡ true → value_of x < n) → value_of (cond b x None) < n
after_cond true x z f = f refl
after_cond false x z f = z

after_small : (s : List ℕ) (v i : ℕ) → v < 10 ^ i → value_of (digits_after v s) < 10 ^ (i + length s)
unfolding digits_after
after_small [] v i h = rw add-zero h
after_small (b ∷ s) v i h =
    after_cond (is_digit b) (digits_after (v * 10 + (b - digit_0)) s) (ten_pos (i + length (b ∷ s)))
    (λ e. let q : i + 1 + length s ≡ i + suc (length s) = omega arith in
    rw (← q) (after_small s (v * 10 + (b - digit_0)) (i + 1) (grows v i (b - digit_0) h (omega (arith, in_range digit_0 b digit_9 e)))))

cond_small : (b : Bool) (x : Option ℕ) {n : ℕ} → 0 < n → value_of x < n → value_of (cond b None x) < n
cond_small true x z h = z
cond_small false x z h = h

pub number_small : (s : List ℕ) (k : ℕ) → length s ≤ k → value_of (number_of s) < 10 ^ k
unfolding number_of
number_small s k l =
    lt_of_lt_of_le (cond_small (ltb 9 (length s)) (digits_after 0 s) (ten_pos (0 + length s)) (after_small s 0 0 (omega arith)))
    (pow-le-pow_right {n = 10} (omega arith) {i = 0 + length s} {j = k} (omega arith))

-- a number within limits
pub within_value : (lowest highest : ℕ) (n : Option ℕ) → is_within lowest highest n ≡ true → (lowest ≤ value_of n) × (value_of n ≤ highest)
within_value lowest highest (Some v) e = in_range lowest v highest e
within_value lowest highest None e = never e refl

-- what says a number starts with a digit, and has at most nine of them
said : (b : Bool) (x : Option ℕ) {v : ℕ} → cond b x None ≡ Some v → (b ≡ true) × (x ≡ Some v)
said true x e = (refl, e)
said false x e = (cc, cc)

in_nine : (b : Bool) (x : Option ℕ) {v : ℕ} → cond b None x ≡ Some v → x ≡ Some v
in_nine true x e = cc
in_nine false x e = e

-- after any two numbers, lists of one length that go on to the same number are the same, and so were the numbers
after_same : (a b : List ℕ) (u w : ℕ) {v : ℕ} → length a ≡ length b → digits_after u a ≡ Some v → digits_after w b ≡ Some v → (u ≡ w) × (a ≡ b)
unfolding digits_after
after_same [] [] u w l p q = (cc, refl)
after_same [] (y ∷ b) u w l p q = absurd (omega arith)
after_same (x ∷ a) [] u w l p q = absurd (omega arith)
after_same (x ∷ a) (y ∷ b) u w l p q =
    let c = said (is_digit x) _ p in
    let d = said (is_digit y) _ q in
    let h = after_same a b _ _ (suc_inj l) c.1 d.1 in
    let e = in_range digit_0 x digit_9 c.0 in
    let f = in_range digit_0 y digit_9 d.0 in
    (omega arith, ap₂ ◌∷◌ (omega arith) h.1)

-- Two lists of digits of one length that say the same number are the same.
pub digits_same : (a b : List ℕ) (v : ℕ) → length a ≡ length b → number_of a ≡ Some v → number_of b ≡ Some v → a ≡ b
unfolding number_of
digits_same a b v l p q = (after_same a b 0 0 l (in_nine (ltb 9 (length a)) _ p) (in_nine (ltb 9 (length b)) _ q)).1

-- two numbers within limits, of equally many digits, that say the same are the same digits
is_number : (lowest highest : ℕ) (n : Option ℕ) → is_within lowest highest n ≡ true → n ≡ Some (value_of n)
is_number lowest highest (Some v) e = refl
is_number lowest highest None e = never e refl

pub within_same : (lowest highest : ℕ) (a b : List ℕ) → length a ≡ length b → is_within lowest highest (number_of a) ≡ true → is_within lowest highest (number_of b) ≡ true
    → value_of (number_of a) ≡ value_of (number_of b) → a ≡ b
within_same lowest highest a b l p q e =
    digits_same a b (value_of (number_of a)) l (is_number lowest highest (number_of a) p) (rw e (is_number lowest highest (number_of b) q))
