-- LAWS OF THE CHECK DIGIT: what doubling does to digits, that right digits count up to whole tens, and that one wrong digit is noticed.
-- Assumes nothing.
use Rattle.std.proofs.Common.{◌≡◌, ℕ, zero, suc, ◌+◌, ◌-◌, ◌/◌, ◌%◌, ◌^◌, ◌<◌, ◌≤◌, Bool, true, false, cond, eqb, leb, List, [], ◌∷◌, length, get_or, sym, refl, ap, ◌∙◌, le_of_suc-le-suc, not-suc-le-zero, div-one, arith, ext_get_or, eq-eqb, ne_eqb, eqb-true, leb-true}
use native.Mathlib.Nat.{suc_inj, div-div-eq-div-mul, pow-succ'}
use borrow.Author.Tests.{eqb-false}
use Rattle.common.specs.Lists.{every, up_to}
use Rattle.common.specs.CheckDigit.{doubled, counted, sum_from, check_digit, is_right, last_digits, AreDigits, OneWrong}
use Rattle.common.proofs.Tests.{never}
use Rattle.common.proofs.Lists.{every_at, upto_length, upto_at}

-- DOUBLING IS A PERMUTATION of the digits: there is a way back. antt computes both ways for each digit.
abbrev pub halved : ℕ → ℕ
halved v = cond (eqb (v % 2) 0) (v / 2) ((v + 9) / 2)

for_each_digit : (p : ℕ → Bool) → every p (up_to (λ k. k) 10) ≡ true → (d : ℕ) → d ≤ 9 → p d ≡ true
for_each_digit p e d l =
    let h : d < 10 = omega arith in
    rw (upto_at (λ (k : ℕ). k) 10 d 0 h) at (every_at p (up_to (λ k. k) 10) e d 0 (rw (upto_length (λ (k : ℕ). k) 10) h))

pub halved_doubled : (d : ℕ) → d ≤ 9 → halved (doubled d) ≡ d
unfolding every up_to
halved_doubled d l = eqb-true _ d (for_each_digit (λ d. eqb (halved (doubled d)) d) refl d l)

pub doubled_halved : (v : ℕ) → v ≤ 9 → doubled (halved v) ≡ v
unfolding every up_to
doubled_halved v l = eqb-true _ v (for_each_digit (λ v. eqb (doubled (halved v)) v) refl v l)

pub halved_small : (v : ℕ) → v ≤ 9 → halved v ≤ 9
unfolding every up_to
halved_small v l = leb-true (halved v) 9 (for_each_digit (λ v. leb (halved v) 9) refl v l)

-- so what a digit counts for at a place tells the digit
doubled_small : (d : ℕ) → d ≤ 9 → doubled d ≤ 9
doubled_small d l = omega arith

counted_small : (place d : ℕ) → d ≤ 9 → counted place d ≤ 9
counted_small place d l = go (eqb (place % 2) 1)
  where
    go : (odd : Bool) → cond odd (doubled d) d ≤ 9
    go true = doubled_small d l
    go false = l

tells : (place d e : ℕ) → d ≤ 9 → e ≤ 9 → counted place d ≡ counted place e → d ≡ e
tells place d e l m = go (eqb (place % 2) 1)
  where
    go : (odd : Bool) → cond odd (doubled d) d ≡ cond odd (doubled e) e → d ≡ e
    go true h = sym (halved_doubled d l) ∙ (ap halved h ∙ halved_doubled e m)
    go false h = h

-- RIGHT DIGITS count up to whole tens, the check digit at place 0 with them; and digits that do are right.
module _ (check : ℕ) (basic : List ℕ) where
  abbrev sum : ℕ
  sum = sum_from 1 basic

  pub right_counts : is_right (check ∷ basic) ≡ true → (check + sum) % 10 ≡ 0
  unfolding is_right check_digit
  right_counts e = go (eqb (sum % 10) 0) refl (eqb-true check _ e)
    where
      go : (nought : Bool) → eqb (sum % 10) 0 ≡ nought → check ≡ cond nought 0 (10 - sum % 10) → (check + sum) % 10 ≡ 0
      go true z h = omega (arith, eqb-true (sum % 10) 0 z, h)
      go false z h = omega (arith, h)

  pub counts_right : check ≤ 9 → (check + sum) % 10 ≡ 0 → is_right (check ∷ basic) ≡ true
  unfolding is_right check_digit
  counts_right l e = eq-eqb check _ (go (eqb (sum % 10) 0) refl)
    where
      go : (nought : Bool) → eqb (sum % 10) 0 ≡ nought → check ≡ cond nought 0 (10 - sum % 10)
      go true z = omega (arith, eqb-true (sum % 10) 0 z, l, e)
      go false z = let n = eqb-false (sum % 10) 0 z in omega (arith, n, l, e)

  pub right_by_units : check ≤ 9 → eqb ((check + sum) % 10) 0 ≡ is_right (check ∷ basic)
  right_by_units l = go (is_right (check ∷ basic)) refl
    where
      go : (b : Bool) → is_right (check ∷ basic) ≡ b → eqb ((check + sum) % 10) 0 ≡ b
      go true e = eq-eqb ((check + sum) % 10) 0 (right_counts e)
      go false e = ne_eqb ((check + sum) % 10) 0 (λ h. never (counts_right l h) e)

pub check_small : (basic : List ℕ) → check_digit basic ≤ 9
unfolding check_digit
check_small basic = go (eqb (sum_from 1 basic % 10) 0) refl
  where
    go : (nought : Bool) → eqb (sum_from 1 basic % 10) 0 ≡ nought → cond nought 0 (10 - sum_from 1 basic % 10) ≤ 9
    go true z = omega arith
    go false z = let n = eqb-false (sum_from 1 basic % 10) 0 z in omega (arith, n)

-- ONE WRONG DIGIT IS NOTICED, in as many digits as there are
differ : (place : ℕ) (ds typed : List ℕ) → AreDigits ds → AreDigits typed → (w : OneWrong ds typed) → sum_from place ds % 10 ≡ sum_from place typed % 10 → ⊥
unfolding sum_from
differ place ds typed a b w = go place ds typed a b w.place w.inside w.as_many w.wrong w.others
  where
    go : (place : ℕ) (ds typed : List ℕ) → AreDigits ds → AreDigits typed → (k : ℕ) → k < length ds → length ds ≡ length typed
        → (get_or ds k 0 ≡ get_or typed k 0 → ⊥) → ((j : ℕ) → (j ≡ k → ⊥) → get_or ds j 0 ≡ get_or typed j 0) → sum_from place ds % 10 ≡ sum_from place typed % 10 → ⊥
    go place [] typed a b k l m w o e = not-suc-le-zero l
    go place (x ∷ xs) [] a b k l m w o e = absurd (omega (arith, m))
    go place (x ∷ xs) (y ∷ ys) a b zero l m w o e =
        let same : sum_from (place + 1) xs ≡ sum_from (place + 1) ys = ap (sum_from (place + 1)) (ext_get_or 0 xs ys (suc_inj m) (λ j h. o (suc j) (λ z. absurd (omega (arith, z))))) in
        let f : (counted place x + sum_from (place + 1) xs) % 10 ≡ (counted place y + sum_from (place + 1) ys) % 10 = e in
        w (tells place x y (a 0) (b 0) (omega (arith, f, same, counted_small place x (a 0), counted_small place y (b 0))))
    go place (x ∷ xs) (y ∷ ys) a b (suc k) l m w o e =
        let same : counted place x ≡ counted place y = ap (counted place) (o 0 (λ z. absurd (omega (arith, z)))) in
        let f : (counted place x + sum_from (place + 1) xs) % 10 ≡ (counted place y + sum_from (place + 1) ys) % 10 = e in
        go (place + 1) xs ys (λ j. a (suc j)) (λ j. b (suc j)) k (le_of_suc-le-suc l) (suc_inj m) w (λ j h. o (suc j) (λ z. h (suc_inj z))) (omega (arith, same, f))

right_tens : (ds : List ℕ) → is_right ds ≡ true → sum_from 0 ds % 10 ≡ 0
unfolding sum_from is_right
right_tens [] e = refl
right_tens (check ∷ basic) e = right_counts check basic e

pub one_wrong_noticed : (ds typed : List ℕ) → AreDigits ds → AreDigits typed → OneWrong ds typed → is_right ds ≡ true → is_right typed ≡ true → ⊥
one_wrong_noticed ds typed a b w e f = differ 0 ds typed a b w (right_tens ds e ∙ sym (right_tens typed f))

-- THE DIGITS OF A NUMBER
pub are_digits : (n number : ℕ) → AreDigits (last_digits n number)
unfolding last_digits
are_digits zero number k = omega arith
are_digits (suc n) number zero = omega arith
are_digits (suc n) number (suc k) = are_digits n (number / 10) k

pub digits_length : (n number : ℕ) → length (last_digits n number) ≡ n
unfolding last_digits
digits_length zero number = refl
digits_length (suc n) number = ap suc (digits_length n (number / 10))

pub digit_is : (n number k : ℕ) → k < n → get_or (last_digits n number) k 0 ≡ number / 10 ^ k % 10
unfolding last_digits
digit_is zero number k l = absurd (not-suc-le-zero l)
digit_is (suc n) number zero l = ap (◌% 10) (sym (div-one number))
digit_is (suc n) number (suc k) l =
    digit_is n (number / 10) k (le_of_suc-le-suc l) ∙ ap (◌% 10) (div-div-eq-div-mul number 10 (10 ^ k) ∙ ap (number /◌) (sym (pow-succ' 10 k)))

-- SIX DIGITS, written out: what they count for, and that tens before a digit do not matter
pub six_count : (number : ℕ) → number % 10 + sum_from 1 (last_digits 5 (number / 10))
    ≡ doubled (number / 100000 % 10) + number / 10000 % 10 + doubled (number / 1000 % 10) + number / 100 % 10 + doubled (number / 10 % 10) + number % 10
unfolding sum_from last_digits
six_count number =
    rw (div-div-eq-div-mul number 10 10, div-div-eq-div-mul number 100 10, div-div-eq-div-mul number 1000 10, div-div-eq-div-mul number 10000 10)
    (go (doubled (number / 100000 % 10)) (number / 10000 % 10) (doubled (number / 1000 % 10)) (number / 100 % 10) (doubled (number / 10 % 10)) (number % 10))
  where
    go : (a b c d e check : ℕ) → check + (e + (d + (c + (b + (a + 0))))) ≡ a + b + c + d + e + check
    go a b c d e check = omega arith

add_units : (a b c d : ℕ) → a % 10 ≡ b % 10 → c % 10 ≡ d % 10 → (a + c) % 10 ≡ (b + d) % 10
add_units a b c d e f = omega (arith, e, f)

pub six_units : (number first third fifth : ℕ) → first % 10 ≡ doubled (number / 10 % 10) % 10 → third % 10 ≡ doubled (number / 1000 % 10) % 10
    → fifth % 10 ≡ doubled (number / 100000 % 10) % 10
    → (first + third + fifth + (number / 100 + number / 10000) + number % 10) % 10 ≡ (number % 10 + sum_from 1 (last_digits 5 (number / 10))) % 10
six_units number first third fifth e f g =
    go first third fifth (doubled (number / 10 % 10)) (doubled (number / 1000 % 10)) (doubled (number / 100000 % 10)) (number / 100) (number / 10000) (number % 10) e f g
    ∙ ap (◌% 10) (sym (six_count number))
  where
    in_order : (a b c d e check : ℕ) → a + c + e + (b + d) + check ≡ e + d + c + b + a + check
    in_order a b c d e check = omega arith

    go : (a c e a' c' e' b d check : ℕ) → a % 10 ≡ a' % 10 → c % 10 ≡ c' % 10 → e % 10 ≡ e' % 10
        → (a + c + e + (b + d) + check) % 10 ≡ (e' + d % 10 + c' + b % 10 + a' + check) % 10
    go a c e a' c' e' b d check i j k =
        let odd = add_units (a + c) (a' + c') e e' (add_units a a' c c' i j) k in
        let even = add_units b (b % 10) d (d % 10) (omega arith) (omega arith) in
        add_units (a + c + e + (b + d)) (a' + c' + e' + (b % 10 + d % 10)) check check (add_units (a + c + e) (a' + c' + e') (b + d) (b % 10 + d % 10) odd even) refl
        ∙ ap (◌% 10) (in_order a' (b % 10) c' (d % 10) e' check)
