-- What the tests of the rules mean: each comes out true exactly where a fact holds that names no test and no search.
-- Assumes nothing.
use Prim.Native.Nat.{ℕ, ◌≤◌, ◌<◌}
use mathlib.Core.Path.{◌≡◌, refl, sym, ◌∙◌, ap}
use mathlib.Core.Bool.{Bool, true, false, cond, not, ◌&&◌, ◌||◌}
use mathlib.Core.List.{List, [], ◌∷◌}
use mathlib.Core.Logic.{◌⊎◌, inl, inr, ⊎_elim, ◌↔◌}
use native.Mathlib.Omega.{arith}
use lib.Dec.{eqb, leb}
use lib.ListN.{length, get_or}
use borrow.Author.Tests.{eqb-true, eqb-false, eq-eqb, ne_eqb, le-leb, leb-true, not-true}
use Rattle.common.specs.Lists.{every}
use Rattle.common.specs.Digits.{number_of, digits_after, value_of, is_within}
use Rattle.std.specs.Prelude.{Option, Some, None}
use Rattle.common.proofs.Tests.{never, both_true, in_range, side, refuted}
use Rattle.common.proofs.Lists.{every_at, every_by, same_is, is_same}
use Rattle.common.proofs.Digits.{digits_same}
use Rattle.layout.specs.Bytes.{is_text, is_blank, byte_N, byte_0}
use Rattle.layout.specs.Company.{is_company, is_all_railways, is_transferor}
use Rattle.layout.specs.Dates.{is_day}
use Rattle.layout.specs.Rules.{factor_rule}
use Rattle.layout.specs.Calendar.{RealDay}
use Rattle.layout.specs.Values.{Each, Blank, Text, Number, Within}
use Rattle.layout.proofs.Calendar.{a_day_is_real, real_is_a_day}

-- A TEST MEANS a fact if it comes out true exactly where the fact holds.
infix 2 ◌means◌
abbrev pub ◌means◌ : Bool → Type 0 → Type 0
b means A = (b ≡ true) ↔ A

pub equal : (a b : ℕ) → eqb a b means (a ≡ b)
equal a b = (eqb-true a b, eq-eqb a b)

pub between : (lowest n highest : ℕ) → (leb lowest n && leb n highest) means Within lowest highest n
between lowest n highest = (in_range lowest n highest, λ w. rw (le-leb lowest n w.0, le-leb n highest w.1))

pub either : {A B : Type 0} (a b : Bool) → (a means A) → (b means B) → (a || b) means (A ⊎ B)
either true b f g = (λ e. inl (f.0 refl), λ w. refl)
either false b f g = (λ e. inr (g.0 e), λ w. ⊎_elim (λ x. never (f.1 x) refl) g.1 w)

each_byte : (p : ℕ → Bool) (P : ℕ → Type 0) → ((b : ℕ) → p b means P b) → (s : List ℕ) → every p s means Each P s
each_byte p P f s = (λ e i h. (f (get_or s i 0)).0 (every_at p s e i 0 h), λ g. every_by p 0 s (λ i h. (f (get_or s i 0)).1 (g i h)))

pub blank_means : (s : List ℕ) → every is_blank s means Blank s
blank_means = each_byte is_blank _ (λ b. equal b _)

pub text_means : (s : List ℕ) → every is_text s means Text s
text_means = each_byte is_text _ (λ b. either _ _ (between 32 b 126) (between 160 b 255))

-- NUMBERS
is_inj : {v n : ℕ} → Some v ≡ Some n → v ≡ n
is_inj e = cc

no_number_lem : {A : Type 0} {n : ℕ} → None ≡ Some n → A
no_number_lem e = let z : ◌≡◌ {A = ℕ} 0 1 = cc in absurd (omega arith)

pub within_means : (lowest highest : ℕ) (m : Option ℕ) → is_within lowest highest m means ((n : ℕ) × (m ≡ Some n) × Within lowest highest n)
within_means lowest highest (Some v) =
    (λ e. (v, refl, in_range lowest v highest e), λ w. rw (is_inj w.1) ((between lowest w.0 highest).1 w.2))
within_means lowest highest None = (λ e. never e refl, λ w. no_number_lem w.1)

pub both : (a b : Bool) → a ≡ true → b ≡ true → (a && b) ≡ true
both a b e f = rw (e, f)

-- four digits that are not 0000 say a number above 0
zeros : List ℕ
zeros = byte_0 ∷ byte_0 ∷ byte_0 ∷ byte_0 ∷ []

says_0 : (s : List ℕ) (n : ℕ) → length s ≡ 4 → number_of s ≡ Some n → n < 1 → is_all_railways s ≡ true
unfolding is_all_railways number_of digits_after zeros
says_0 s n l e h = let z : n ≡ 0 = omega arith in is_same s zeros (digits_same s zeros 0 l (e ∙ ap Some z) refl)

not_0 : (s : List ℕ) (n : ℕ) → number_of s ≡ Some n → 1 ≤ n → is_all_railways s ≡ false
unfolding is_all_railways number_of digits_after zeros
not_0 s n e h = refuted (is_all_railways s) (λ a. let z : 0 ≡ n = is_inj (ap number_of (sym (same_is s zeros a)) ∙ e) in omega arith)

pub transferor_means : (s : List ℕ) → length s ≡ 4 → is_transferor s means Number (Within 1 9999) s
unfolding is_transferor is_company
transferor_means s l = (
  λ e. let b = both_true (not (is_all_railways s)) (is_company s) e in
      let w = (within_means 0 9999 (number_of s)).0 b.1 in
      let some : 1 ≤ w.0 = ⊎_elim (λ h. never (says_0 s w.0 l w.1 h) (not-true (is_all_railways s) b.0)) (λ h. h) (side w.0 1) in
      (w.0, w.1, (some, w.2.1)),
  λ w. both (not (is_all_railways s)) (is_company s) (rw (not_0 s w.0 w.1 w.2.0)) ((within_means 0 9999 (number_of s)).1 (w.0, w.1, (omega arith, w.2.1))),
)

-- MOST PERSONS, held to the fewest
pub most_number : (fewest : ℕ) (m : Option ℕ) → (is_within 1 99 m && (eqb (value_of m) 99 || leb fewest (value_of m)))
    means ((n : ℕ) × (m ≡ Some n) × (Within 1 99 n × (n ≤ 98 → fewest ≤ n)))
most_number fewest (Some v) = (
  λ e. let b = both_true (leb 1 v && leb v 99) _ e in
      (v, refl, (in_range 1 v 99 b.0, λ h. leb-true fewest v (rw (ne_eqb v 99 (λ z. omega arith)) at b.1))),
  λ w. rw (is_inj w.1) (both _ _ ((between 1 w.0 99).1 w.2.0) (⊎_elim
      (λ h. rw (ne_eqb w.0 99 (λ z. omega arith)) (le-leb _ _ (w.2.1 (omega arith))))
      (λ h. rw (eq-eqb w.0 99 (omega (arith, w.2.0.1)))) (side w.0 99))),
)
most_number fewest None = (λ e. never e refl, λ w. no_number_lem w.1)

-- THE FACTOR, held to the rounding
pub factor_means : (mode : ℕ) (s : List ℕ) → factor_rule mode s means Number (λ n. (n ≤ 999) × ((mode ≡ byte_N → ⊥) → 1 ≤ n)) s
unfolding factor_rule
factor_means mode s = go (eqb mode byte_N) refl
  where
    go : (b : Bool) → eqb mode byte_N ≡ b → is_within (cond b 0 1) 999 (number_of s) means Number (λ n. (n ≤ 999) × ((mode ≡ byte_N → ⊥) → 1 ≤ n)) s
    go true e = let f = within_means 0 999 (number_of s) in (
      λ h. let w = f.0 h in (w.0, w.1, (w.2.1, λ other. absurd (other (eqb-true mode byte_N e)))),
      λ w. f.1 (w.0, w.1, (omega arith, w.2.0)),
    )
    go false e = let f = within_means 1 999 (number_of s) in (
      λ h. let w = f.0 h in (w.0, w.1, (w.2.1, λ other. w.2.0)),
      λ w. f.1 (w.0, w.1, (w.2.1 (eqb-false mode byte_N e), w.2.0)),
    )

-- DAYS, and the last held to the first
pub day_means : (m : Option ℕ) → is_day (value_of m) means ((n : ℕ) × (m ≡ Some n) × RealDay n)
unfolding is_day
day_means (Some v) = (λ e. (v, refl, a_day_is_real v e), λ w. rw (is_inj w.1) (real_is_a_day _ w.2))
day_means None = (λ e. never e refl, λ w. no_number_lem w.1)

pub last_means : (first : ℕ) (m : Option ℕ) → (is_day (value_of m) && leb first (value_of m)) means ((n : ℕ) × (m ≡ Some n) × (RealDay n × (first ≤ n)))
last_means first m = (
  λ e. let b = both_true (is_day (value_of m)) _ e in
      let w = (day_means m).0 b.0 in
      (w.0, w.1, (w.2, rw w.1 at (leb-true first (value_of m) b.1))),
  λ w. both _ _ ((day_means m).1 (w.0, w.1, w.2.0)) (rw w.1 (le-leb _ _ w.2.1)),
)
