-- What is counted is what is due: the words of a sale count what is due from its question, for a railway and for all, and a sound book comes to what is
-- due from the questions of its live entries.
-- Assumes nothing.
use Prim.Native.Nat.{ℕ, zero, suc, ◌+◌, ◌-◌, ◌≤◌, ◌<◌}
use mathlib.Core.Path.{◌≡◌, refl, sym, ◌∙◌, ap, ap₂}
use mathlib.Core.Bool.{Bool, true, cond}
use mathlib.Core.List.{List, [], ◌∷◌}
use native.Mathlib.Nat.{add-zero}
use native.Mathlib.Omega.{arith}
use lib.Dec.{eqb}
use lib.ListN.{get_or}
use Rattle.common.specs.Lists.{every, sum, up_to}
use Rattle.common.proofs.Lists.{upto_same}
use Rattle.common.proofs.Sums.{sum_up}
use Rattle.common.proofs.Tests.{both_true, either_way}
use Rattle.fares.specs.Question.{no_leg}
use Rattle.fares.specs.declared.Leg.{Leg}
use Rattle.fares.specs.declared.Question.{Question}
use Rattle.book.specs.Words.{Entry, railway_at, question_words, question_of, entries}
use Rattle.book.specs.Amounts.{leg_part, of_railway, of_all, balance_of}
use Rattle.book.specs.Due.{carried_by, any_leg, due_from, due_in}
use Rattle.book.specs.Sound.{entry_sound, sound_words}
use Rattle.book.proofs.ComparedWords.{used_said}
use Rattle.book.proofs.QuestionWords.{asked_again}
use Rattle.book.proofs.SoundBook.{sound_entry, few_legs, no_part, is_sound}

-- a count over words is one over legs: what it makes of a question's words is due from the question
pub record Counts (f : List ℕ → List ℕ → ℕ) (legs : Leg → Bool) : Type 0 where
  pub as_due : (q : Question) (parts : List ℕ) → q.count ≤ 8 → ((k : ℕ) → q.count ≤ k → get_or parts k 0 ≡ 0) → f (question_words q) parts ≡ due_from legs q parts

-- what is zero from n on adds nothing there
zeros_behind : (f : ℕ → ℕ) (n : ℕ) → ((k : ℕ) → n ≤ k → f k ≡ 0) → (m : ℕ) → sum (up_to f (n + m)) ≡ sum (up_to f n)
zeros_behind f n z zero = rw add-zero
zeros_behind f n z (suc m) =
    let e : n + suc m ≡ n + m + 1 = omega arith in
    rw (e, sum_up f (n + m)) (omega (arith, z (n + m) (omega arith), zeros_behind f n z m))

module _ (q : Question) where
  railway_said : (k : ℕ) → k < q.count → k < 8 → get_or (question_words q) (railway_at k) 0 ≡ (get_or q.legs k no_leg).railway
  railway_said k l m = ap (λ leg. leg.railway) (used_said q k l m)

  module _ (parts : List ℕ) (few : q.count ≤ 8) (unused : (k : ℕ) → q.count ≤ k → get_or parts k 0 ≡ 0) where
    -- over the eight slots as over the legs
    over_legs : (f g : ℕ → ℕ) → ((k : ℕ) → k < q.count → f k ≡ g k) → ((k : ℕ) → q.count ≤ k → f k ≡ 0) → sum (up_to f 8) ≡ sum (up_to g q.count)
    over_legs f g e z =
        let n : 8 ≡ q.count + (8 - q.count) = omega arith in
        ap (λ m. sum (up_to f m)) n ∙ (zeros_behind f q.count z (8 - q.count) ∙ ap sum (upto_same f g q.count e))

    all_due : of_all (question_words q) parts ≡ due_from any_leg q parts
    unfolding due_from
    all_due = over_legs (λ j. get_or parts j 0) _ (λ k l. refl) unused

    railway_due : (railway : ℕ) → of_railway railway (question_words q) parts ≡ due_from (carried_by railway) q parts
    unfolding due_from
    railway_due railway =
        over_legs (leg_part railway (question_words q) parts) _ (λ k l. ap (λ r. cond (eqb r railway) (get_or parts k 0) 0) (railway_said k l (omega arith)))
        (λ k l. let own = eqb (get_or (question_words q) (railway_at k) 0) railway in
        ap (λ p. cond own p 0) (unused k l) ∙ either_way own 0)

-- THE LAW for a sale, of a railway and of all
pub counts_railway : (railway : ℕ) → Counts (of_railway railway) (carried_by railway)
counts_railway railway = record { as_due = λ q parts few unused. railway_due q parts few unused railway }

pub counts_all : Counts of_all any_leg
counts_all = record { as_due = all_due }

-- THE LAW for a sound book: what it comes to is due from the questions of its entries that are not cancelled
module _ {f : List ℕ → List ℕ → ℕ} {legs : Leg → Bool} (c : Counts f legs) where
  entry_due : (e : Entry) → entry_sound e ≡ true → f e.asked e.parts ≡ due_from legs (question_of e.asked) e.parts
  entry_due e g =
      let a = (sound_entry e g).asked_well in
      ap (λ ws. f ws e.parts) (sym (asked_again e.asked a)) ∙ c.as_due (question_of e.asked) e.parts (few_legs e.asked a) (no_part e g)

  entries_due : (es : List Entry) → every entry_sound es ≡ true → balance_of f es ≡ due_in legs es
  unfolding balance_of sum every
  entries_due [] g = refl
  entries_due (e ∷ es) g =
      let b = both_true (entry_sound e) (every entry_sound es) g in
      ap₂ ◌+◌ (ap (λ n. cond (eqb e.status 0) n 0) (entry_due e b.0)) (entries_due es b.1)

pub balance_due : (w : List ℕ) → sound_words w ≡ true → (railway : ℕ) → balance_of (of_railway railway) (entries w) ≡ due_in (carried_by railway) (entries w)
balance_due w s railway = entries_due (counts_railway railway) (entries w) (is_sound w s).good

pub total_due : (w : List ℕ) → sound_words w ≡ true → balance_of of_all (entries w) ≡ due_in any_leg (entries w)
total_due w s = entries_due counts_all (entries w) (is_sound w s).good
