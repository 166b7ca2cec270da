-- The total is the sum of the balances of all railways: in a sound book each part counts for one railway, its leg's, and a leg that is not used has no
-- part; so summed over the railways each entry comes to all its parts.
-- Assumes nothing.
use Prim.Native.Nat.{ℕ, ◌+◌, ◌≤◌, ◌<◌}
use mathlib.Core.Path.{◌≡◌, refl, sym, ◌∙◌, ap, ap₂}
use mathlib.Core.Bool.{Bool, true, false, cond}
use mathlib.Core.List.{List, [], ◌∷◌}
use mathlib.Core.Logic.{⊎_elim}
use lib.Dec.{eqb, leb}
use lib.ListN.{get_or}
use Rattle.common.specs.Lists.{sum, every, up_to}
use Rattle.common.proofs.Tests.{side, both_true, either_way, in_range}
use Rattle.common.proofs.Lists.{upto_same}
use Rattle.common.proofs.Sums.{sum_both, sum_nothing, sum_swapped, hits, one_hit}
use Rattle.layout.specs.Company.{is_railway}
use Rattle.fares.specs.declared.Question.{Question}
use Rattle.book.specs.Words.{Entry, entries, question_of, railway_at, fare_at}
use Rattle.book.specs.Sound.{entry_sound, sound_words}
use Rattle.book.specs.Amounts.{leg_part, of_railway, of_all, live_amount, balance_of}
use Rattle.book.proofs.SoundBook.{sound_entry, leg_limits, no_part, is_sound}

nothing_owed : (n : ℕ) → sum (up_to (λ r. balance_of (of_railway (r + 1)) []) n) ≡ balance_of of_all []
unfolding balance_of sum
nothing_owed n = sum_nothing n

owed_more : (f : List ℕ → List ℕ → ℕ) (e : Entry) (es : List Entry) → balance_of f (e ∷ es) ≡ live_amount f e + balance_of f es
unfolding balance_of sum
owed_more f e es = refl

both_split : (e : Entry) (es : List Entry) → every entry_sound (e ∷ es) ≡ true → (entry_sound e ≡ true) × (every entry_sound es ≡ true)
unfolding every
both_split e es g = both_true (entry_sound e) (every entry_sound es) g

-- a leg's part counts for one railway: its own, and a leg that is not used has no part
module _ (e : Entry) (g : entry_sound e ≡ true) where
  abbrev asked : List ℕ
  asked = e.asked

  abbrev q : Question
  q = question_of asked

  railway_in : (j : ℕ) → j < q.count → is_railway (get_or asked (railway_at j) 0) ≡ true
  railway_in j l =
      (both_true (is_railway (get_or asked (railway_at j) 0)) (leb (get_or asked (fare_at j) 0) 999999) (leg_limits asked (sound_entry e g).asked_well j l)).0

  abbrev railway : ℕ → ℕ
  railway j = get_or asked (railway_at j) 0

  leg_whole : (j : ℕ) → sum (up_to (λ r. leg_part (r + 1) asked e.parts j) 9999) ≡ get_or e.parts j 0
  unfolding is_railway
  leg_whole j = ⊎_elim used not_used (side j q.count)
    where
      used : j < q.count → sum (up_to (hits (railway j) (get_or e.parts j 0)) 9999) ≡ get_or e.parts j 0
      used l = let b = in_range 1 (railway j) 9999 (railway_in j l) in one_hit (railway j) (get_or e.parts j 0) 9999 b.0 b.1

      not_used : q.count ≤ j → sum (up_to (hits (railway j) (get_or e.parts j 0)) 9999) ≡ get_or e.parts j 0
      not_used l =
          let z = no_part e g j l in
          ap (λ p. sum (up_to (hits (railway j) p) 9999)) z ∙ (ap sum (upto_same (hits (railway j) 0) (λ r. 0) 9999 (λ r m. either_way (eqb (railway j) (r + 1)) 0)) ∙ (sum_nothing 9999 ∙ sym z))

  entry_whole : sum (up_to (λ r. of_railway (r + 1) asked e.parts) 9999) ≡ of_all asked e.parts
  entry_whole =
      sum_swapped (λ r j. leg_part (r + 1) asked e.parts j) 8 9999
      ∙ ap sum (upto_same (λ j. sum (up_to (λ r. leg_part (r + 1) asked e.parts j) 9999)) (λ j. get_or e.parts j 0) 8 (λ j l. leg_whole j))

  live_by : (b : Bool) → sum (up_to (λ r. cond b (of_railway (r + 1) asked e.parts) 0) 9999) ≡ cond b (of_all asked e.parts) 0
  live_by true = entry_whole
  live_by false = sum_nothing 9999

-- THE TOTAL of sound entries
balances : (es : List Entry) → every entry_sound es ≡ true → sum (up_to (λ r. balance_of (of_railway (r + 1)) es) 9999) ≡ balance_of of_all es
balances [] g = nothing_owed 9999
balances (e ∷ es) g =
    let d = both_split e es g in
    ap sum (upto_same (λ r. balance_of (of_railway (r + 1)) (e ∷ es)) (λ r. live_amount (of_railway (r + 1)) e + balance_of (of_railway (r + 1)) es) 9999 (λ r l. owed_more (of_railway (r + 1)) e es))
    ∙ (sum_both (λ r. live_amount (of_railway (r + 1)) e) (λ r. balance_of (of_railway (r + 1)) es) 9999
    ∙ (ap₂ ◌+◌ (live_by e d.0 (eqb e.status 0)) (balances es d.1) ∙ sym (owed_more of_all e es)))

pub total_is_sum : (w : List ℕ) → sound_words w ≡ true → balance_of of_all (entries w) ≡ sum (up_to (λ r. balance_of (of_railway (r + 1)) (entries w)) 9999)
total_is_sum w s = sym (balances (entries w) (is_sound w s).good)
