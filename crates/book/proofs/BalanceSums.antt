-- What an entry and a book come to, as the code adds it up: a turn for each leg and for each entry. Each sum fits, since each word is at most 4,294,967,295.
-- Assumes nothing.
use Prim.Native.Nat.{ℕ, ◌+◌, ◌*◌, ◌≤◌, ◌<◌}
use mathlib.Core.Path.{◌≡◌, refl, sym, ◌∙◌, ap}
use mathlib.Core.Bool.{Bool, true, false, cond}
use mathlib.Core.List.{List, [], ◌∷◌, map, map-append}
use native.Mathlib.Numerals.{add-one}
use native.Mathlib.Omega.{arith}
use lib.Dec.{eqb}
use lib.ListN.{get_or}
use Rattle.std.proofs.Common.{Option, Some, None}
use Rattle.common.specs.Lists.{sum, up_to}
use Rattle.common.proofs.Sums.{sum_append, sum_up_small}
use Rattle.book.specs.Words.{Entry, count_of, railway_at, entry_of, entry_words, entry_at, entries, asked_at, parts_at, start_of, legs_at, leg_width}
use Rattle.book.specs.Amounts.{live_amount, balance_of}
use Rattle.book.specs.Helpers.{counts_for, counted}
use Rattle.book.proofs.SoundBook.{most}
use Rattle.book.proofs.EntryWords.{word_at, part_at, railway_at_lem}

-- what leg j of an entry comes to for a railway, or for all: its part if it counts, and else nothing
abbrev pub counted_part : Option ℕ → List ℕ → List ℕ → ℕ → ℕ
counted_part railway asked parts j = cond (counts_for railway (get_or asked (railway_at j) 0)) (get_or parts j 0) 0

module _ (b : List ℕ) (railway : Option ℕ) (j : ℕ) (l : j < 8) where
  pub leg_counts : {c : Bool} → c ≡ counts_for railway (get_or b (asked_at + legs_at + leg_width * j) 0) → c ≡ true
      → counted_part railway (entry_of b).asked (entry_of b).parts j ≡ get_or b (parts_at + j) 0
  leg_counts e t = rw (railway_at_lem b j l, sym e ∙ t) (part_at b j l)

  pub leg_counts_not : {c : Bool} → c ≡ counts_for railway (get_or b (asked_at + legs_at + leg_width * j) 0) → c ≡ false
      → counted_part railway (entry_of b).asked (entry_of b).parts j ≡ 0
  leg_counts_not e t = rw (railway_at_lem b j l, sym e ∙ t)

-- and over the eight legs
pub counted_is : (railway : Option ℕ) (asked parts : List ℕ) → sum (up_to (counted_part railway asked parts) 8) ≡ counted railway asked parts
counted_is None asked parts = refl
counted_is (Some railway) asked parts = refl

-- AN ENTRY'S SHARE of a book is small, since each word is
cond_small : (t : Bool) (x m : ℕ) → x ≤ m → cond t x 0 ≤ m
cond_small true x m l = l
cond_small false x m l = omega arith

abbrev pub most_of : ℕ
most_of = 8 * most

-- what counts of an entry of the book is at most eight words
abbrev pub Small : List ℕ → (List ℕ → List ℕ → ℕ) → Type 0
Small w f = (i : ℕ) → f (entry_at w i).asked (entry_at w i).parts ≤ most_of

module _ (w : List ℕ) (words_Small : (k : ℕ) → get_or w k 0 ≤ most) where
  part_small : (i j : ℕ) → j < 8 → get_or (entry_at w i).parts j 0 ≤ most
  part_small i j l =
      rw (part_at (entry_words w i) j l, word_at w i (parts_at + j) (omega arith)) (words_Small (start_of i + (parts_at + j)))

  pub counted_small : (railway : Option ℕ) → Small w (counted railway)
  counted_small railway i =
      let e = entry_at w i in
      rw (← counted_is railway e.asked e.parts)
      (sum_up_small (counted_part railway e.asked e.parts) most 8
      (λ j l. cond_small (counts_for railway (get_or e.asked (railway_at j) 0)) (get_or e.parts j 0) most (part_small i j l)))

-- A BALANCE: nothing, one entry more
module _ (f : List ℕ → List ℕ → ℕ) where
  pub balance_none : (g : ℕ → Entry) → balance_of f (up_to g 0) ≡ 0
  unfolding balance_of up_to sum
  balance_none g = refl

  pub balance_more : (g : ℕ → Entry) (i : ℕ) → balance_of f (up_to g (i + 1)) ≡ balance_of f (up_to g i) + live_amount f (g i)
  unfolding balance_of up_to sum
  balance_more g i =
      rw (add-one, map-append (live_amount f) (up_to g i) (g i ∷ [])) (omega (arith, sum_append (map (live_amount f) (up_to g i)) (live_amount f (g i) ∷ [])))

  pub live_small : (w : List ℕ) → Small w f → (i : ℕ) → live_amount f (entry_at w i) ≤ most_of
  live_small w s i = cond_small (eqb (entry_at w i).status 0) (f (entry_at w i).asked (entry_at w i).parts) most_of (s i)

-- THE SUM over the entries before i, and its turn: what entry i comes to is added
abbrev pub Summed : (List ℕ → List ℕ → ℕ) → List ℕ → ℕ → ℕ → Type 0
Summed f w i total = (total ≤ i * most_of) × (total ≡ balance_of f (up_to (entry_at w) i))

module _ (f : List ℕ → List ℕ → ℕ) (w : List ℕ) where
  pub sum_start : Summed f w 0 0
  sum_start = (omega arith, sym (balance_none f (entry_at w)))

  pub sum_turn : Small w f → (i total r : ℕ) → Summed f w i total → r ≡ live_amount f (entry_at w i) → Summed f w (i + 1) (total + r)
  sum_turn s i total r t e = (omega (arith, live_small f w s i), omega (arith, balance_more f (entry_at w) i))

  pub sum_end : (i total : ℕ) → i ≡ count_of w → Summed f w i total → total ≡ balance_of f (entries w)
  unfolding entries
  sum_end i total e t = t.1 ∙ ap (λ n. balance_of f (up_to (entry_at w) n)) e
