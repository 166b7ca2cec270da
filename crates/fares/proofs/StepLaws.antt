-- One step and a chain of steps: at most 998 cents are added a step; a smaller amount and a larger discount give no more.
-- Assumes nothing.
use Prim.Native.Nat.{ℕ, zero, suc, ◌+◌, ◌-◌, ◌*◌, ◌≤◌}
use mathlib.Core.Path.{◌≡◌, refl}
use mathlib.Core.Bool.{Bool, true, false, cond}
use mathlib.Core.List.{List, [], ◌∷◌}
use native.Mathlib.Nat.{mul-le-mul, mul-le-mul_left, le_trans, le_refl}
use native.Mathlib.Omega.{arith}
use lib.Dec.{leb}
use lib.ListN.{length, length-take}
use borrow.Author.Tests.{leb-true, leb-false}
use Rattle.common.proofs.Digits.{number_small}
use Rattle.layout.specs.Layout.{CO, AR, table_at}
use Rattle.layout.specs.declared.Table.{Table}
use Rattle.layout.specs.Fields.{row_with, row_of, bytes_of, number_in, grant_in}
use Rattle.layout.specs.declared.fields.Grant.{Grant}
use Rattle.fares.specs.Rounding.{unit}
use Rattle.fares.specs.Reductions.{conditions_grant, card_grants, reduce_by, reduce_all, greater, steps_for, part_bound}
use Rattle.fares.proofs.RoundLaws.{rounded_small, rounded_mono}

-- a number of three digits is at most 999: the factors of CO and AR, and the rating and the code of an AR
three_digits : (t : Table) (f : ℕ) (body : List ℕ) → (row_of t f).length ≡ 3 → number_in t f body ≤ 999
unfolding number_in bytes_of
three_digits t f body e =
    let l : length (bytes_of t f body) ≤ 3 = rw (e, length-take) (omega arith) in
    omega (arith, number_small (bytes_of t f body) 3 l)

module _ (body : List ℕ) where
  pub conditions_small : (conditions_grant body).factor ≤ 999
  unfolding grant_in row_of row_with table_at
  conditions_small = three_digits CO 41 body refl

  pub card_small : (card_grants body).factor ≤ 999
  unfolding grant_in row_of row_with table_at
  card_small = three_digits AR 10 body refl

  pub rating_small : number_in AR 7 body ≤ 999
  unfolding row_of row_with table_at
  rating_small = three_digits AR 7 body refl

  pub code_small : number_in AR 4 body ≤ 999
  unfolding row_of row_with table_at
  code_small = three_digits AR 4 body refl

module _ (r : Grant) where
  pub step_small : r.factor ≤ 999 → (a : ℕ) → reduce_by a r ≤ a + 998
  unfolding reduce_by
  step_small h a =
      let g : unit - r.discount ≤ unit = omega arith in
      omega (arith, rounded_small r.mode (a * (unit - r.discount)) r.factor h, mul-le-mul_left a g)

  pub step_mono : (a b : ℕ) → a ≤ b → reduce_by a r ≤ reduce_by b r
  unfolding reduce_by
  step_mono a b h =
      rounded_mono (a * (unit - r.discount)) (b * (unit - r.discount)) (mul-le-mul h (le_refl (unit - r.discount))) r.mode r.factor

-- the same record with another discount
abbrev pub granting : ℕ → Grant → Grant
granting d r = record { discount = d; mode = r.mode; factor = r.factor }

pub step_anti : (a d e : ℕ) (r : Grant) → d ≤ e → reduce_by a (granting e r) ≤ reduce_by a (granting d r)
unfolding reduce_by
step_anti a d e r h =
    let g : unit - e ≤ unit - d = omega arith in
    rounded_mono (a * (unit - e)) (a * (unit - d)) (mul-le-mul_left a g) r.mode r.factor

-- every factor of a chain is at most 999
pub data Granted : List Grant → Type 0 where
  none : Granted []
  more : {r : Grant} {rs : List Grant} → r.factor ≤ 999 → Granted rs → Granted (r ∷ rs)

pub all_small : (rs : List Grant) → Granted rs → (a : ℕ) → reduce_all a rs ≤ a + 998 * length rs
unfolding reduce_all
all_small [] g a = omega arith
all_small (r ∷ rs) (more h g) a = omega (arith, all_small rs g (reduce_by a r), step_small r h a)

pub all_mono : (rs : List Grant) (a b : ℕ) → a ≤ b → reduce_all a rs ≤ reduce_all b rs
unfolding reduce_all
all_mono [] a b h = h
all_mono (r ∷ rs) a b h = all_mono rs (reduce_by a r) (reduce_by b r) (step_mono r a b h)

-- chains of the same records, the discounts of the first nowhere below those of the second
pub data Raised : List Grant → List Grant → Type 0 where
  none : Raised [] []
  more : {d e : ℕ} (r : Grant) {rs qs : List Grant} → d ≤ e → Raised rs qs → Raised (granting e r ∷ rs) (granting d r ∷ qs)

pub all_anti : (rs qs : List Grant) → Raised rs qs → (a : ℕ) → reduce_all a rs ≤ reduce_all a qs
unfolding reduce_all
all_anti rs qs none a = le_refl a
all_anti rs qs (more {d} {e} r {rs = rs'} {qs = qs'} h g) a =
    le_trans (all_mono rs' (reduce_by a (granting e r)) (reduce_by a (granting d r)) (step_anti a d e r h)) (all_anti rs' qs' g (reduce_by a (granting d r)))

-- the greater of two
pub greater_is : (a b : ℕ) → (a ≤ greater a b) × (b ≤ greater a b)
greater_is a b = go (leb a b) refl
  where
    go : (t : Bool) → leb a b ≡ t → (a ≤ cond t b a) × (b ≤ cond t b a)
    go true e = (leb-true a b e, le_refl b)
    go false e = (le_refl a, omega (arith, leb-false a b e))

-- one card is always counted
pub bound_of_one : (cards : ℕ) → cards ≤ 1 → 99197505 ≡ part_bound cards
bound_of_one zero l = refl
bound_of_one (suc zero) l = refl
bound_of_one (suc (suc n)) l = absurd (omega arith)

-- the bound grows with the cards
greater_grows : (a b : ℕ) → a ≤ b → greater 1 a ≤ greater 1 b
greater_grows a b l = go (leb 1 a)
  where
    go : (t : Bool) → cond t a 1 ≤ greater 1 b
    go true = le_trans l (greater_is 1 b).1
    go false = (greater_is 1 b).0

pub bound_grows : (a b : ℕ) → a ≤ b → part_bound a ≤ part_bound b
bound_grows a b l = omega (arith, greater_grows a b l)

-- THE BOUND on a part: at most 99 persons, each with the steps of so many cards from at most 999,999 cents
pub part_small : (cards amount persons : ℕ) → amount ≤ 999999 + 998 * steps_for cards → persons ≤ 99 → amount * persons ≤ part_bound cards
part_small cards amount persons a hp = omega (arith, mul-le-mul a hp)
