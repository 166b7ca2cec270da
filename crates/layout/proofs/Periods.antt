-- PERIODS share a day exactly if the later first day is not after the earlier last day.
-- Assumes nothing.
use Prim.Native.Nat.{ℕ, ◌≤◌, ◌<◌, min, max}
use mathlib.Core.Path.{◌≡◌, refl}
use mathlib.Core.Bool.{Bool, true, false, cond}
use mathlib.Core.List.{List}
use native.Mathlib.Omega.{arith}
use lib.Dec.{leb}
use borrow.Author.Tests.{leb-true, leb-false, le-leb, lt-leb}
use Rattle.layout.specs.Fields.{first_day, last_day, later, earlier, first_shared, last_shared, share_day}
use Rattle.layout.specs.Values.{InPeriod, Share}
use Rattle.layout.specs.declared.Table.{Table}

-- THE LATER AND THE EARLIER of two days
pub later_is_max : (a b : ℕ) → max a b ≡ later a b
later_is_max a b = go (leb a b) refl
  where
    go : (z : Bool) → leb a b ≡ z → max a b ≡ cond z b a
    go true e = omega (arith, leb-true a b e)
    go false e = omega (arith, leb-false a b e)

pub earlier_is_min : (a b : ℕ) → min a b ≡ earlier a b
earlier_is_min a b = go (leb a b) refl
  where
    go : (z : Bool) → leb a b ≡ z → min a b ≡ cond z a b
    go true e = omega (arith, leb-true a b e)
    go false e = omega (arith, leb-false a b e)

bounds_later : (a b : ℕ) → (a ≤ later a b) × (b ≤ later a b)
bounds_later a b = go (leb a b) refl
  where
    go : (z : Bool) → leb a b ≡ z → (a ≤ cond z b a) × (b ≤ cond z b a)
    go true e = (leb-true a b e, omega arith)
    go false e = (omega arith, omega (arith, leb-false a b e))

bounds_earlier : (a b : ℕ) → (earlier a b ≤ a) × (earlier a b ≤ b)
bounds_earlier a b = go (leb a b) refl
  where
    go : (z : Bool) → leb a b ≡ z → (cond z a b ≤ a) × (cond z a b ≤ b)
    go true e = (omega arith, leb-true a b e)
    go false e = (omega (arith, leb-false a b e), omega arith)

later_least : (a b d : ℕ) → a ≤ d → b ≤ d → later a b ≤ d
later_least a b d l m = go (leb a b)
  where
    go : (z : Bool) → cond z b a ≤ d
    go true = m
    go false = l

earlier_greatest : (a b d : ℕ) → d ≤ a → d ≤ b → d ≤ earlier a b
earlier_greatest a b d l m = go (leb a b)
  where
    go : (z : Bool) → d ≤ cond z a b
    go true = l
    go false = m

module _ (t : Table) (a b : List ℕ) where
  -- the first day that they share, if they share any, is the later first day
  first_later : (first_day t a ≤ first_shared t a b) × (first_day t b ≤ first_shared t a b)
  unfolding first_shared
  first_later = bounds_later (first_day t a) (first_day t b)

  last_earlier : (last_shared t a b ≤ last_day t a) × (last_shared t a b ≤ last_day t b)
  unfolding last_shared
  last_earlier = bounds_earlier (last_day t a) (last_day t b)

  on_first : first_shared t a b ≤ last_shared t a b → InPeriod t (first_shared t a b) a × InPeriod t (first_shared t a b) b
  on_first l = let f = first_later in let s = last_earlier in ((f.0, omega (arith, l, s.0)), (f.1, omega (arith, l, s.1)))

  in_order : Share t a b → first_shared t a b ≤ last_shared t a b
  unfolding first_shared last_shared
  in_order d =
      let l = later_least (first_day t a) (first_day t b) d.0 d.1.0 d.2.0 in
      let g = earlier_greatest (last_day t a) (last_day t b) d.0 d.1.1 d.2.1 in
      omega (arith, l, g)

  pub means_share : Share t a b → share_day t a b ≡ true
  unfolding share_day
  means_share d = le-leb (first_shared t a b) (last_shared t a b) (in_order d)

  pub share_means : share_day t a b ≡ true → Share t a b
  unfolding share_day
  share_means e = let o = on_first (leb-true (first_shared t a b) (last_shared t a b) e) in (first_shared t a b, o.0, o.1)

  -- a period that is over before the other begins shares none with it
  over_before : last_shared t a b < first_shared t a b → share_day t a b ≡ false
  unfolding share_day
  over_before l = lt-leb (first_shared t a b) (last_shared t a b) l

  pub second_over : last_day t b < first_day t a → share_day t a b ≡ false
  second_over l = over_before (omega (arith, first_later.0, last_earlier.1))

  pub first_over : last_day t a < first_day t b → share_day t a b ≡ false
  first_over l = over_before (omega (arith, first_later.1, last_earlier.0))

  -- THE FIRST DAY that they share: it is in both periods, and no earlier day is
  pub first_of_shared : Share t a b
      → InPeriod t (first_shared t a b) a × InPeriod t (first_shared t a b) b × ((day : ℕ) → InPeriod t day a → InPeriod t day b → first_shared t a b ≤ day)
  unfolding first_shared
  first_of_shared d = let o = on_first (in_order d) in (o.0, o.1, λ day h k. later_least (first_day t a) (first_day t b) day h.0 k.0)
