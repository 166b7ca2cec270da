-- Laws of one step: the marks one by one, and what a whole record says of its place.
-- Assumes nothing.
use Rattle.std.specs.Prelude.{Option, Some, None}
use Prim.Native.Nat.{ℕ, ◌+◌, ◌-◌, ◌*◌, ◌≤◌, ◌<◌}
use mathlib.Core.Path.{◌≡◌, refl, sym, ◌∙◌, ap}
use mathlib.Core.Bool.{Bool, true, false, cond, ◌&&◌, and-false, and-true}
use mathlib.Core.List.{List, [], ◌∷◌}
use native.Mathlib.Omega.{arith}
use lib.Dec.{eqb, ltb}
use lib.ListN.{length, get_or, take, drop, length-take, length-drop}
use borrow.Author.Tests.{lt-ltb, le-ltb, ltb-false, eq-eqb, ne_eqb, eqb-true, eqb-false}
use Rattle.common.specs.Lists.{same}
use Rattle.common.proofs.Lists.{same_is}
use Rattle.layout.specs.Layout.{each_table, table_at, length_of}
use Rattle.layout.specs.declared.Table.{Table}
use Rattle.layout.proofs.Tables.{mark_length, find_passes}
use Rattle.bundle.specs.Records.{table_of, step_by, step_of}
use Rattle.bundle.specs.Helpers.{is_mark, step_at}
use Rattle.bundle.specs.declared.walk.Step.TheVariants.{Unknown, Short, Whole}

-- a mark, byte by byte
mark_bytes : (a b : ℕ) (s : List ℕ) → 2 ≤ length s → is_mark a b s ≡ (eqb (get_or s 0 0) a && eqb (get_or s 1 0) b)
unfolding is_mark same
mark_bytes a b [] h = absurd (omega arith)
mark_bytes a b (x ∷ []) h = absurd (omega arith)
mark_bytes a b (x ∷ y ∷ s) h = rw and-true

-- the same, its two bytes as one number
two_bytes : (x y a b : ℕ) → x < 256 → a < 256 → eqb (x + y * 256) (a + b * 256) ≡ (eqb x a && eqb y b)
two_bytes x y a b h k = go (eqb x a) (eqb y b) refl refl
  where
    go : (p q : Bool) → eqb x a ≡ p → eqb y b ≡ q → eqb (x + y * 256) (a + b * 256) ≡ (p && q)
    go true true e f = eq-eqb (x + y * 256) (a + b * 256) (omega (arith, eqb-true x a e, eqb-true y b f))
    go true false e f = ne_eqb (x + y * 256) (a + b * 256) (λ g. eqb-false y b f (omega (arith, eqb-true x a e)))
    go false q e f = ne_eqb (x + y * 256) (a + b * 256) (λ g. eqb-false x a e (omega arith))

pub mark_number : (a b : ℕ) (s : List ℕ) → 2 ≤ length s → get_or s 0 0 < 256 → a < 256
    → is_mark a b s ≡ eqb (get_or s 0 0 + get_or s 1 0 * 256) (a + b * 256)
mark_number a b s h k l = mark_bytes a b s h ∙ sym (two_bytes (get_or s 0 0) (get_or s 1 0) a b k l)

pub mark_short : (a b : ℕ) (s : List ℕ) → length s < 2 → is_mark a b s ≡ false
unfolding is_mark same
mark_short a b [] h = refl
mark_short a b (x ∷ []) h = rw and-false
mark_short a b (x ∷ y ∷ s) h = absurd (omega arith)

-- the mark that names a table stands there, and has two bytes
pub mark_there : (s : List ℕ) (t : Table) → table_of s ≡ Some t → take 2 s ≡ (table_at t).mark
unfolding table_of
mark_there s t e = same_is (take 2 s) (table_at t).mark (find_passes (λ u. same (take 2 s) (table_at u).mark) each_table t e)

pub known_long : (s : List ℕ) (t : Table) → table_of s ≡ Some t → 2 ≤ length s
known_long s t e = omega (arith, length-take 2 s, ap length (mark_there s t e), mark_length t)

-- a whole record has a table, stands behind its mark, and lies in the bytes
pub record Lies (s : List ℕ) (t : Table) (start next : ℕ) : Type 0 where
  pub table : table_of s ≡ Some t
  pub behind : start ≡ 2
  pub long : next ≡ 2 + length_of t
  pub inside : next ≤ length s

by_test : (b : Bool) (t : Table) (m : ℕ) (u : Table) (start next : ℕ) → cond b Short (Whole t 2 m) ≡ Whole u start next → (b ≡ false) × (t ≡ u) × (start ≡ 2) × (m ≡ next)
by_test true t m u start next e = let z : ◌≡◌ {A = ℕ} 0 1 = cc in absurd (omega arith)
by_test false t m u start next e = (refl, cc, cc, cc)

pub whole_lies : (s : List ℕ) (t : Table) (start next : ℕ) → step_of s ≡ Whole t start next → Lies s t start next
unfolding step_of
whole_lies s t start next e = go (table_of s) refl e
  where
    go : (o : Option Table) → table_of s ≡ o → step_by s o ≡ Whole t start next → Lies s t start next
    go None q f = let z : ◌≡◌ {A = ℕ} 0 1 = cc in absurd (omega arith)
    go (Some u) q f =
        let d = by_test (ltb (length s) (2 + length_of u)) u (2 + length_of u) t start next f in
        let l = ltb-false (length s) (2 + length_of u) d.0 in
        record {
          table = q ∙ ap Some d.1;
          behind = d.2;
          long = sym d.3 ∙ ap (λ v. 2 + length_of v) d.1;
          inside = rw (← d.3) l;
        }

-- where nothing is left there is no mark
pub nothing_there : step_of [] ≡ Unknown
unfolding step_of table_of same table_at
nothing_there = refl

-- THE STEP AT A PLACE, by its tests
module _ (s : List ℕ) (p : ℕ) where
  pub step_unknown : table_of (drop p s) ≡ None → Unknown ≡ step_at s p
  unfolding step_at step_of
  step_unknown e = rw e

  module _ {t : Table} (e : table_of (drop p s) ≡ Some t) {l : ℕ} (n : l ≡ length_of t) (f : p + 2 ≤ length s) where
    pub step_short : length s - (p + 2) < l → Short ≡ step_at s p
    unfolding step_at step_of
    step_short g = rw (e, ← n, lt-ltb (length (drop p s)) (2 + l) (rw length-drop (omega arith)))

    pub step_whole : l ≤ length s - (p + 2) → Whole t (p + 2) (p + 2 + l) ≡ step_at s p
    unfolding step_at step_of
    step_whole g =
        let q : p + (2 + l) ≡ p + 2 + l = omega arith in
        rw (e, ← n, le-ltb (length (drop p s)) (2 + l) (rw length-drop (omega arith)), q)
