-- Laws of hints: each is the place of a record, and a record that serves there is one of the bundle's.
-- Assumes nothing.
use Prim.Native.Nat.{ℕ, zero, suc, ◌+◌, ◌<◌}
use mathlib.Core.Path.{◌≡◌, refl, sym}
use mathlib.Core.Bool.{true, false}
use mathlib.Core.List.{List, ◌∷◌}
use lib.ListN.{length, get_or, replicate}
use Rattle.std.proofs.Common.{eqb, eq-eqb, eqb-true, suc-le-suc}
use Rattle.std.specs.Prelude.{Option, Some, None, is_some}
use Rattle.common.specs.Lists.{any}
use Rattle.common.proofs.Lists.{any_at, at_any}
use Rattle.common.proofs.Tests.{never}
use Rattle.bundle.specs.Records.{Rec, rec, no_rec, if_whole, between, records_of}
use Rattle.bundle.specs.Links.{serves}
use Rattle.bundle.specs.Helpers.{step_at, places_of, place_behind}
use Rattle.bundle.specs.Hints.{IsPlace, Hinted, serves_at, Found, SearchTells}
use Rattle.bundle.specs.declared.links.Link.{Link}
use Rattle.bundle.specs.declared.walk.Step.{Step}
use Rattle.bundle.specs.declared.walk.Step.TheVariants.{Unknown, Short, Whole}
use Rattle.bundle.proofs.Here.{Here, here_start, stands, here_at_place, places_length}

-- PLACES: a place is a position of the walk,
pub place_here : (s : List ℕ) (p : ℕ) → IsPlace s p → (j : ℕ) × Here s p j
place_here s p h = go (any_at (eqb p) 0 (0 ∷ places_of s) h)
  where
    go : (i : ℕ) × (i < length (0 ∷ places_of s)) × (eqb p (get_or (0 ∷ places_of s) i 0) ≡ true) → (j : ℕ) × Here s p j
    go (zero, l, e) = (0, rw (eqb-true p 0 e) (here_start s))
    go (suc i, l, e) = rw (eqb-true p _ e) (here_at_place s i)

-- and each position is one,
pub is_place : (s : List ℕ) (j p : ℕ) → j < length (records_of s) → get_or (places_of s) j 0 ≡ p → IsPlace s p
is_place s j p l e = at_any (eqb p) 0 (0 ∷ places_of s) (suc j) (rw (places_length s) (suc-le-suc l)) (eq-eqb p _ (sym e))

-- as the bundle's start is,
pub start_is_place : (s : List ℕ) → IsPlace s 0
unfolding any
start_is_place s = refl

get_or_zeros : (n k : ℕ) → ◌≡◌ {A = ℕ} (get_or (replicate n 0) k 0) 0
get_or_zeros zero k = refl
get_or_zeros (suc n) zero = refl
get_or_zeros (suc n) (suc k) = get_or_zeros n k

-- so that before any is noted each is.
pub no_hints_yet : (s : List ℕ) (n : ℕ) → Hinted s (replicate n 0)
no_hints_yet s n k = rw (get_or_zeros n k) (start_is_place s)

-- A RECORD THAT SERVES AT A PLACE is one of the bundle's,
served_here : (s : List ℕ) (l : Link) (r : Rec) (p j : ℕ) → Here s p j → serves_at s l r p ≡ true
    → IsPlace s p × (any (serves l r) (records_of s) ≡ true)
unfolding serves_at
served_here s l r p j h e = go (step_at s p) refl e
  where
    go : (v : Step) → v ≡ step_at s p → if_whole v false (λ t start next. serves l r (rec t (between start next s))) ≡ true
        → IsPlace s p × (any (serves l r) (records_of s) ≡ true)
    go Unknown q e = never e refl
    go Short q e = never e refl
    go (Whole t start next) q e =
        let w = stands s p j h q refl in
        (is_place s j p w.below w.place, at_any (serves l r) no_rec (records_of s) j w.below (rw w.at e))

pub served_there : (s : List ℕ) (l : Link) (r : Rec) (p : ℕ) → IsPlace s p → serves_at s l r p ≡ true → any (serves l r) (records_of s) ≡ true
served_there s l r p h e = let x = place_here s p h in (served_here s l r p x.0 x.1 e).1

-- so that a search may tell of it.
pub found_here : (s : List ℕ) (l : Link) (r : Rec) (p j : ℕ) → Here s p j → serves_at s l r p ≡ true → Found s l r p
found_here s l r p j h e = served_here s l r p j h e

-- THE PLACE BEHIND a place is one of the walk's.
pub here_behind : (s : List ℕ) (p j : ℕ) → Here s p j → (k : ℕ) × Here s (place_behind s p) k
unfolding place_behind
here_behind s p j h = go (step_at s p) refl
  where
    go : (v : Step) → v ≡ step_at s p → (k : ℕ) × Here s (if_whole v 0 (λ t start next. next)) k
    go Unknown q = (0, here_start s)
    go Short q = (0, here_start s)
    go (Whole t start next) q = (j + 1, (stands s p j h q refl).then)

-- A SEARCH tells whether some record serves.
pub searched : (s : List ℕ) (l : Link) (r : Rec) (found : Option ℕ) → SearchTells s l r found → is_some found ≡ any (serves l r) (records_of s)
searched s l r None t = sym t
searched s l r (Some p) t = sym t.1
