-- A position of the bundle as a place among its records: what each loop over records carries along.
-- Assumes nothing.
use Prim.Native.Nat.{ℕ, zero, suc, pred, ◌+◌, ◌-◌, ◌≤◌, ◌<◌}
use mathlib.Core.Path.{◌≡◌, refl, sym, ◌∙◌, ap}
use mathlib.Core.Logic.{⊎_elim}
use mathlib.Core.List.{List, [], ◌∷◌}
use native.Mathlib.Omega.{arith}
use native.Mathlib.Nat.{add-zero}
use native.Mathlib.Numerals.{add-one}
use lib.ListN.{length, get_or, drop, length-drop, get_or-eq_default}
use lib.Seq.{drop-drop, get_or-drop}
use Rattle.common.proofs.Tests.{side}
use Rattle.layout.specs.declared.Table.{Table}
use Rattle.bundle.specs.Records.{rec, no_rec, step_of, if_whole, between, records_from, rest_from, records_of, rest_of}
use Rattle.bundle.specs.Helpers.{moved, step_at, places_from, places_of, body_at}
use Rattle.bundle.specs.declared.walk.Step.{Step}
use Rattle.bundle.specs.declared.walk.Step.TheVariants.{Unknown, Short, Whole}
use Rattle.bundle.proofs.Steps.{Lies, whole_lies}

-- at the byte p of the bundle s the record starts that is counted j, or the records end
pub record Here (s : List ℕ) (p j : ℕ) : Type 0 where
  pub fuel : ℕ
  pub enough : length s - p ≤ fuel
  pub inside : p ≤ length s
  pub counted : j ≤ p
  pub among : j ≤ length (records_of s)
  pub records : records_from fuel (drop p s) ≡ drop j (records_of s)
  pub rest : rest_from fuel (drop p s) ≡ rest_of s
  pub places : places_from fuel p (drop p s) ≡ drop j (places_of s)

pub here_start : (s : List ℕ) → Here s 0 0
unfolding records_of rest_of places_of
here_start s =
    record {
      fuel = length s;
      enough = omega arith;
      inside = omega arith;
      counted = omega arith;
      among = omega arith;
      records = refl;
      rest = refl;
      places = refl;
    }

records_whole : (k : ℕ) (s : List ℕ) {t : Table} {start next : ℕ} → 0 < k → step_of s ≡ Whole t start next
    → records_from k s ≡ rec t (between start next s) ∷ records_from (pred k) (drop next s)
unfolding records_from
records_whole zero s h e = absurd (omega arith)
records_whole (suc k) s h e = rw e

rest_whole : (k : ℕ) (s : List ℕ) {t : Table} {start next : ℕ} → 0 < k → step_of s ≡ Whole t start next → rest_from k s ≡ rest_from (pred k) (drop next s)
unfolding rest_from
rest_whole zero s h e = absurd (omega arith)
rest_whole (suc k) s h e = rw e

places_whole : (k p : ℕ) (s : List ℕ) {t : Table} {start next : ℕ} → 0 < k → step_of s ≡ Whole t start next
    → places_from k p s ≡ p ∷ places_from (pred k) (p + next) (drop next s)
unfolding places_from
places_whole zero p s h e = absurd (omega arith)
places_whole (suc k) p s h e = rw e

-- each record has a place
places_alike : (k p : ℕ) (s : List ℕ) → length (places_from k p s) ≡ length (records_from k s)
unfolding places_from records_from
places_alike zero p s = refl
places_alike (suc k) p s = go (step_of s) (λ n. places_alike k (p + n) (drop n s))
  where
    go : (v : Step) → ((n : ℕ) → length (places_from k (p + n) (drop n s)) ≡ length (records_from k (drop n s)))
        → length (if_whole v [] (λ t start next. p ∷ places_from k (p + next) (drop next s)))
        ≡ length (if_whole v [] (λ t start next. rec t (between start next s) ∷ records_from k (drop next s)))
    go Unknown f = refl
    go Short f = refl
    go (Whole t start next) f = ap suc (f next)

pub places_length : (s : List ℕ) → length (places_of s) ≡ length (records_of s)
unfolding places_of records_of
places_length s = places_alike (length s) 0 s

-- no whole record starts there
pub data Over (s : List ℕ) : Type 0 where
  unknown : step_of s ≡ Unknown → Over s
  short : step_of s ≡ Short → Over s

pub records_over : (k : ℕ) (s : List ℕ) → Over s → records_from k s ≡ []
unfolding records_from
records_over zero s o = refl
records_over (suc k) s (unknown e) = rw e
records_over (suc k) s (short e) = rw e

pub rest_over : (k : ℕ) (s : List ℕ) → Over s → rest_from k s ≡ s
unfolding rest_from
rest_over zero s o = refl
rest_over (suc k) s (unknown e) = rw e
rest_over (suc k) s (short e) = rw e

-- WHAT A STEP SAYS of the place where it was made: a whole record stands there, and where its body starts and the next record does;
pub record Stands (s : List ℕ) (p j : ℕ) (t : Table) (start next : ℕ) : Type 0 where
  pub starts : p < start
  pub ends : start ≤ next
  pub inside : next ≤ length s
  pub below : j < length (records_of s)
  pub cons : drop j (records_of s) ≡ rec t (between start next s) ∷ drop (j + 1) (records_of s)
  pub at : get_or (records_of s) j no_rec ≡ rec t (between start next s)
  pub place : get_or (places_of s) j 0 ≡ p
  pub body : body_at s p ≡ (get_or (records_of s) j no_rec).body
  pub then : Here s next (j + 1)

module _ (s : List ℕ) (p j : ℕ) (h : Here s p j) where
  module _ (t : Table) (start next : ℕ) (e : step_of (drop p s) ≡ Whole t start next) where
    lies : Lies (drop p s) t start next
    lies = whole_lies (drop p s) t start next e

    room : (start ≡ 2) × (2 ≤ next) × (p + next ≤ length s)
    room = (lies.behind, omega (arith, lies.long), omega (arith, length-drop p s, lies.inside, h.inside, lies.long))

    fueled : 0 < h.fuel
    fueled = omega (arith, room, h.enough)

    -- the body, counted from the bundle's start
    there : between (p + start) (p + next) s ≡ between start next (drop p s)
    there = let n : p + next - (p + start) ≡ next - start = omega arith in rw (n, drop-drop start p s)

    cons : drop j (records_of s) ≡ rec t (between (p + start) (p + next) s) ∷ records_from (pred h.fuel) (drop next (drop p s))
    cons = rw there (sym h.records ∙ records_whole h.fuel (drop p s) fueled e)

    place_cons : drop j (places_of s) ≡ p ∷ places_from (pred h.fuel) (p + next) (drop next (drop p s))
    place_cons = sym h.places ∙ places_whole h.fuel p (drop p s) fueled e

    here_at : get_or (records_of s) j no_rec ≡ rec t (between (p + start) (p + next) s)
    here_at = sym (rw add-zero at (get_or-drop j (records_of s) 0 no_rec)) ∙ rw cons

    here_below : j < length (records_of s)
    here_below = omega (arith, length-drop j (records_of s), ap length cons)

    whole_stands : Stands s p j t (p + start) (p + next)
    unfolding body_at step_at
    whole_stands =
        record {
          starts = omega (arith, room);
          ends = omega (arith, room);
          inside = room.2;
          below = here_below;
          cons = rw (← drop-drop 1 j (records_of s), cons);
          at = here_at;
          place = sym (rw add-zero at (get_or-drop j (places_of s) 0 0)) ∙ rw place_cons;
          body = rw (e, here_at);
          then =
              record {
                fuel = pred h.fuel;
                enough = omega (arith, room, h.enough);
                inside = omega (arith, room);
                counted = omega (arith, room, h.counted);
                among = omega (arith, here_below);
                records = rw (← drop-drop next p s, ← drop-drop 1 j (records_of s), cons);
                rest = rw (← drop-drop next p s) (sym (rest_whole h.fuel (drop p s) fueled e) ∙ h.rest);
                places = rw (← drop-drop next p s, ← drop-drop 1 j (places_of s), place_cons);
              };
        }

  -- or no whole record does, and the records end.
  module _ (o : Over (drop p s)) where
    pub over_nil : drop j (records_of s) ≡ []
    over_nil = sym h.records ∙ records_over h.fuel (drop p s) o

    pub over_rest : rest_of s ≡ drop p s
    over_rest = sym h.rest ∙ rest_over h.fuel (drop p s) o

    pub over_count : length (records_of s) ≡ j
    over_count = omega (arith, length-drop j (records_of s), ap length over_nil, h.among)

  -- the same of the step that was made
  moved_whole : (v : Step) (t : Table) (start next : ℕ) → step_of (drop p s) ≡ v → moved p v ≡ Whole t start next → Stands s p j t start next
  moved_whole Unknown t start next q e = let z : ◌≡◌ {A = ℕ} 0 1 = cc in absurd (omega arith)
  moved_whole Short t start next q e = let z : ◌≡◌ {A = ℕ} 0 1 = cc in absurd (omega arith)
  moved_whole (Whole u a b) t start next q e =
      let x : u ≡ t = cc in
      let y : p + a ≡ start = cc in
      let z : p + b ≡ next = cc in
      rw (← x, ← y, ← z) (whole_stands u a b q)

  pub stands : {v : Step} {t : Table} {start next : ℕ} → v ≡ step_at s p → v ≡ Whole t start next → Stands s p j t start next
  unfolding step_at
  stands {v} {t} {start} {next} q e = moved_whole (step_of (drop p s)) t start next refl (sym q ∙ e)

module _ (s : List ℕ) (p : ℕ) where
  moved_unknown : (v : Step) → moved p v ≡ Unknown → v ≡ Unknown
  moved_unknown Unknown e = refl
  moved_unknown Short e = let z : ◌≡◌ {A = ℕ} 0 1 = cc in absurd (omega arith)
  moved_unknown (Whole t a b) e = let z : ◌≡◌ {A = ℕ} 0 1 = cc in absurd (omega arith)

  moved_short : (v : Step) → moved p v ≡ Short → v ≡ Short
  moved_short Unknown e = let z : ◌≡◌ {A = ℕ} 0 1 = cc in absurd (omega arith)
  moved_short Short e = refl
  moved_short (Whole t a b) e = let z : ◌≡◌ {A = ℕ} 0 1 = cc in absurd (omega arith)

  pub unknown_there : {v : Step} → v ≡ step_at s p → v ≡ Unknown → step_of (drop p s) ≡ Unknown
  unfolding step_at
  unknown_there q e = moved_unknown (step_of (drop p s)) (sym q ∙ e)

  pub short_there : {v : Step} → v ≡ step_at s p → v ≡ Short → step_of (drop p s) ≡ Short
  unfolding step_at
  short_there q e = moved_short (step_of (drop p s)) (sym q ∙ e)

  pub over_there : (v : Step) → ((t : Table) (start next : ℕ) → v ≡ Whole t start next → ⊥) → v ≡ step_at s p → Over (drop p s)
  over_there Unknown x q = unknown (unknown_there q refl)
  over_there Short x q = short (short_there q refl)
  over_there (Whole t start next) x q = absurd (x t start next refl)

  -- a record lies in the bundle wherever the step was made
  moved_lies : (v : Step) (t : Table) (start next : ℕ) → step_of (drop p s) ≡ v → moved p v ≡ Whole t start next → (start ≤ next) × (next ≤ length s)
  moved_lies Unknown t start next q e = let z : ◌≡◌ {A = ℕ} 0 1 = cc in absurd (omega arith)
  moved_lies Short t start next q e = let z : ◌≡◌ {A = ℕ} 0 1 = cc in absurd (omega arith)
  moved_lies (Whole u a b) t start next q e =
      let l = whole_lies (drop p s) u a b q in
      let y : p + a ≡ start = cc in
      let z : p + b ≡ next = cc in
      let d = length-drop p s in
      rw (← y, ← z) (omega (arith, l.behind, l.long), omega (arith, l.behind, l.long, l.inside))

  pub step_lies : {v : Step} {t : Table} {start next : ℕ} → v ≡ step_at s p → v ≡ Whole t start next → (start ≤ next) × (next ≤ length s)
  unfolding step_at
  step_lies {v} {t} {start} {next} q e = moved_lies (step_of (drop p s)) t start next refl (sym q ∙ e)

  -- what is read off a whole record at a place, or else told
  module _ {A : Type 0} (none : A) (f : Table → ℕ → ℕ → A) where
    pub over_told : Over (drop p s) → none ≡ if_whole (step_at s p) none f
    unfolding step_at
    over_told (unknown e) = rw e
    over_told (short e) = rw e

    pub whole_told : {v : Step} {t : Table} {start next : ℕ} → v ≡ step_at s p → v ≡ Whole t start next → f t start next ≡ if_whole (step_at s p) none f
    whole_told q e = rw (sym q ∙ e)

-- EVERY RECORD HAS ITS PLACE
module _ (s : List ℕ) where
  found_at : (p j : ℕ) → Here s p j → j < length (records_of s) → (v : Step) → step_of (drop p s) ≡ v → (t : Table) × (start : ℕ) × (next : ℕ) × Stands s p j t start next
  found_at p j h l Unknown e = absurd (omega (arith, over_count s p j h (unknown e)))
  found_at p j h l Short e = absurd (omega (arith, over_count s p j h (short e)))
  found_at p j h l (Whole t start next) e = (t, p + start, p + next, whole_stands s p j h t start next e)

  here_each : (j : ℕ) → j ≤ length (records_of s) → (p : ℕ) × Here s p j
  here_each zero l = (0, here_start s)
  here_each (suc j) l =
      let h = here_each j (omega arith) in
      let f = found_at h.0 j h.1 (omega arith) (step_of (drop h.0 s)) refl in
      (f.2, rw (← add-one j) f.3.then)

  pub at_place_lem : (j : ℕ) → j < length (records_of s)
      → (body_at s (get_or (places_of s) j 0) ≡ (get_or (records_of s) j no_rec).body) × (get_or (places_of s) j 0 < length s)
  at_place_lem j l =
      let h = here_each j (omega arith) in
      let f = (found_at h.0 j h.1 l (step_of (drop h.0 s)) refl).3 in
      rw f.place (f.body, omega (arith, f.starts, f.ends, f.inside))

  -- A PLACE is a position of the walk,
  pub here_of : (i : ℕ) → i < length (records_of s) → Here s (get_or (places_of s) i 0) i
  here_of i l =
      let h = here_each i (omega arith) in
      rw (found_at h.0 i h.1 l (step_of (drop h.0 s)) refl).3.place h.1

  -- and so is the bundle's start, where there is no such record
  pub here_at_place : (i : ℕ) → (j : ℕ) × Here s (get_or (places_of s) i 0) j
  here_at_place i = ⊎_elim (λ l. (i, here_of i l)) beyond (side i (length (records_of s)))
    where
      beyond : length (records_of s) ≤ i → (j : ℕ) × Here s (get_or (places_of s) i 0) j
      beyond l = (0, rw (get_or-eq_default (places_of s) 0 {n = i} (omega (arith, places_length s))) (here_start s))

-- the first record stands at the start
pub first_body : (s : List ℕ) → body_at s 0 ≡ (get_or (records_of s) 0 no_rec).body
unfolding body_at
first_body s = go (step_of (drop 0 s)) refl
  where
    go : (v : Step) → step_of (drop 0 s) ≡ v → body_at s 0 ≡ (get_or (records_of s) 0 no_rec).body
    go Unknown e = sym (over_told s 0 _ _ (unknown e)) ∙ sym (ap (λ R. (get_or R 0 no_rec).body) (over_nil s 0 0 (here_start s) (unknown e)))
    go Short e = sym (over_told s 0 _ _ (short e)) ∙ sym (ap (λ R. (get_or R 0 no_rec).body) (over_nil s 0 0 (here_start s) (short e)))
    go (Whole t start next) e = (whole_stands s 0 0 (here_start s) t start next e).body
