-- A record clashes with no earlier one, if all of these are kept and none on the way of its number does.
-- Assumes nothing.
use Prim.Native.Nat.{ℕ, ◌+◌, ◌≤◌, ◌<◌}
use mathlib.Core.Path.{◌≡◌, refl, sym, ◌∙◌, ap}
use mathlib.Core.Bool.{Bool, true, false}
use mathlib.Core.Logic.{⊎_elim}
use mathlib.Core.List.{List}
use native.Mathlib.Omega.{arith}
use lib.ListN.{length, get_or}
use Rattle.layout.specs.Layout.{is_table}
use Rattle.common.specs.Least.{least}
use Rattle.common.proofs.Least.{none as none_is}
use Rattle.common.proofs.Tests.{both_true, never, side, refuted}
use Rattle.layout.specs.Fields.{same_key}
use Rattle.layout.specs.Helpers.{key_number}
use Rattle.layout.proofs.Tables.{same_number_lem, table_is}
use Rattle.seen.specs.Seen.{slot_behind, slot_of, has_tag, value_at, IsPut, Holds}
use Rattle.seen.proofs.Laws.{next_try, held_before_lem, put_holds}
use Rattle.bundle.specs.Records.{Rec, rec, no_rec, if_whole, between, records_of}
use Rattle.bundle.specs.Keys.{clash}
use Rattle.bundle.specs.Helpers.{step_at, places_of}
use Rattle.bundle.specs.Apart.{number_of, clashes_at, slot_clashes, Passed, IsFree, Kept, ApartTells}
use Rattle.bundle.specs.declared.walk.Step.{Step}
use Rattle.bundle.specs.declared.walk.Step.TheVariants.{Unknown, Short, Whole}
use Rattle.bundle.proofs.Here.{Here, unknown, short, stands, unknown_there, short_there, over_count, here_of}

-- WHAT CLASHES has the same table and the same key, and so the same number.
clash_number : (r q : Rec) → clash r q ≡ true → number_of r ≡ number_of q
unfolding clash
clash_number r q e =
    let c = both_true (is_table r.table q.table) _ e in
    let k = both_true (same_key r.table r.body q.body) _ c.1 in
    same_number_lem r.table r.body q.body k.0 ∙ ap (λ t. key_number t q.body) (table_is r.table q.table c.0)

-- AT ITS PLACE a record is found,
clash_there : (s : List ℕ) (r : Rec) (j : ℕ) → j < length (records_of s) → clashes_at s r (get_or (places_of s) j 0) ≡ clash r (get_or (records_of s) j no_rec)
unfolding clashes_at
clash_there s r j l = go (step_at s p) refl
  where
    p : ℕ
    p = get_or (places_of s) j 0

    h : Here s p j
    h = here_of s j l

    go : (v : Step) → v ≡ step_at s p → if_whole v false (λ t start next. clash r (rec t (between start next s))) ≡ clash r (get_or (records_of s) j no_rec)
    go Unknown q = absurd (omega (arith, over_count s p j h (unknown (unknown_there s p q refl))))
    go Short q = absurd (omega (arith, over_count s p j h (short (short_there s p q refl))))
    go (Whole t start next) q = rw (stands s p j h q refl).at

-- and so is one that clashes, in the slot that has its place.
clash_in_slot : (s heads lows : List ℕ) (r : Rec) (j slot : ℕ) → has_tag (get_or heads slot 0) (number_of r) ≡ true → value_at heads lows slot ≡ get_or (places_of s) j 0
    → j < length (records_of s) → clash r (get_or (records_of s) j no_rec) ≡ true → slot_clashes s heads lows (number_of r) r slot ≡ true
unfolding slot_clashes
clash_in_slot s heads lows r j slot t v l e = rw (t, v) (clash_there s r j l ∙ e)

-- THE WAY OF A NUMBER goes on where the record in a slot does not clash.
pub way_on : (s heads lows : List ℕ) (number : ℕ) (r : Rec) (slot k : ℕ) → slot ≡ slot_of (length heads) number k → Passed s heads lows number r k
    → {head next : ℕ} {clashes : Bool} → head ≡ get_or heads slot 0 → (head ≡ 0 → ⊥) → clashes ≡ slot_clashes s heads lows number r slot → clashes ≡ false
    → next ≡ slot_behind (length heads) slot → (next ≡ slot_of (length heads) number (k + 1)) × Passed s heads lows number r (k + 1)
way_on s heads lows number r slot k w f {head} e some c apart q = (
  q ∙ rw w (sym (next_try (length heads) number k)),
  λ j l. ⊎_elim (λ h. f j h) (λ h. let z : j ≡ k = omega arith in let b : 0 < get_or heads slot 0 = omega arith in rw (z, ← w) (b, sym c ∙ apart)) (side j k),
)

module _ (s heads lows : List ℕ) (i : ℕ) (kept : Kept s heads lows i) (r : Rec) where
  -- WHERE A SLOT IS FREE no record that is kept clashes,
  none_clashes : (slot : ℕ) → IsFree s heads lows (number_of r) r slot → i ≤ length (records_of s) → least (λ j. clash r (get_or (records_of s) j no_rec)) i ≡ i
  none_clashes slot free l =
      none_is (λ j. clash r (get_or (records_of s) j no_rec)) i (λ j b. refuted (clash r (get_or (records_of s) j no_rec)) (found j b))
    where
      found : (j : ℕ) → j < i → clash r (get_or (records_of s) j no_rec) ≡ true → ⊥
      found j b e =
          let h = rw (← clash_number r (get_or (records_of s) j no_rec) e) at (kept j b) in
          let t = held_before_lem heads lows (number_of r) (get_or (places_of s) j 0) free.0 (rw (← free.1) free.2) h in
          never (clash_in_slot s heads lows r j _ h.tagged h.there (omega arith) e) (free.3 h.tried t).1

  -- one that is put there is kept with them,
  kept_next : get_or (records_of s) i no_rec ≡ r → {heads_after lows_after : List ℕ}
      → Holds (number_of r) (get_or (places_of s) i 0) heads lows heads_after lows_after → Kept s heads_after lows_after (i + 1)
  kept_next e h j b = ⊎_elim (λ c. h.1 _ _ (kept j c)) (λ c. let q : j ≡ i = omega arith in rw (q, e) h.0) (side j i)

-- and both are told of it.
pub put_tells : (s heads lows : List ℕ) (r : Rec) (slot p : ℕ) {number : ℕ} {told : Bool} {heads_after lows_after : List ℕ} → number ≡ number_of r
    → IsFree s heads lows number r slot → IsPut heads lows slot number p told heads_after lows_after
    → ApartTells s heads lows r p told heads_after lows_after
put_tells s heads lows r slot p {number} n f put t i l at place kept =
    let free = rw n at f in
    let h = put_holds heads lows slot (number_of r) p (rw n at put) t free.2 free.0 free.1 (λ j b. (free.3 j b).0) in
    (none_clashes s heads lows i kept r slot free (omega arith), kept_next s heads lows i kept r at (rw place h))
