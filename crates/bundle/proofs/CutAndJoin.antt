-- The records of a bundle and its bytes: cutting and joining undo each other.
-- Assumes nothing.
use Rattle.std.specs.Prelude.{Option, Some, None}
use Prim.Native.Nat.{ℕ, zero, suc, ◌+◌, ◌-◌, ◌≤◌, ◌<◌, suc-le-suc}
use mathlib.Core.Path.{◌≡◌, refl, sym, ◌∙◌, ap}
use mathlib.Core.Bool.{Bool, true, false, cond}
use mathlib.Core.Logic.{◌⊎◌, inl, inr, ⊎_elim}
use mathlib.Core.List.{List, [], ◌∷◌, ◌++◌, append_assoc}
use native.Mathlib.Nat.{le_of_suc-le-suc, not-suc-le-zero}
use native.Mathlib.Omega.{arith}
use lib.ListN.{length, take, drop, length-append, length-take, length-drop, take-append-drop}
use lib.Seq.{take_at, drop_at, drop-drop}
use lib.Dec.{ltb}
use borrow.Author.Tests.{lt-ltb, le-ltb, ltb-true}
use Rattle.common.specs.Lists.{same}
use Rattle.common.proofs.Tests.{never}
use Rattle.common.proofs.Lists.{is_same, not_same}
use Rattle.layout.specs.Layout.{table_at, length_of}
use Rattle.layout.specs.declared.Table.{Table}
use Rattle.layout.proofs.Tables.{mark_length, marks_differ, none_passes, none_found}
use Rattle.bundle.specs.Records.{Rec, rec, table_of, step_by, step_of, if_whole, between, records_from, rest_from, records_of, rest_of}
use Rattle.bundle.specs.Meaning.{joined, record_at, IsRecord}
use Rattle.bundle.specs.Faults.{NoMark, TooShort, Cut}
use Rattle.bundle.specs.declared.walk.Step.{Step}
use Rattle.bundle.specs.declared.walk.Step.TheVariants.{Unknown, Short, Whole}
use Rattle.bundle.proofs.Steps.{mark_there, whole_lies, nothing_there}
use Rattle.bundle.proofs.Here.{Over, unknown, short, records_over, rest_over}

-- a whole record is its mark, its body and what follows
split : (s : List ℕ) (t : Table) (start next : ℕ) → step_of s ≡ Whole t start next → (table_at t).mark ++ (between start next s ++ drop next s) ≡ s
split s t start next e =
    let l = whole_lies s t start next e in
    let m = mark_there s t l.table in
    let n : 2 + (next - 2) ≡ next = omega (arith, l.long) in
    let b : between start next s ++ drop next s ≡ drop 2 s =
    rw l.behind (rw (← n, ← drop-drop (next - 2) 2 s, n) (take-append-drop (next - 2) (drop 2 s))) in
    rw (b, ← m) (take-append-drop 2 s)

-- one turn of the cut
module _ (k : ℕ) (s : List ℕ) where
  records_turn : (v : Step) → step_of s ≡ v
      → records_from (suc k) s ≡ if_whole v [] (λ t start next. rec t (between start next s) ∷ records_from k (drop next s))
  unfolding records_from
  records_turn v e = rw e

  rest_turn : (v : Step) → step_of s ≡ v → rest_from (suc k) s ≡ if_whole v s (λ t start next. rest_from k (drop next s))
  unfolding rest_from
  rest_turn v e = rw e

-- CUTTING: the records and the rest, joined again, are the bytes,
joined_turn : (k : ℕ) (s : List ℕ) → ((r : List ℕ) → joined (records_from k r) ++ rest_from k r ≡ r) → (v : Step) → step_of s ≡ v
    → joined (records_from (suc k) s) ++ rest_from (suc k) s ≡ s
unfolding joined
joined_turn k s ih Unknown e = rw (records_turn k s Unknown e, rest_turn k s Unknown e)
joined_turn k s ih Short e = rw (records_turn k s Short e, rest_turn k s Short e)
joined_turn k s ih (Whole t start next) e =
    rw (records_turn k s (Whole t start next) e, rest_turn k s (Whole t start next) e)
    (simp (append_assoc, ih (drop next s)) (split s t start next e))

joined_from : (k : ℕ) (s : List ℕ) → joined (records_from k s) ++ rest_from k s ≡ s
unfolding joined records_from rest_from
joined_from zero s = refl
joined_from (suc k) s = joined_turn k s (joined_from k) (step_of s) refl

pub cut_joined : (s : List ℕ) → joined (records_of s) ++ rest_of s ≡ s
unfolding records_of rest_of
cut_joined s = joined_from (length s) s

-- no whole record starts the rest,
over_turn : (k : ℕ) (s : List ℕ) → length s ≤ suc k → ((r : List ℕ) → length r ≤ k → Over (rest_from k r)) → (v : Step) → step_of s ≡ v
    → Over (rest_from (suc k) s)
over_turn k s h ih Unknown e = rw (rest_turn k s Unknown e) (unknown e)
over_turn k s h ih Short e = rw (rest_turn k s Short e) (short e)
over_turn k s h ih (Whole t start next) e =
    let l = whole_lies s t start next e in
    rw (rest_turn k s (Whole t start next) e) (ih (drop next s) (rw length-drop (omega (arith, l.long))))

over_from : (k : ℕ) (s : List ℕ) → length s ≤ k → Over (rest_from k s)
unfolding rest_from
over_from zero [] h = unknown nothing_there
over_from zero (x ∷ s) h = absurd (not-suc-le-zero h)
over_from (suc k) s h = over_turn k s h (over_from k) (step_of s) refl

pub cut_over : (s : List ℕ) → Over (rest_of s)
unfolding rest_of
cut_over s = over_from (length s) s (omega arith)

-- and each record is one of a table, of its length.
body_long : (s : List ℕ) (t : Table) (start next : ℕ) → step_of s ≡ Whole t start next → IsRecord (rec t (between start next s))
body_long s t start next e =
    let l = whole_lies s t start next e in
    record { long = simp (length-take, length-drop) (omega (arith, l.long, l.inside, l.behind)) }

abbrev AreRecords : List Rec → Type 0
AreRecords R = (i : ℕ) → i < length R → IsRecord (record_at R i)

are_cons : (r : Rec) (R : List Rec) → IsRecord r → AreRecords R → AreRecords (r ∷ R)
are_cons r R a b zero l = a
are_cons r R a b (suc i) l = b i (le_of_suc-le-suc l)

whole_turn : (k : ℕ) (s : List ℕ) → ((r : List ℕ) → AreRecords (records_from k r)) → (v : Step) → step_of s ≡ v → AreRecords (records_from (suc k) s)
whole_turn k s ih Unknown e = rw (records_turn k s Unknown e) (λ i l. absurd (not-suc-le-zero l))
whole_turn k s ih Short e = rw (records_turn k s Short e) (λ i l. absurd (not-suc-le-zero l))
whole_turn k s ih (Whole t start next) e =
    rw (records_turn k s (Whole t start next) e)
    (are_cons (rec t (between start next s)) (records_from k (drop next s)) (body_long s t start next e) (ih (drop next s)))

whole_from : (k : ℕ) (s : List ℕ) → AreRecords (records_from k s)
unfolding records_from
whole_from zero s = λ i l. absurd (not-suc-le-zero l)
whole_from (suc k) s = whole_turn k s (whole_from k) (step_of s) refl

pub cut_whole : (s : List ℕ) → AreRecords (records_of s)
unfolding records_of
cut_whole s = whole_from (length s) s

-- JOINING: the mark before a record names its table,
marked : (t : Table) (s : List ℕ) → table_of ((table_at t).mark ++ s) ≡ Some t
unfolding table_of
marked t s = rw (take_at (table_at t).mark s 2 (mark_length t)) (marks_differ t)

module _ (r : Rec) (w : IsRecord r) (s : List ℕ) where
  abbrev bytes : List ℕ
  bytes = (table_at r.table).mark ++ (r.body ++ s)

  bytes_length : length bytes ≡ 2 + (length_of r.table + length s)
  bytes_length =
      simp (length-append, mark_length r.table, w.long)

  -- the record stands there whole,
  stands : step_of bytes ≡ Whole r.table 2 (2 + length_of r.table)
  unfolding step_of
  stands =
      let l = bytes_length in
      rw (marked r.table (r.body ++ s), le-ltb (length bytes) (2 + length_of r.table) (omega arith))

  -- its body is what was put there, and what follows follows
  body_back : between 2 (2 + length_of r.table) bytes ≡ r.body
  body_back =
      let n : 2 + length_of r.table - 2 ≡ length_of r.table = omega arith in
      rw (n, drop_at (table_at r.table).mark (r.body ++ s) 2 (mark_length r.table)) (take_at r.body s (length_of r.table) w.long)

  rest_back : drop (2 + length_of r.table) bytes ≡ s
  rest_back =
      rw (← drop-drop (length_of r.table) 2 bytes, drop_at (table_at r.table).mark (r.body ++ s) 2 (mark_length r.table))
      (drop_at r.body s (length_of r.table) w.long)

-- and cutting what was joined gives the records back, with what was left, if no record starts that.
are_head : (r : Rec) (R : List Rec) → AreRecords (r ∷ R) → IsRecord r
are_head r R w = w 0 (omega arith)

are_tail : (r : Rec) (R : List Rec) → AreRecords (r ∷ R) → AreRecords R
are_tail r R w i l = w (suc i) (suc-le-suc l)

module _ (rest : List ℕ) (o : Over rest) where
  front : (r : Rec) (R : List Rec) → joined (r ∷ R) ++ rest ≡ (table_at r.table).mark ++ (r.body ++ (joined R ++ rest))
  unfolding joined
  front r R = append_assoc (table_at r.table).mark (r.body ++ joined R) rest ∙ ap ((table_at r.table).mark ++◌) (append_assoc r.body (joined R) rest)

  recut : (k : ℕ) (R : List Rec) → AreRecords R → length (joined R ++ rest) ≤ k
      → (records_from k (joined R ++ rest) ≡ R) × (rest_from k (joined R ++ rest) ≡ rest)
  unfolding joined
  recut k [] w h = (records_over k rest o, rest_over k rest o)
  recut zero (r ∷ R) w h = absurd (omega (arith, ap length (front r R), bytes_length r (are_head r R w) (joined R ++ rest)))
  recut (suc k) (r ∷ R) w h =
      let a = are_head r R w in
      let s = joined R ++ rest in
      let n = bytes_length r a s in
      let ih = recut k R (are_tail r R w) (omega (arith, ap length (front r R))) in
      let v = Whole r.table 2 (2 + length_of r.table) in
      rw (front r R) (
        records_turn k (bytes r a s) v (stands r a s) ∙ rw (body_back r a s, rest_back r a s, ih.0),
        rest_turn k (bytes r a s) v (stands r a s) ∙ rw (rest_back r a s, ih.1),
      )

  pub joined_cut : (R : List Rec) → AreRecords R → (records_of (joined R ++ rest) ≡ R) × (rest_of (joined R ++ rest) ≡ rest)
  unfolding records_of rest_of
  joined_cut R w = recut (length (joined R ++ rest)) R w (omega arith)

-- WHAT IS LEFT, by meaning: no mark stands there, or too few bytes behind one
module _ (s : List ℕ) where
  pub no_mark_is : NoMark s → step_of s ≡ Unknown
  unfolding step_of table_of
  no_mark_is n =
      let none-there : (t : Table) → same (take 2 s) (table_at t).mark ≡ false =
      λ t. not_same _ _ (λ e. n t (drop 2 s) (sym (take-append-drop 2 s) ∙ ap (◌++ drop 2 s) e)) in
      rw (none_found (λ t. same (take 2 s) (table_at t).mark) none-there)

  pub too_short_is : TooShort s → step_of s ≡ Short
  unfolding step_of
  too_short_is (t, behind, e, h) =
      let n : length s ≡ 2 + length behind = ap length e ∙ length-append (table_at t).mark behind ∙ ap (◌+ length behind) (mark_length t) in
      let m : table_of s ≡ Some t = ap table_of e ∙ marked t behind in
      rw (m, lt-ltb (length s) (2 + length_of t) (omega arith))

  by_steps : (o : Option Table) → step_by s o ≡ Unknown → o ≡ None
  by_steps None e = refl
  by_steps (Some t) e = go (ltb (length s) (2 + length_of t)) e
    where
      go : (b : Bool) → cond b Short (Whole t 2 (2 + length_of t)) ≡ Unknown → Some t ≡ None
      go true q = let z : ◌≡◌ {A = ℕ} 0 1 = cc in absurd (omega arith)
      go false q = let z : ◌≡◌ {A = ℕ} 0 1 = cc in absurd (omega arith)

  by_shorts : (o : Option Table) → step_by s o ≡ Short → (t : Table) × (o ≡ Some t) × (ltb (length s) (2 + length_of t) ≡ true)
  by_shorts None e = let z : ◌≡◌ {A = ℕ} 0 1 = cc in absurd (omega arith)
  by_shorts (Some t) e = (t, refl, go (ltb (length s) (2 + length_of t)) e)
    where
      go : (b : Bool) → cond b Short (Whole t 2 (2 + length_of t)) ≡ Short → b ≡ true
      go true q = refl
      go false q = let z : ◌≡◌ {A = ℕ} 0 1 = cc in absurd (omega arith)

  pub unknown_means : step_of s ≡ Unknown → NoMark s
  unfolding step_of table_of
  unknown_means e t behind q =
      never (is_same (take 2 s) (table_at t).mark (ap (take 2) q ∙ take_at (table_at t).mark behind 2 (mark_length t)))
      (none_passes (λ u. same (take 2 s) (table_at u).mark) (by_steps (table_of s) e) t)

  pub short_means : step_of s ≡ Short → TooShort s
  unfolding step_of
  short_means e =
      let b = by_shorts (table_of s) e in
      let t = b.0 in
      let m = mark_there s t b.1 in
      let n = ltb-true (length s) (2 + length_of t) b.2 in
      (t, drop 2 s, sym (take-append-drop 2 s) ∙ ap (◌++ drop 2 s) m, rw length-drop (omega (arith, length-take 2 s, ap length m, mark_length t)))

  over_means : Over s → NoMark s ⊎ TooShort s
  over_means (unknown e) = inl (unknown_means e)
  over_means (short e) = inr (short_means e)

  pub means_over : NoMark s ⊎ TooShort s → Over s
  means_over h = ⊎_elim (λ n. unknown (no_mark_is n)) (λ n. short (too_short_is n)) h

-- THE CUT of a bundle is its whole records and what is left, and there is no other.
pub cut_means : (s : List ℕ) → Cut s (records_of s) (rest_of s)
cut_means s = record { bytes = sym (cut_joined s); whole = cut_whole s; over = over_means (rest_of s) (cut_over s) }

pub cut_only : (s : List ℕ) (R : List Rec) (rest : List ℕ) → Cut s R rest → (records_of s ≡ R) × (rest_of s ≡ rest)
cut_only s R rest c = rw c.bytes (joined_cut rest (means_over rest c.over) R c.whole)
