-- A REFUSAL BY MEANING: what the first check that fails says of the bundle, and back.
-- Assumes nothing.
use Rattle.std.specs.Prelude.{Err, Option, Some, None, is_some, unwrap_or}
use Prim.Native.Nat.{ℕ, ◌+◌, ◌≤◌, ◌<◌}
use mathlib.Core.Path.{◌≡◌, refl, sym, ◌∙◌, ap}
use mathlib.Core.Bool.{Bool, true, false, cond, and-false}
use mathlib.Core.List.{List, [], ◌∷◌, ◌++◌, append-nil}
use mathlib.Core.Logic.{⊎_elim}
use native.Mathlib.Nat.{zero-add}
use native.Mathlib.Omega.{arith}
use lib.Dec.{ltb}
use lib.ListN.{length, length-append}
use borrow.Author.Tests.{lt-ltb, le-ltb, ltb-true, ltb-false, not-false}
use Rattle.common.specs.declared.reasons.Reason.TheVariants.{BundleTooLong, MarkUnknown, RecordShort, FieldBroken, OtherTransferor, KeyRepeated, LinkMissing}
use Rattle.common.specs.Least.{least}
use Rattle.common.specs.Lists.{every, same}
use Rattle.common.specs.Reasons.{number_of_reason}
use Rattle.common.specs.Checks.{refuse, clean, fault, first_fault, each_from, IsFault, IsRefused}
use Rattle.common.specs.declared.Refusal.{Refusal}
use Rattle.common.proofs.Tests.{never, both_true, refuted}
use Rattle.common.proofs.Least.{passes, before, hit, none}
use Rattle.common.proofs.Lists.{same_is}
use Rattle.common.proofs.Checks.{one_clean, append_clean, clean_append, clean_each, one_fault, append_fault, last_fault, fault_append, each_clean, each_fault, fault_each}
use Rattle.layout.specs.Layout.{table_at}
use Rattle.layout.specs.Rules.{keeps_row, first_broken, broken_field}
use Rattle.layout.specs.declared.rows.Row.{Row}
use Rattle.layout.proofs.Tables.{unbroken_keeps}
use Rattle.bundle.specs.Records.{Rec, no_rec, step_of, records_of, rest_of}
use Rattle.bundle.specs.Keys.{other_transferor, clash, earlier_of}
use Rattle.bundle.specs.Verdict.{limit, is_unknown, is_short, field_checks, end_checks, first_pass, record_checks, second_pass, checks, verdict_of}
use Rattle.bundle.specs.Meaning.{joined, record_at, KeepsRules, Clash}
use Rattle.bundle.specs.Faults.{Cut, Breaks, OfOneTransferor, Fits, FirstLook, SecondLook, Fault, too_long, unknown_mark, too_short, breaks_a_field, other_transferor_fault, repeats_a_key, lacks_a_link}
use Rattle.bundle.specs.declared.walk.Step.{Step}
use Rattle.bundle.specs.declared.walk.Step.TheVariants.{Unknown, Short, Whole}
use Rattle.bundle.proofs.PassLaws.{is_fault}
use Rattle.bundle.proofs.KeyMeaning.{clash_means, means_clash}
use Rattle.bundle.proofs.LinkMeaning.{links_there, there_links, link_missing, missing_link_lem}
use Rattle.bundle.proofs.CutAndJoin.{cut_joined, cut_means, cut_only, unknown_means, short_means, no_mark_is, too_short_is, means_over}
use Rattle.bundle.proofs.Meaning.{nothing_left, left_nothing, same_transferor, transferor_same, no_clash, clash_none}

-- A FIELD: the first row that is not kept
some_is : (o : Option ℕ) → is_some o ≡ true → o ≡ Some (unwrap_or o 0)
some_is None e = absurd (cc e)
some_is (Some f) e = refl

abbrev Split : (Row → Bool) → List Row → ℕ → Type 0
Split kept rows f =
    (left : List Row) × (row : Row) × (right : List Row) × (rows ≡ left ++ (row ∷ right)) × (row.field ≡ f) × (every kept left ≡ true) × (kept row ≡ false)

first_broken_lem : (kept : Row → Bool) (rows : List Row) (f : ℕ) → first_broken kept rows ≡ Some f → Split kept rows f
unfolding first_broken every
first_broken_lem kept [] f q = absurd (cc q)
first_broken_lem kept (x ∷ rows) f q = go (kept x) refl (first_broken_lem kept rows f) q
  where
    go : (b : Bool) → kept x ≡ b → (first_broken kept rows ≡ Some f → Split kept rows f) → cond b (first_broken kept rows) (Some x.field) ≡ Some f
        → Split kept (x ∷ rows) f
    go false e ih q = ([], x, rows, refl, cc q, refl, e)
    go true e ih q = let r = ih q in (x ∷ r.0, r.1, r.2, ap (x ∷◌) r.3, r.4, rw e r.5, r.6)

broken_first : (kept : Row → Bool) (left : List Row) (row : Row) (right : List Row) → every kept left ≡ true → kept row ≡ false
    → (first_broken kept (left ++ (row ∷ right)) ≡ Some row.field) × (every kept (left ++ (row ∷ right)) ≡ false)
unfolding first_broken every
broken_first kept [] row right k b = rw b (refl, refl)
broken_first kept (x ∷ left) row right k b =
    let d = both_true (kept x) (every kept left) k in
    rw d.0 (broken_first kept left row right d.1 b)

module _ (r : Rec) where
  breaks : (f : ℕ) → broken_field r.table r.body ≡ Some f → Breaks r f
  unfolding broken_field
  breaks f q =
      let b = first_broken_lem (keeps_row r.table r.body) (table_at r.table).rows f q in
      record { left = b.0; row = b.1; right = b.2; split = b.3; is_field = b.4; left_kept = b.5; broken = b.6 }

  broken_is : (f : ℕ) → Breaks r f → broken_field r.table r.body ≡ Some f
  unfolding broken_field
  broken_is f b =
      let kept = keeps_row r.table r.body in
      let d = broken_first kept b.left b.row b.right b.left_kept b.broken in
      ap (first_broken kept) b.split ∙ (d.0 ∙ ap Some b.is_field)

  keeps : (i : ℕ) → first_fault (field_checks i r) ≡ clean → KeepsRules r
  keeps i e = not-false _ (sym (unbroken_keeps r.table r.body) ∙ (one_clean _ FieldBroken i _ [] e).0)

  kept_clean : (i : ℕ) → KeepsRules r → first_fault (field_checks i r) ≡ clean
  unfolding first_fault
  kept_clean i k = rw (unbroken_keeps r.table r.body, k)

-- BESIDE THE OTHERS
module _ (R : List Rec) (i : ℕ) where
  abbrev r : Rec
  r = record_at R i

  fits : first_fault (record_checks R i r) ≡ clean → Fits R i
  fits e =
      let a = one_clean _ OtherTransferor i 0 _ e in
      let b = one_clean _ KeyRepeated i _ _ a.1 in
      let c = one_clean _ LinkMissing i _ [] b.1 in
      record { of_one_transferor = same_transferor R r a.0; apart = no_clash R r i b.0; linked = links_there R r c.0 }

  fits_clean : Fits R i → first_fault (record_checks R i r) ≡ clean
  unfolding first_fault
  fits_clean f = rw (transferor_same R r f.of_one_transferor, clash_none R r i f.apart, there_links R r f.linked)

  first_clash : ltb (earlier_of R i r) i ≡ true → let j = earlier_of R i r in
      (j < i) × Clash r (record_at R j) × ((m : ℕ) → m < j → Clash r (record_at R m) → ⊥)
  unfolding earlier_of
  first_clash e =
      let p : ℕ → Bool = λ j. clash r (record_at R j) in
      let l = ltb-true (least p i) i e in
      (l, clash_means r _ (passes p i l), λ m b k. never (means_clash r (record_at R m) k) (before p i m b))

  clash_first : (j : ℕ) → j < i → Clash r (record_at R j) → ((m : ℕ) → m < j → Clash r (record_at R m) → ⊥) → earlier_of R i r ≡ j
  unfolding earlier_of
  clash_first j l c n =
      let p : ℕ → Bool = λ k. clash r (record_at R k) in
      hit p j i (none p j (λ m b. refuted (clash r (record_at R m)) (λ e. n m b (clash_means r (record_at R m) e)))) (means_clash r (record_at R j) c) l

  another : (OfOneTransferor R i → ⊥) → other_transferor R r ≡ true
  unfolding other_transferor
  another n = rw (refuted (same _ _) (λ e. n (same_is _ _ e)))

-- THE PASSES
module _ (s : List ℕ) where
  abbrev R : List Rec
  R = records_of s

  abbrev rest : List ℕ
  rest = rest_of s

  abbrev Told : Refusal → Type 0
  Told why = Fault s R rest (number_of_reason why.reason) why.place why.detail

  fields_told : (i : ℕ) → first_fault (field_checks (0 + i) (record_at R i)) ≡ clean → KeepsRules (record_at R i)
  fields_told i e = keeps (record_at R i) (0 + i) e

  first_told : length s ≤ limit → (why : Refusal) → first_fault (first_pass s) ≡ fault why → Told why
  unfolding first_pass
  first_told l why e = ⊎_elim by_field by_end (append_fault (each_from 0 field_checks R) (end_checks (length R) rest) e)
    where
      by_field : first_fault (each_from 0 field_checks R) ≡ fault why → Told why
      by_field e =
          let h = each_fault field_checks no_rec 0 R why e in
          let i = h.at in
          let r = record_at R i in
          let b = last_fault _ FieldBroken (0 + i) _ h.fails in
          rw (← b.1, zero-add)
          (breaks_a_field i (unwrap_or (broken_field r.table r.body) 0) (record { size = l; earlier = λ j m. fields_told j (h.earlier_clean j m) }) h.inside
          (breaks r _ (some_is _ b.0)))

      whole_look : first_fault (each_from 0 field_checks R) ≡ clean → FirstLook s R (length R)
      whole_look c = record { size = l; earlier = λ j m. fields_told j (each_clean field_checks no_rec 0 R c j m) }

      by_end : (first_fault (each_from 0 field_checks R) ≡ clean) × (first_fault (end_checks (length R) rest) ≡ fault why) → Told why
      by_end h =
          ⊎_elim
          (λ b. let d = both_true (ltb 0 (length rest)) (is_unknown (step_of rest)) b.0 in
          rw (← b.1) (unknown_mark (whole_look h.0) (ltb-true 0 (length rest) d.0) (unknown_means rest (is_unknown_lem (step_of rest) d.1))))
          (λ b. let c = last_fault _ RecordShort (length R) 0 b.1 in rw (← c.1) (too_short (whole_look h.0) (short_means rest (is_short_lem (step_of rest) c.0))))
          (one_fault _ MarkUnknown (length R) 0 _ h.1)
        where
          is_unknown_lem : (v : Step) → is_unknown v ≡ true → v ≡ Unknown
          is_unknown_lem Unknown e = refl
          is_unknown_lem Short e = never e refl
          is_unknown_lem (Whole t start next) e = never e refl

          is_short_lem : (v : Step) → is_short v ≡ true → v ≡ Short
          is_short_lem Unknown e = never e refl
          is_short_lem Short e = refl
          is_short_lem (Whole t start next) e = never e refl

  -- the first pass found nothing
  module _ (l : length s ≤ limit) (e : first_fault (first_pass s) ≡ clean) where
    passed : (first_fault (each_from 0 field_checks R) ≡ clean) × (first_fault (end_checks (length R) rest) ≡ clean)
    unfolding first_pass
    passed = append_clean (each_from 0 field_checks R) (end_checks (length R) rest) e

    look : (i : ℕ) → i < length R → ((j : ℕ) → j < i → Fits R j) → SecondLook s R i
    look i m f =
        let z : rest ≡ [] = nothing_left (length R) rest (means_over rest (cut_means s).over) passed.1 in
        record {
          size = l;
          whole = sym (cut_joined s) ∙ rw z (append-nil (joined R));
          fields = λ j h. fields_told j (each_clean field_checks no_rec 0 R passed.0 j h);
          inside = m;
          earlier = f;
        }

    second_told : (why : Refusal) → first_fault (second_pass R) ≡ fault why → Told why
    unfolding second_pass
    second_told why q =
        let h = each_fault (record_checks R) no_rec 0 R why q in
        let i = h.at in
        let r = record_at R i in
        let k = look i h.inside (λ j m. fits R j (rw zero-add at (h.earlier_clean j m))) in
        let f : first_fault (record_checks R i r) ≡ fault why = rw zero-add at h.fails in
        ⊎_elim
        (λ a. rw (← a.1) (other_transferor_fault i k (λ t. never a.0 (transferor_same R r t))))
        (λ a. let t = same_transferor R r a.0 in
        ⊎_elim (λ b. let c = first_clash R i b.0 in rw (← b.1) (repeats_a_key i (earlier_of R i r) k t c.0 c.1 c.2))
        (λ b. let c = last_fault _ LinkMissing i _ b.1 in rw (← c.1) (lacks_a_link i _ k t (no_clash R r i b.0) (link_missing R r c.0)))
        (one_fault _ KeyRepeated i _ _ a.1))
        (one_fault _ OtherTransferor i 0 _ f)

  -- THE FIRST CHECK THAT FAILS is the fault,
  pub fault_means : (why : Refusal) → first_fault (checks s) ≡ fault why → Told why
  unfolding checks
  fault_means why e =
      ⊎_elim (λ a. rw (← a.1) (too_long (ltb-true limit (length s) a.0)))
      (λ a. let l = ltb-false limit (length s) a.0 in
      ⊎_elim (λ b. first_told l why b) (λ b. second_told l b.0 why b.1) (append_fault (first_pass s) (second_pass R) a.1))
      (one_fault _ BundleTooLong 0 0 _ e)

  -- AND BACK
  within : length s ≤ limit → first_fault (checks s) ≡ first_fault (first_pass s ++ second_pass R)
  unfolding checks first_fault
  within l = rw (le-ltb limit (length s) l)

  in_first : length s ≤ limit → (why : Refusal) → first_fault (first_pass s) ≡ fault why → first_fault (checks s) ≡ fault why
  in_first l why e = within l ∙ (fault_append (first_pass s) (second_pass R) ∙ rw e)

  fields_clean : ((j : ℕ) → j < length R → KeepsRules (record_at R j)) → first_fault (each_from 0 field_checks R) ≡ clean
  fields_clean k = clean_each field_checks no_rec 0 R (λ j l. kept_clean (record_at R j) (0 + j) (k j l))

  at_end : FirstLook s R (length R) → (why : Refusal) → first_fault (end_checks (length R) rest) ≡ fault why → first_fault (checks s) ≡ fault why
  unfolding first_pass
  at_end k why e =
      in_first k.size why (fault_append (each_from 0 field_checks R) (end_checks (length R) rest) ∙ rw (fields_clean k.earlier) e)

  first_clean : (i : ℕ) → SecondLook s R i → first_fault (first_pass s) ≡ clean
  unfolding first_pass
  first_clean i k =
      let n : length s ≡ length (joined R) + length rest = ap length (sym (cut_joined s)) ∙ length-append (joined R) rest in
      let z : rest ≡ [] = no_more rest (omega (arith, ap length k.whole)) in
      clean_append (each_from 0 field_checks R) (end_checks (length R) rest) (fields_clean k.fields) (rw z (left_nothing (length R)))
    where
      no_more : (xs : List ℕ) → length xs ≡ 0 → xs ≡ []
      no_more [] e = refl
      no_more (x ∷ xs) e = absurd (omega arith)

  in_second : (i : ℕ) → SecondLook s R i → (why : Refusal) → first_fault (record_checks R i (record_at R i)) ≡ fault why → first_fault (checks s) ≡ fault why
  unfolding second_pass
  in_second i k why e =
      within k.size
      ∙ (fault_append (first_pass s) (second_pass R)
      ∙ rw (first_clean i k)
      (fault_each (record_checks R) no_rec 0 R why
      (record { at = i; inside = k.inside; fails = rw zero-add e; earlier_clean = λ j m. rw zero-add (fits_clean R j (k.earlier j m)) })))

  pub means_fault : (n p d : ℕ) → Fault s R rest n p d → IsFault (first_fault (checks s)) n p d
  unfolding checks first_pass first_fault
  means_fault n p d (too_long l) = (BundleTooLong, refl, refl, rw (lt-ltb limit (length s) l))
  means_fault n p d (unknown_mark k l m) =
      (MarkUnknown, refl, refl, at_end k (refuse MarkUnknown (length R) 0) (rw (lt-ltb 0 (length rest) l, no_mark_is rest m)))
  means_fault n p d (too_short k m) =
      (RecordShort, refl, refl, at_end k (refuse RecordShort (length R) 0) (rw (too_short_is rest m, and-false (ltb 0 (length rest)))))
  means_fault n p d (breaks_a_field i f k l b) =
      let e = broken_is (record_at R i) f b in (
        FieldBroken,
        refl,
        refl,
        in_first k.size (refuse FieldBroken i f)
            (fault_append (each_from 0 field_checks R) (end_checks (length R) rest)
            ∙ rw (fault_each field_checks no_rec 0 R (refuse FieldBroken i f)
            (record {
              at = i;
              inside = l;
              fails = rw (zero-add, e);
              earlier_clean = λ j m. kept_clean (record_at R j) (0 + j) (k.earlier j m);
            }))),
      )
  means_fault n p d (other_transferor_fault i k t) = (OtherTransferor, refl, refl, in_second i k (refuse OtherTransferor i 0) (rw (another R i t)))
  means_fault n p d (repeats_a_key i j k t l c m) =
      (KeyRepeated, refl, refl, in_second i k (refuse KeyRepeated i j) (rw (transferor_same R (record_at R i) t, clash_first R i j l c m, lt-ltb j i l)))
  means_fault n p d (lacks_a_link i f k t c m) =
      let e = missing_link_lem R (record_at R i) f m in
      (LinkMissing, refl, refl, in_second i k (refuse LinkMissing i f) (rw (transferor_same R (record_at R i) t, clash_none R (record_at R i) i c, e.0, e.1)))

-- A BUNDLE IS REFUSED with a number, a place and a detail only if it has that fault, and if it has.
pub refused_fault : (s : List ℕ) (why : Refusal) → verdict_of s ≡ Err why → Fault s (records_of s) (rest_of s) (number_of_reason why.reason) why.place why.detail
unfolding verdict_of
refused_fault s why e = fault_means s why (is_fault (first_fault (checks s)) (length (records_of s)) why e)

pub fault_refused : (s : List ℕ) (R : List Rec) (rest : List ℕ) → Cut s R rest → (n p d : ℕ) → Fault s R rest n p d → IsRefused (verdict_of s) n p d
unfolding verdict_of
fault_refused s R rest c n p d f =
    let e = cut_only s R rest c in
    let h = means_fault s n p d (rw (e.0, e.1) f) in
    (h.0, h.1, h.2, rw h.3)
