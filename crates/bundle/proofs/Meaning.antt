-- WHAT A VERDICT MEANS. Accepted with n exactly if the bytes are n records that keep every rule; refused exactly if that check of the order fails
-- and none before it.
-- Assumes nothing.
use Rattle.std.specs.Prelude.{Ok, is_some}
use Prim.Native.Nat.{ℕ, suc, ◌+◌, ◌<◌}
use mathlib.Core.Path.{◌≡◌, refl, sym, ◌∙◌}
use mathlib.Core.Bool.{false}
use mathlib.Core.List.{List, [], ◌∷◌, ◌++◌, append-nil}
use native.Mathlib.Nat.{zero-add}
use native.Mathlib.Omega.{arith}
use lib.Dec.{ltb}
use lib.ListN.{length}
use borrow.Author.Tests.{lt-ltb, le-ltb, ltb-false, not-false}
use Rattle.common.specs.declared.reasons.Reason.TheVariants.{BundleTooLong, MarkUnknown, RecordShort, FieldBroken, OtherTransferor, KeyRepeated, LinkMissing}
use Rattle.common.specs.Lists.{same}
use Rattle.common.specs.Checks.{clean, first_fault, each_from}
use Rattle.common.proofs.Tests.{never, refuted}
use Rattle.common.proofs.Least.{finds_none, none_finds}
use Rattle.common.proofs.Lists.{same_is, is_same}
use Rattle.common.proofs.Checks.{one_clean, clean_one, append_clean, clean_append, each_clean, clean_each}
use Rattle.layout.specs.Fields.{transferor_of}
use Rattle.layout.specs.Rules.{broken_field}
use Rattle.layout.proofs.Tables.{unbroken_keeps}
use Rattle.bundle.specs.Records.{Rec, no_rec, records_of, rest_of}
use Rattle.bundle.specs.Keys.{other_transferor, clash, earlier_of}
use Rattle.bundle.specs.Verdict.{limit, field_checks, end_checks, first_pass, record_checks, second_pass, checks, verdict_of}
use Rattle.bundle.specs.Meaning.{joined, record_at, KeepsRules, Clash, Good}
use Rattle.bundle.proofs.Steps.{nothing_there}
use Rattle.bundle.proofs.Here.{Over, unknown, short}
use Rattle.bundle.proofs.PassLaws.{is_clean_lem}
use Rattle.bundle.proofs.KeyMeaning.{clash_means, means_clash}
use Rattle.bundle.proofs.LinkMeaning.{links_there, there_links}
use Rattle.bundle.proofs.CutAndJoin.{cut_joined, cut_over, cut_whole, joined_cut}

-- FIELDS: none is broken exactly if each keeps its rule
unbroken : (r : Rec) → KeepsRules r → is_some (broken_field r.table r.body) ≡ false
unbroken r e = rw (unbroken_keeps r.table r.body, e)

-- RECORDS beside the others
module _ (R : List Rec) (r : Rec) where
  pub same_transferor : other_transferor R r ≡ false → transferor_of r.body ≡ transferor_of (record_at R 0).body
  unfolding other_transferor
  same_transferor e = same_is _ _ (not-false (same (transferor_of r.body) (transferor_of (record_at R 0).body)) e)

  pub transferor_same : transferor_of r.body ≡ transferor_of (record_at R 0).body → other_transferor R r ≡ false
  unfolding other_transferor
  transferor_same e = rw (is_same _ _ e)

  pub no_clash : (i : ℕ) → ltb (earlier_of R i r) i ≡ false → (j : ℕ) → j < i → Clash r (record_at R j) → ⊥
  unfolding earlier_of
  no_clash i e j l k = never (means_clash r (record_at R j) k) (finds_none (λ k. clash r (record_at R k)) i e j l)

  pub clash_none : (i : ℕ) → ((j : ℕ) → j < i → Clash r (record_at R j) → ⊥) → ltb (earlier_of R i r) i ≡ false
  unfolding earlier_of
  clash_none i f = none_finds (λ k. clash r (record_at R k)) i (λ j l. refuted (clash r (record_at R j)) (λ e. f j l (clash_means r (record_at R j) e)))

-- THE END: nothing is left after the records
pub nothing_left : (n : ℕ) (rest : List ℕ) → Over rest → first_fault (end_checks n rest) ≡ clean → rest ≡ []
nothing_left n [] o e = refl
nothing_left n (x ∷ rest) (unknown q) e =
    let d = (one_clean _ MarkUnknown n 0 _ e).0 in
    never (rw (q, lt-ltb 0 (suc (length rest)) (omega arith))) d
nothing_left n (x ∷ rest) (short q) e =
    let d = (one_clean _ RecordShort n 0 _ (one_clean _ MarkUnknown n 0 _ e).1).0 in
    never (rw q) d

pub left_nothing : (n : ℕ) → first_fault (end_checks n []) ≡ clean
unfolding first_fault
left_nothing n = rw nothing_there

-- ACCEPTED
module _ (s : List ℕ) where
  abbrev R : List Rec
  R = records_of s

  module _ (e : first_fault (checks s) ≡ clean) where
    size : (ltb limit (length s) ≡ false) × (first_fault (first_pass s ++ second_pass R) ≡ clean)
    unfolding checks
    size = one_clean (ltb limit (length s)) BundleTooLong 0 0 (first_pass s ++ second_pass R) e

    passes : (first_fault (each_from 0 field_checks R) ≡ clean) × (first_fault (end_checks (length R) (rest_of s)) ≡ clean)
    unfolding first_pass
    passes = append_clean (each_from 0 field_checks R) (end_checks (length R) (rest_of s)) (append_clean (first_pass s) (second_pass R) size.1).0

    by_record : first_fault (each_from 0 (record_checks R) R) ≡ clean
    unfolding second_pass
    by_record = (append_clean (first_pass s) (second_pass R) size.1).1

    fields : (i : ℕ) → i < length R → KeepsRules (record_at R i)
    fields i l =
        let r = record_at R i in
        not-false _ (sym (unbroken_keeps r.table r.body) ∙ (one_clean _ FieldBroken (0 + i) _ [] (each_clean field_checks no_rec 0 R passes.0 i l)).0)

    beside : (i : ℕ) → i < length R → first_fault (record_checks R i (record_at R i)) ≡ clean
    beside i l = rw zero-add at (each_clean (record_checks R) no_rec 0 R by_record i l)

    empty : rest_of s ≡ []
    empty = nothing_left (length R) (rest_of s) (cut_over s) passes.1

    clean_good : Good s R
    clean_good =
        record {
          size = ltb-false limit (length s) size.0;
          bytes = sym (cut_joined s) ∙ rw empty (append-nil (joined R));
          whole = cut_whole s;
          fields = fields;
          transferors = λ i l. same_transferor R (record_at R i) (one_clean _ OtherTransferor i 0 _ (beside i l)).0;
          apart = λ i j l. no_clash R (record_at R i) i (one_clean _ KeyRepeated i _ _ (one_clean _ OtherTransferor i 0 _ (beside i l)).1).0 j;
          linked = λ i l. links_there R (record_at R i) (one_clean _ LinkMissing i _ _ (one_clean _ KeyRepeated i _ _ (one_clean _ OtherTransferor i 0 _ (beside i l)).1).1).0;
        }

module _ (s : List ℕ) (R : List Rec) (g : Good s R) where
  back : (records_of s ≡ R) × (rest_of s ≡ [])
  back = rw (g.bytes, ← append-nil (joined R)) (joined_cut [] (unknown nothing_there) R g.whole)

  pub recut : records_of s ≡ R
  recut = back.0

  left : rest_of s ≡ []
  left = back.1

  record_clean : (i : ℕ) → i < length R → first_fault (record_checks R i (record_at R i)) ≡ clean
  unfolding first_fault
  record_clean i l =
      let r = record_at R i in
      rw (transferor_same R r (g.transferors i l), clash_none R r i (λ j m. g.apart i j l m), there_links R r (g.linked i l))

  first_clean : first_fault (first_pass s) ≡ clean
  unfolding first_pass first_fault
  first_clean =
      rw (recut, left)
      (clean_append (each_from 0 field_checks R) (end_checks (length R) [])
      (clean_each field_checks no_rec 0 R (λ i l. clean_one _ FieldBroken (0 + i) _ [] (unbroken (record_at R i) (g.fields i l)) refl)) (left_nothing (length R)))

  second_clean : first_fault (second_pass (records_of s)) ≡ clean
  unfolding second_pass
  second_clean = rw recut (clean_each (record_checks R) no_rec 0 R (λ i l. rw zero-add (record_clean i l)))

  good_clean : first_fault (checks s) ≡ clean
  unfolding checks
  good_clean =
      clean_one (ltb limit (length s)) BundleTooLong 0 0 _ (le-ltb limit (length s) g.size)
      (clean_append (first_pass s) (second_pass (records_of s)) first_clean second_clean)

-- A bundle is accepted with n only if it is n records that keep every rule,
pub accepted_good : (s : List ℕ) (n : ℕ) → verdict_of s ≡ Ok n → Good s (records_of s) × (length (records_of s) ≡ n)
unfolding verdict_of
accepted_good s n e =
    let d = is_clean_lem (first_fault (checks s)) (length (records_of s)) n e in
    (clean_good s d.0, d.1)

-- and if it is.
pub good_accepted : (s : List ℕ) (R : List Rec) → Good s R → verdict_of s ≡ Ok (length R)
unfolding verdict_of
good_accepted s R g = rw (good_clean s R g, recut s R g)
