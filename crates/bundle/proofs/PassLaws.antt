-- What each record adds to the two passes: the laws that their loops cite.
-- Assumes nothing.
use Rattle.std.specs.Prelude.{Ok, Err, Option, Some, None, is_some, unwrap_or}
use Prim.Native.Nat.{ℕ, ◌+◌, ◌≤◌, ◌<◌}
use mathlib.Core.Path.{◌≡◌, refl, ◌∙◌}
use mathlib.Core.Bool.{Bool, true, false, cond, not}
use mathlib.Core.Logic.{⊎_elim}
use mathlib.Core.List.{List, [], ◌∷◌, ◌++◌}
use native.Mathlib.Omega.{arith}
use lib.Dec.{ltb}
use lib.ListN.{length, get_or, take, drop, length-drop, drop_of_length-le}
use borrow.Author.Tests.{lt-ltb, le-ltb}
use Rattle.common.specs.declared.reasons.Reason.TheVariants.{BundleTooLong, MarkUnknown, RecordShort, FieldBroken, OtherTransferor, KeyRepeated, LinkMissing}
use Rattle.common.specs.Lists.{same}
use Rattle.common.specs.Checks.{refuse, Finding, clean, fault, first_fault, each_from}
use Rattle.common.specs.declared.Refusal.{Refusal}
use Rattle.common.proofs.Checks.{by_finding, or_else, fault_append}
use Rattle.layout.specs.declared.rows.Row.{Row}
use Rattle.layout.specs.Layout.{table_at, layout}
use Rattle.layout.specs.declared.Table.{Table}
use Rattle.layout.specs.Fields.{transferor_of}
use Rattle.layout.specs.Rules.{first_broken, broken_field}
use Rattle.layout.specs.Helpers.{first_row, obeys_row}
use Rattle.layout.proofs.BrokenField.{broken_in_table}
use Rattle.bundle.specs.Records.{Rec, no_rec, step_of, between, records_of, rest_of}
use Rattle.bundle.specs.Keys.{other_transferor, earlier_of}
use Rattle.bundle.specs.Links.{links, link_rows, no_link, missing_link}
use Rattle.bundle.specs.Verdict.{limit, field_checks, end_checks, first_pass, record_checks, second_pass, checks, judged, verdict_of}
use Rattle.bundle.specs.Helpers.{first_tells, second_tells}
use Rattle.bundle.specs.declared.walk.Step.TheVariants.{Unknown, Short}
use Rattle.bundle.proofs.Steps.{nothing_there}
use Rattle.bundle.proofs.Here.{Here, Stands, Over, unknown, short, over_nil, over_rest, over_count}

-- what the first pass finds from record i on
abbrev pub first_from : List ℕ → ℕ → Finding
first_from s i = first_fault (each_from i field_checks (drop i (records_of s)) ++ end_checks (length (records_of s)) (rest_of s))

pub first_start : (s : List ℕ) → first_fault (first_pass s) ≡ first_from s 0
unfolding first_pass
first_start s = refl

-- the first field that breaks its rule, from the rows as they were lent
pub found_field : (t : Table) (body : List ℕ) {rows own : List Row} {f : Option ℕ} → rows ≡ layout → own ≡ take (length (table_at t).rows) (drop (first_row t) rows)
    → f ≡ first_broken (obeys_row body) own → f ≡ broken_field t body
found_field t body e o q = rw (q, o, e) (broken_in_table t body)

module _ (s : List ℕ) (p i : ℕ) (h : Here s p i) where
  module _ {t : Table} {start next : ℕ} (w : Stands s p i t start next) {found : Option ℕ} (q : found ≡ broken_field t (between start next s)) where
    field_step : first_from s i ≡ cond (is_some found) (fault (refuse FieldBroken i (unwrap_or found 0))) (first_from s (i + 1))
    unfolding each_from first_fault
    field_step = rw (w.cons, q)

    pub field_fault : {f : ℕ} → found ≡ Some f → first_from s i ≡ fault (refuse FieldBroken i f)
    field_fault e = rw e at (field_step)

    pub fields_pass : found ≡ None → first_from s i ≡ first_from s (i + 1)
    fields_pass e = rw e at (field_step)

  at_over : Over (drop p s) → first_from s i ≡ first_fault (end_checks i (drop p s))
  unfolding each_from
  at_over o = rw (over_nil s p i h o, over_count s p i h o, over_rest s p i h o)

  pub first_unknown : p < length s → step_of (drop p s) ≡ Unknown → first_from s i ≡ fault (refuse MarkUnknown i 0)
  unfolding first_fault
  first_unknown l e =
      let b : 0 < length (drop p s) = rw length-drop (omega arith) in
      at_over (unknown e) ∙ rw (e, lt-ltb 0 (length (drop p s)) b)

  pub first_short : p < length s → step_of (drop p s) ≡ Short → first_from s i ≡ fault (refuse RecordShort i 0)
  unfolding first_fault
  first_short l e =
      let b : 0 < length (drop p s) = rw length-drop (omega arith) in
      at_over (short e) ∙ rw (e, lt-ltb 0 (length (drop p s)) b)

  pub first_end : length s ≤ p → (first_from s i ≡ clean) × (length (records_of s) ≡ i)
  unfolding first_fault
  first_end l =
      let e : step_of (drop p s) ≡ Unknown = rw (drop_of_length-le s l) nothing_there in
      let b : length (drop p s) ≤ 0 = rw length-drop (omega arith) in
      (at_over (unknown e) ∙ rw (e, le-ltb 0 (length (drop p s)) b), over_count s p i h (unknown e))

-- what the second pass finds from record i on
abbrev pub second_from : List Rec → ℕ → Finding
second_from R i = first_fault (each_from i (record_checks R) (drop i R))

pub second_start : (R : List Rec) → first_fault (second_pass R) ≡ second_from R 0
unfolding second_pass
second_start R = refl

module _ (R : List Rec) (i : ℕ) (r : Rec) (e : drop i R ≡ r ∷ drop (i + 1) R) where
  record_step : second_from R i
      ≡ cond (other_transferor R r) (fault (refuse OtherTransferor i 0))
      (cond (ltb (earlier_of R i r) i) (fault (refuse KeyRepeated i (earlier_of R i r)))
      (cond (ltb (missing_link R r) links) (fault (refuse LinkMissing i (get_or link_rows (missing_link R r) no_link).detail)) (second_from R (i + 1))))
  unfolding each_from first_fault
  record_step = rw e

  pub other_fault : other_transferor R r ≡ true → second_from R i ≡ fault (refuse OtherTransferor i 0)
  other_fault o = record_step ∙ rw o

  module _ (o : other_transferor R r ≡ false) where
    pub key_fault : earlier_of R i r < i → second_from R i ≡ fault (refuse KeyRepeated i (earlier_of R i r))
    key_fault l = record_step ∙ rw (o, lt-ltb _ _ l)

    pub link_fault : i ≤ earlier_of R i r → missing_link R r < links → second_from R i ≡ fault (refuse LinkMissing i (get_or link_rows (missing_link R r) no_link).detail)
    link_fault l m = record_step ∙ rw (o, le-ltb _ _ l, lt-ltb _ _ m)

    pub record_passes : i ≤ earlier_of R i r → links ≤ missing_link R r → second_from R i ≡ second_from R (i + 1)
    record_passes l m = record_step ∙ rw (o, le-ltb _ _ l, le-ltb _ _ m)

pub second_end : (R : List Rec) (i : ℕ) → drop i R ≡ [] → second_from R i ≡ clean
unfolding each_from first_fault
second_end R i e = rw e

-- a comparison of two transferors that were lent
pub compared : (R : List Rec) (r : Rec) {b : Bool} {x y : List ℕ} → b ≡ same x y → x ≡ transferor_of r.body → y ≡ transferor_of (get_or R 0 no_rec).body
    → other_transferor R r ≡ not b
unfolding other_transferor
compared R r e f g = rw (e, f, g)

-- a verdict tells what was found
module _ (f : Finding) (n : ℕ) where
  pub is_fault : (r : Refusal) → judged f n ≡ Err r → f ≡ fault r
  is_fault r e = ⊎_elim (λ h. cc) (λ h. cc) (by_finding f n e)

  pub is_clean_lem : (m : ℕ) → judged f n ≡ Ok m → (f ≡ clean) × (n ≡ m)
  is_clean_lem m e = ⊎_elim (λ h. (h.0, cc)) (λ h. (cc, cc)) (by_finding f n e)

pub too_long : (s : List ℕ) → limit < length s → verdict_of s ≡ Err (refuse BundleTooLong 0 0)
unfolding verdict_of checks first_fault
too_long s l = rw (lt-ltb _ _ l)

module _ (s : List ℕ) (l : length s ≤ limit) where
  in_order : first_fault (checks s) ≡ or_else (first_fault (first_pass s)) (first_fault (second_pass (records_of s)))
  unfolding checks first_fault
  in_order = rw (le-ltb _ _ l) (fault_append (first_pass s) (second_pass (records_of s)))

  pub by_first : (r : Refusal) → first_tells s ≡ Err r → verdict_of s ≡ Err r
  unfolding verdict_of
  by_first r e = rw (in_order, is_fault (first_fault (first_pass s)) (length (records_of s)) r e)

  pub by_second : (m : ℕ) → first_tells s ≡ Ok m → verdict_of s ≡ second_tells s
  unfolding verdict_of
  by_second m e = rw (in_order, (is_clean_lem (first_fault (first_pass s)) (length (records_of s)) m e).0)
