-- What holds of every table. Each fact is one test that antt computes over the list of the tables, and one law that turns it into the fact at a table:
-- a further block in the layout runs the tests again and changes no law.
-- Assumes nothing.
use Prim.Native.Nat.{ℕ, ◌+◌, ◌-◌, ◌*◌, ◌<◌}
use Rattle.std.specs.Prelude.{Some, None, is_some, find}
use mathlib.Core.Path.{◌≡◌, refl, sym, ap, ◌∙◌}
use mathlib.Core.Bool.{Bool, true, false, cond, not, ◌&&◌, ◌||◌}
use mathlib.Core.List.{List, [], ◌∷◌, map}
use native.Mathlib.Omega.{arith}
use denote.Enum.Bare.{same_true, true_same, false_same}
use lib.Dec.{eqb, ltb}
use lib.ListN.{length, take, drop}
use lib.Seq.{drop-drop}
use borrow.Author.Tests.{not-true, not-false, eqb-true, eq-eqb, ne_eqb}
use Rattle.common.specs.Least.{least}
use Rattle.common.specs.Lists.{every, any, same, sum}
use Rattle.common.specs.Ranks.{rank_of}
use Rattle.common.proofs.Least.{before}
use Rattle.common.specs.Digits.{number_of, value_of, is_within}
use Rattle.common.proofs.Lists.{same_is, same_parts}
use Rattle.common.proofs.Tests.{never, both_true}
use Rattle.layout.specs.Layout.{CO, each_table, table_number, is_table, table_at, end_of, length_of, stand_from}
use Rattle.layout.specs.Fields.{field_at, bytes_in, row_with, row_of, bytes_of, transferor_of, of_offers, offer_of, railway_of, code_of, code_fits, same_key, is_first, is_last, day_row, has_period}
use Rattle.layout.specs.Company.{is_company}
use Rattle.layout.specs.Rules.{ruled, kept_beside, keeps_row, first_broken, broken_field, keeps_rules}
use Rattle.layout.specs.Helpers.{no_span, code_span, key_length, table_step, key_number}
use Rattle.layout.specs.declared.fields.Span.{Span}
use Rattle.layout.specs.contracts.Table.{the_type}
use Rattle.layout.specs.declared.Table.{Table}
use Rattle.layout.specs.declared.Table.TheVariants.{Co, Re, Ar, Me}
use Rattle.layout.specs.declared.rows.Row.{Row}
use Rattle.layout.specs.declared.rules.Rule.{Rule}
use Rattle.layout.specs.declared.rules.Rule.TheVariants.{Number}
use Rattle.layout.proofs.RuleNumbers.{least_of, most_of, alike_rules, same_rule, alike_rows, same_row}

-- a test that no number below n fails holds at each
pub computed : (p : ℕ → Bool) (n : ℕ) → least (λ k. not (p k)) n ≡ n → (k : ℕ) → k < n → p k ≡ true
computed p n e k h = not-false (p k) (before (λ j. not (p j)) n k (omega (arith, e)))

-- and one that all tables pass holds at any
pub at_each : (p : Table → Bool) → every p each_table ≡ true → (t : Table) → p t ≡ true
unfolding every
at_each p e t = go t (both_true (p Co) (p Re && (p Ar && (p Me && true))) e)
  where
    go : (u : Table) → (p Co ≡ true) × ((p Re && (p Ar && (p Me && true))) ≡ true) → p u ≡ true
    go Co a = a.0
    go Re a = (both_true (p Re) (p Ar && (p Me && true)) a.1).0
    go Ar a = (both_true (p Ar) (p Me && true) (both_true (p Re) (p Ar && (p Me && true)) a.1).1).0
    go Me a = (both_true (p Me) true (both_true (p Ar) (p Me && true) (both_true (p Re) (p Ar && (p Me && true)) a.1).1).1).0

no_table_lem : {A : Type 0} {t : Table} → None ≡ Some t → A
no_table_lem e = let z : ◌≡◌ {A = ℕ} 0 1 = cc in absurd (omega arith)

-- TWO TABLES are the same or not, as the test says
pub table_is : (t u : Table) → is_table t u ≡ true → t ≡ u
table_is t u e = same_true the_type tt t u e

pub is_table_lem : (t u : Table) → t ≡ u → is_table t u ≡ true
is_table_lem t u e = true_same the_type t u e

pub other_table : (t u : Table) → (t ≡ u → ⊥) → is_table t u ≡ false
other_table t u n = false_same the_type tt t u n

-- and the code's two tables differ, or are one
pub differ : {b n : Bool} → n ≡ not b → n ≡ true → b ≡ false
differ {b} e h = not-true b (sym e ∙ h)

pub agree : {b n : Bool} → n ≡ not b → n ≡ false → b ≡ true
agree {b} e h = not-false b (sym e ∙ h)

pub not_both : {A : Type 0} {t u v : Table} → is_table u v ≡ false → t ≡ u → t ≡ v → A
not_both {t = t} {u = u} {v = v} n a b = never (is_table_lem u v (sym a ∙ b)) n

-- A SEARCH for a table finds one that passes, or none passes
pub find_passes : (p : Table → Bool) (ts : List Table) (t : Table) → find p ts ≡ Some t → p t ≡ true
find_passes p [] t e = no_table_lem e
find_passes p (u ∷ us) t e = go (p u) refl e (find_passes p us t)
  where
    go : (b : Bool) → p u ≡ b → cond b (Some u) (find p us) ≡ Some t → (find p us ≡ Some t → p t ≡ true) → p t ≡ true
    go true h q f = let z : u ≡ t = cc in rw (← z) h
    go false h q f = f q

find_none : (p : Table → Bool) (ts : List Table) → find p ts ≡ None → every (λ t. not (p t)) ts ≡ true
unfolding every
find_none p [] e = refl
find_none p (u ∷ us) e = go (p u) e (find_none p us)
  where
    go : (b : Bool) → cond b (Some u) (find p us) ≡ None → (find p us ≡ None → every (λ t. not (p t)) us ≡ true)
        → (not b && every (λ t. not (p t)) us) ≡ true
    go true q f = no_table_lem (sym q)
    go false q f = f q

pub none_passes : (p : Table → Bool) → find p each_table ≡ None → (t : Table) → p t ≡ false
none_passes p e t = not-true (p t) (at_each (λ u. not (p u)) (find_none p each_table e) t)

pub none_found : (p : Table → Bool) → ((t : Table) → p t ≡ false) → find p each_table ≡ None
none_found p f = rw (f Co, f Re, f Ar, f Me)

-- MARKS have two bytes and differ: the first table that has the mark of t is t
pub mark_length : (t : Table) → length (table_at t).mark ≡ 2
unfolding table_at
mark_length Co = refl
mark_length Re = refl
mark_length Ar = refl
mark_length Me = refl

pub marks_differ : (t : Table) → find (λ u. same (table_at t).mark (table_at u).mark) each_table ≡ Some t
unfolding same table_at
marks_differ Co = refl
marks_differ Re = refl
marks_differ Ar = refl
marks_differ Me = refl

-- ALIKE: the rows of field 1 in every table, and of fields 2 and 3 in every table that has a railway, are CO's
abbrev alike : ℕ → Table → Bool
alike f t = alike_rows (row_of t f) (row_of CO f)

abbrev has : ℕ → Table → Bool
has f t = any (λ (r : Row). eqb r.field f) (table_at t).rows

row_alike : (f : ℕ) (t : Table) → alike f t ≡ true → row_of t f ≡ row_of CO f
row_alike f t e = same_row (row_of t f) (row_of CO f) e

pub transferor_stands : (t : Table) (body : List ℕ) → bytes_of t 1 body ≡ transferor_of body
unfolding every same row_of row_with table_at transferor_of bytes_of
transferor_stands t body = ap (λ r. bytes_in r body) (row_alike 1 t (at_each (alike 1) refl t))

pub if_so : (b : Bool) {d : Bool} → b ≡ true → (not b || d) ≡ true → d ≡ true
if_so b e h = rw e at h

module _ (t : Table) (o : of_offers t ≡ true) where
  offer_row : (row_of t 2 ≡ row_of CO 2) × (has 2 t ≡ true)
  unfolding every any same of_offers row_of row_with table_at
  offer_row = (
    row_alike 2 t (if_so (of_offers t) o (at_each (λ u. not (of_offers u) || alike 2 u) refl t)),
    if_so (of_offers t) o (at_each (λ u. not (of_offers u) || has 2 u) refl t),
  )

  railway_row : (row_of t 3 ≡ row_of CO 3) × (has 3 t ≡ true)
  unfolding every any same of_offers row_of row_with table_at
  railway_row = (
    row_alike 3 t (if_so (of_offers t) o (at_each (λ u. not (of_offers u) || alike 3 u) refl t)),
    if_so (of_offers t) o (at_each (λ u. not (of_offers u) || has 3 u) refl t),
  )

  pub offer_stands : (body : List ℕ) → bytes_of t 2 body ≡ offer_of body
  unfolding offer_of bytes_of
  offer_stands body = ap (λ r. bytes_in r body) offer_row.0

  pub railway_stands : (body : List ℕ) → bytes_of t 3 body ≡ railway_of body
  unfolding railway_of bytes_of
  railway_stands body = ap (λ r. bytes_in r body) railway_row.0

-- CODES: where a table has one, it has bytes, and the span says where
codes_long : (t : Table) → (eqb (table_at t).code 0 || not (eqb (row_of t (table_at t).code).length 0)) ≡ true
unfolding every row_of row_with table_at
codes_long t =
    at_each (λ u. eqb (table_at u).code 0 || not (eqb (row_of u (table_at u).code).length 0)) refl t

module _ (t : Table) (body : List ℕ) where
  pub code_spanned : field_at (code_span t).0 (code_span t).1 body ≡ code_of t body
  unfolding code_span code_of bytes_of
  code_spanned = go (eqb (table_at t).code 0) ((row_of t (table_at t).code).start, (row_of t (table_at t).code).length)
    where
      go : (b : Bool) (u : Span) → field_at (cond b no_span u).0 (cond b no_span u).1 body ≡ cond b [] (field_at u.0 u.1 body)
      go true u = refl
      go false u = refl

  pub no_span_lem : (code : ℕ) → (code_span t).1 ≡ 0 → true ≡ code_fits t code body
  unfolding code_span code_fits
  no_span_lem code e = go (eqb (table_at t).code 0) ((row_of t (table_at t).code).start, (row_of t (table_at t).code).length) (codes_long t) e _
    where
      go : (b : Bool) (u : Span) → (b || not (eqb u.1 0)) ≡ true → (cond b no_span u).1 ≡ 0 → (x : Bool) → true ≡ cond b true x
      go true u l e x = refl
      go false u l e x = never l (rw (eq-eqb u.1 0 e))

  pub a_span : (code : ℕ) → ((code_span t).1 ≡ 0 → ⊥) → eqb (value_of (number_of (field_at (code_span t).0 (code_span t).1 body))) code ≡ code_fits t code body
  unfolding code_span code_fits
  a_span code n = ap (λ s. eqb (value_of (number_of s)) code) code_spanned ∙ go (eqb (table_at t).code 0) ((row_of t (table_at t).code).start, (row_of t (table_at t).code).length) n _
    where
      go : (b : Bool) (u : Span) → ((cond b no_span u).1 ≡ 0 → ⊥) → (x : Bool) → x ≡ cond b true x
      go true u n x = absurd (n refl)
      go false u n x = refl

-- KEYS: fields that stand one behind the other are the same exactly if their bytes are, taken together,
abbrev length_in : Table → List ℕ → ℕ
length_in t fs = sum (map (λ f. (row_of t f).length) fs)

at_once : (t : Table) (p : ℕ) (fs : List ℕ) (a b : List ℕ) → stand_from (p + 1) (map (row_of t) fs) ≡ true
    → same (take (length_in t fs) (drop p a)) (take (length_in t fs) (drop p b)) ≡ every (λ f. same (bytes_of t f a) (bytes_of t f b)) fs
unfolding sum same every stand_from bytes_of
at_once t p [] a b e = refl
at_once t p (f ∷ fs) a b e =
    let d = both_true (eqb (row_of t f).start (p + 1)) _ e in
    let n = (row_of t f).length in
    let r = both_true (ltb 0 n) (stand_from (p + 1 + n) (map (row_of t) fs)) d.1 in
    let m : p + 1 + n ≡ p + n + 1 = omega arith in
    let q : p + 1 - 1 ≡ p = omega arith in
    same_parts n (length_in t fs) (drop p a) (drop p b)
    ∙ rw (eqb-true (row_of t f).start (p + 1) d.0, q, drop-drop n p a, drop-drop n p b, at_once t (p + n) fs a b (rw (← m) r.1))

-- and the key of every table stands from position 5 on.
key_stands : (t : Table) → stand_from 5 (map (row_of t) (table_at t).key) ≡ true
unfolding every stand_from row_of row_with table_at
key_stands t =
    at_each (λ u. stand_from 5 (map (row_of u) (table_at u).key)) refl t

pub key_at_once : (t : Table) (a b : List ℕ) → same (take (key_length t) (drop 4 a)) (take (key_length t) (drop 4 b)) ≡ same_key t a b
unfolding key_length same_key
key_at_once t a b = at_once t 4 (table_at t).key a b (key_stands t)

-- the same key has the same number
pub same_number_lem : (t : Table) (a b : List ℕ) → same_key t a b ≡ true → key_number t a ≡ key_number t b
unfolding key_number
same_number_lem t a b e = ap (λ k. rank_of k + table_number t * table_step) (same_is (take (key_length t) (drop 4 a)) (take (key_length t) (drop 4 b)) (key_at_once t a b ∙ e))

-- PERIODS: every table has one, in the last 18 bytes of its records
pub record Period (t : Table) : Type 0 where
  pub has : has_period t ≡ true
  pub first : (day_row is_first t).start ≡ length_of t - 17
  pub first_long : (day_row is_first t).length ≡ 8
  pub last : (day_row is_last t).start ≡ length_of t - 7
  pub last_long : (day_row is_last t).length ≡ 8

pub period : (t : Table) → Period t
unfolding every any has_period day_row row_with length_of end_of table_at
period t =
    record {
      has = at_each has_period refl t;
      first = eqb-true _ _ (at_each (λ u. eqb (day_row is_first u).start (length_of u - 17)) refl t);
      first_long = eqb-true _ _ (at_each (λ u. eqb (day_row is_first u).length 8) refl t);
      last = eqb-true _ _ (at_each (λ u. eqb (day_row is_last u).start (length_of u - 7)) refl t);
      last_long = eqb-true _ _ (at_each (λ u. eqb (day_row is_last u).length 8) refl t);
    }

-- A KEPT RECORD keeps the row of each field that its table has
first_with_lem : (p q : Row → Bool) (rs : List Row) → every q rs ≡ true → any p rs ≡ true → q (row_with p rs) ≡ true
unfolding every any row_with
first_with_lem p q [] k h = never h refl
first_with_lem p q (r ∷ rs) k h = go (p r) (both_true (q r) (every q rs) k) (first_with_lem p q rs) h
  where
    go : (b : Bool) → (q r ≡ true) × (every q rs ≡ true) → (every q rs ≡ true → any p rs ≡ true → q (row_with p rs) ≡ true) → (b || any p rs) ≡ true
        → q (cond b r (row_with p rs)) ≡ true
    go true d f h = d.0
    go false d f h = f d.1 h

pub keeps_field : (t : Table) (f : ℕ) (body : List ℕ) → keeps_rules t body ≡ true → any (λ (r : Row). eqb r.field f) (table_at t).rows ≡ true
    → keeps_row t body (row_of t f) ≡ true
unfolding keeps_rules row_of
keeps_field t f body k h = first_with_lem (λ r. eqb r.field f) (keeps_row t body) (table_at t).rows k h

-- and a record breaks a field exactly if it does not keep every rule.
unbroken : (kept : Row → Bool) (rs : List Row) → is_some (first_broken kept rs) ≡ not (every kept rs)
unfolding first_broken every
unbroken kept [] = refl
unbroken kept (r ∷ rs) = go (kept r) (unbroken kept rs)
  where
    go : (b : Bool) → is_some (first_broken kept rs) ≡ not (every kept rs) → is_some (cond b (first_broken kept rs) (Some r.field)) ≡ not (b && every kept rs)
    go true e = e
    go false e = refl

pub unbroken_keeps : (t : Table) (body : List ℕ) → is_some (broken_field t body) ≡ not (keeps_rules t body)
unfolding broken_field keeps_rules
unbroken_keeps t body = unbroken (keeps_row t body) (table_at t).rows

-- so its offer, its railway and its code are such numbers.
module _ (t : Table) (o : of_offers t ≡ true) (body : List ℕ) (k : keeps_rules t body ≡ true) where
  pub offer_kept : is_within 1 99999 (number_of (offer_of body)) ≡ true
  unfolding offer_of bytes_of keeps_row kept_beside ruled row_of row_with table_at
  offer_kept = rw (offer_row t o).0 at (keeps_field t 2 body k (offer_row t o).1)

  pub railway_kept : is_company (railway_of body) ≡ true
  unfolding railway_of bytes_of keeps_row kept_beside ruled row_of row_with table_at
  railway_kept = rw (railway_row t o).0 at (keeps_field t 3 body k (railway_row t o).1)

abbrev code_rule : Table → Rule
code_rule t = (row_of t (table_at t).code).rule

abbrev numbered_code : Table → Bool
numbered_code t = alike_rules (code_rule t) (Number (least_of (code_rule t)) (most_of (code_rule t)))

codes : (t : Table) → ((table_at t).code ≡ 0 → ⊥) → (code_rule t ≡ Number (least_of (code_rule t)) (most_of (code_rule t))) × (has (table_at t).code t ≡ true)
unfolding every any same row_of row_with table_at
codes t n =
    let c : not (eqb (table_at t).code 0) ≡ true = rw (ne_eqb (table_at t).code 0 n) in (
      same_rule _ _ (if_so (not (eqb (table_at t).code 0)) c (at_each (λ u. not (not (eqb (table_at u).code 0)) || numbered_code u) refl t)),
      if_so (not (eqb (table_at t).code 0)) c (at_each (λ u. not (not (eqb (table_at u).code 0)) || has (table_at u).code u) refl t),
    )

pub code_kept : (t : Table) → ((table_at t).code ≡ 0 → ⊥) → (body : List ℕ) → keeps_rules t body ≡ true
    → is_within (least_of (code_rule t)) (most_of (code_rule t)) (number_of (bytes_of t (table_at t).code body)) ≡ true
unfolding keeps_row kept_beside ruled bytes_of
code_kept t n body k = rw (codes t n).0 at (keeps_field t (table_at t).code body k (codes t n).1)
