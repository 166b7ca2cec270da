-- A field keeps its rule exactly if it says what 'Values' allows, and a record its rules exactly if each field does. One test, which antt computes, holds
-- the list of values to the rows; the meaning of each rule does the rest.
-- Assumes nothing.
use Prim.Native.Nat.{ℕ, ◌+◌, ◌-◌}
use mathlib.Core.Path.{◌≡◌, refl, sym, ◌∙◌, ap, subst}
use mathlib.Core.Bool.{Bool, true, ◌&&◌}
use mathlib.Core.List.{List, Memᴰ}
use mathlib.Core.Logic.{◌↔◌}
use native.Mathlib.Omega.{arith}
use lib.Dec.{eqb, leb}
use lib.ListN.{length, length-take, length-drop}
use borrow.Author.Tests.{eqb-true, leb-true}
use Rattle.common.specs.Lists.{every, any, same, up_to}
use Rattle.common.specs.Digits.{number_of}
use Rattle.common.proofs.Tests.{both_true}
use Rattle.common.proofs.Listed.{every_listed, listed_every, any_listed}
use Rattle.layout.specs.Company.{is_company}
use Rattle.layout.specs.Layout.{is_table, table_at, end_of, length_of}
use Rattle.layout.specs.Fields.{row_with, row_of, bytes_of, byte_of, number_in, is_first, day_row}
use Rattle.layout.specs.Rules.{number_or_blank, most_persons, first_day_rule, last_day_rule, ruled, kept_beside, keeps_row, keeps_rules}
use Rattle.layout.specs.Values.{Value, Means, Field, values, text, transferor, railway, number, number_or_blank_value, flag, flag_or_blank_lem, most_persons_value, rounding, factor, first_day_value, last_day_value}
use Rattle.layout.specs.declared.Table.{Table}
use Rattle.layout.specs.declared.rows.Row.{Row}
use Rattle.layout.specs.declared.rules.Rule.{Rule}
use Rattle.layout.specs.declared.rules.Rule.TheVariants.{Text, Transferor, Railway, Number, NumberOrBlank, Flag, FlagOrBlank, MostPersons, Rounding, Factor, FirstDay, LastDay}
use Rattle.layout.proofs.RuleNumbers.{alike_rules, same_rule, alike_rows, same_row}
use Rattle.layout.proofs.Tables.{at_each, table_is, keeps_field}
use Rattle.layout.proofs.Meanings.{◌means◌, equal, either, text_means, blank_means, within_means, transferor_means, most_number, factor_means, day_means, last_means}

-- THE LIST OF VALUES AGREES WITH THE ROWS: kind, limits, and the field that a rule looks at,
module _ (t : Table) (f : ℕ) where
  abbrev row : Row
  row = row_of t f

  abbrev asks : Rule → Bool
  asks rule = alike_rules row.rule rule

  abbrev agrees : Value → Bool
  agrees text = asks Text
  agrees transferor = asks Transferor && (eqb row.length 4 && leb (row.start - 1 + 4) (length_of t))
  agrees railway = asks Railway
  agrees (number lowest highest) = asks (Number lowest highest)
  agrees (number_or_blank_value lowest highest) = asks (NumberOrBlank lowest highest)
  agrees flag = asks Flag
  agrees flag_or_blank_lem = asks FlagOrBlank
  agrees (most_persons_value fewest) = asks MostPersons && eqb (row.field - 1) fewest
  agrees rounding = asks Rounding
  agrees (factor round) = asks Factor && eqb (row.field - 1) round
  agrees first_day_value = asks FirstDay
  agrees (last_day_value first) = asks LastDay && alike_rows (day_row is_first t) (row_of t first)

  asked : (rule : Rule) → asks rule ≡ true → row.rule ≡ rule
  asked rule a = same_rule row.rule rule a

  -- and where it agrees, the rule means the value.
  module _ (body : List ℕ) (l : length body ≡ length_of t) where
    abbrev bytes : List ℕ
    bytes = bytes_of t f body

    abbrev is : (b : ℕ) → eqb (byte_of t f body) b means (byte_of t f body ≡ b)
    is = equal (byte_of t f body)

    kept_means : (v : Value) → agrees v ≡ true → keeps_row t body row means Means t f body v
    unfolding keeps_row kept_beside ruled bytes_of byte_of number_in number_or_blank most_persons first_day_rule last_day_rule is_company
    kept_means text a = rw (asked Text a) (text_means bytes)
    kept_means transferor a =
        let k = both_true (asks Transferor) _ a in
        let n = both_true (eqb row.length 4) _ k.1 in
        let inside = leb-true (row.start - 1 + 4) (length_of t) n.1 in
        let long : length bytes ≡ 4 = rw (eqb-true row.length 4 n.0) (simp (length-take, length-drop) (omega arith)) in
        rw (asked Transferor k.0) (transferor_means bytes long)
    kept_means railway a = rw (asked Railway a) (within_means 0 9999 (number_of bytes))
    kept_means (number lowest highest) a = rw (asked (Number lowest highest) a) (within_means lowest highest (number_of bytes))
    kept_means (number_or_blank_value lowest highest) a =
        rw (asked (NumberOrBlank lowest highest) a) (either _ _ (blank_means bytes) (within_means lowest highest (number_of bytes)))
    kept_means flag a = rw (asked Flag a) (either _ _ (is _) (is _))
    kept_means flag_or_blank_lem a = rw (asked FlagOrBlank a) (either _ _ (is _) (either _ _ (is _) (is _)))
    kept_means (most_persons_value fewest) a =
        let k = both_true (asks MostPersons) _ a in
        rw (asked MostPersons k.0, eqb-true _ fewest k.1)
        (either _ _ (blank_means bytes) (most_number (number_in t fewest body) (number_of bytes)))
    kept_means rounding a = rw (asked Rounding a) (either _ _ (is _) (either _ _ (is _) (either _ _ (is _) (is _))))
    kept_means (factor round) a =
        let k = both_true (asks Factor) _ a in
        rw (asked Factor k.0, eqb-true _ round k.1) (factor_means (byte_of t round body) bytes)
    kept_means first_day_value a = rw (asked FirstDay a) (day_means (number_of bytes))
    kept_means (last_day_value first) a =
        let k = both_true (asks LastDay) _ a in
        rw (asked LastDay k.0, same_row (day_row is_first t) (row_of t first) k.1) (last_means (number_in t first body) (number_of bytes))

-- THE VALUES: a field of a record, as long as its table's are, keeps its rule exactly if it says what it may,
pub values_hold : (p : Field) → Memᴰ p values → (body : List ℕ) → length body ≡ length_of p.table
    → (keeps_row p.table body (row_of p.table p.field) ≡ true) ↔ Means p.table p.field body p.value
unfolding every up_to same row_of row_with day_row length_of end_of table_at
values_hold p m body l =
    kept_means p.table p.field body l p.value (every_listed (λ (q : Field). agrees q.table q.field q.value) values refl p m)

-- and every field has a value, as every value has a field; so a record keeps its rules exactly if each of its fields says what it may.
abbrev of_field : Table → ℕ → Field → Bool
of_field t f p = is_table p.table t && eqb p.field f

has_a_value : (t : Table) → every (λ (r : Row). any (of_field t r.field) values) (table_at t).rows ≡ true
unfolding every any up_to table_at
has_a_value t = at_each (λ u. every (λ (r : Row). any (of_field u r.field) values) (table_at u).rows) refl t

is_its_row : (t : Table) → every (λ (r : Row). alike_rows (row_of t r.field) r) (table_at t).rows ≡ true
unfolding every same row_of row_with table_at
is_its_row t = at_each (λ u. every (λ (r : Row). alike_rows (row_of u r.field) r) (table_at u).rows) refl t

has_a_field : every (λ (p : Field). any (λ (r : Row). eqb r.field p.field) (table_at p.table).rows) values ≡ true
unfolding every any up_to table_at
has_a_field = refl

module _ (t : Table) (body : List ℕ) (l : length body ≡ length_of t) (p : Field) (m : Memᴰ p values) (e : p.table ≡ t) where
  as_long : length body ≡ length_of p.table
  as_long = l ∙ ap length_of (sym e)

  field_says : keeps_rules t body ≡ true → Means t p.field body p.value
  field_says k =
      let f = keeps_field p.table p.field body (rw e k) (every_listed _ values has_a_field p m) in
      subst (λ u. Means u p.field body p.value) e ((values_hold p m body as_long).0 f)

  field_kept : Means t p.field body p.value → keeps_row t body (row_of t p.field) ≡ true
  field_kept s = rw e at ((values_hold p m body as_long).1 (subst (λ u. Means u p.field body p.value) (sym e) s))

pub kept_by_its_values : (t : Table) (body : List ℕ) → length body ≡ length_of t
    → (keeps_rules t body ≡ true) ↔ ((p : Field) → Memᴰ p values → p.table ≡ t → Means t p.field body p.value)
unfolding keeps_rules
kept_by_its_values t body l = (
  λ k p m e. field_says t body l p m e k,
  λ says. listed_every (keeps_row t body) (table_at t).rows (λ r m.
      let w = any_listed (of_field t r.field) values (every_listed _ (table_at t).rows (has_a_value t) r m) in
      let b = both_true (is_table w.0.table t) _ w.2 in
      let e = table_is w.0.table t b.0 in
      let own = same_row (row_of t r.field) r (every_listed _ (table_at t).rows (is_its_row t) r m) in
      let r-is : r ≡ row_of t w.0.field = sym own ∙ ap (row_of t) (sym (eqb-true w.0.field r.field b.1)) in
      ap (keeps_row t body) r-is ∙ field_kept t body l w.0 w.1 e (says w.0 w.1 e)),
)
