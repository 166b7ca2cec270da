-- THE ONLY ONE. In a good bundle no two records of one key hold the same day. The key is bytes, and a leg's record is found by the numbers that they say: as every
-- field of a key keeps its rule, and equally many digits of one number are the same bytes, no second record is found by these numbers.
-- Assumes nothing.
use Prim.Native.Nat.{ℕ, ◌≤◌, ◌<◌}
use mathlib.Core.Path.{◌≡◌, refl, sym, ◌∙◌, ap}
use mathlib.Core.Bool.{Bool, true, false, not, ◌&&◌, ◌||◌}
use mathlib.Core.List.{List}
use mathlib.Core.Logic.{⊎_elim}
use native.Mathlib.Nat.{le_antisymm}
use lib.Dec.{eqb}
use lib.ListN.{length, length-take, length-drop}
use borrow.Author.Tests.{eqb-true, eq-eqb}
use Rattle.common.specs.Lists.{every, same}
use Rattle.common.proofs.Tests.{never, both_true, side}
use Rattle.common.proofs.Lists.{is_same, every_so}
use Rattle.common.proofs.Digits.{within_same}
use Rattle.layout.specs.Layout.{table_at, length_of}
use Rattle.layout.specs.declared.Table.{Table}
use Rattle.layout.specs.Company.{company_of}
use Rattle.layout.specs.Fields.{bytes_of, number_in, of_offers, same_key}
use Rattle.layout.specs.Rules.{keeps_rules}
use Rattle.layout.proofs.Tables.{offer_stands, railway_stands, offer_kept, railway_kept, code_kept}
use Rattle.layout.proofs.Companies.{same_company}
use Rattle.bundle.specs.Records.{Rec}
use Rattle.choice.specs.Choice.{is_keyed, for_legs}
use Rattle.choice.specs.Chosen.{IsFor, Valid}
use Rattle.bundle.specs.Meaning.{record_at, KeepsRules, SameKey, both_co, both_re, both_ar, both_me, HoldsDay, Good}
use Rattle.bundle.proofs.KeyMeaning.{key_means}

field_long : (t : Table) (f : ℕ) (a b : List ℕ) → length a ≡ length b → length (bytes_of t f a) ≡ length (bytes_of t f b)
unfolding bytes_of
field_long t f a b l = simp (length-take, length-drop, l)

-- EACH FIELD OF THE KEY is the same in two such records: the offer, the railway, the code
module _ (t : Table) (o : of_offers t ≡ true) (offer code railway : ℕ) (a b : Rec) (l : length a.body ≡ length b.body)
    (p : IsFor t offer code railway a) (q : IsFor t offer code railway b) (j : KeepsRules a) (k : KeepsRules b) where
  kept : (r : Rec) → IsFor t offer code railway r → KeepsRules r → keeps_rules t r.body ≡ true
  kept r f e = rw (← f.table) e

  same_offer : bytes_of t 2 a.body ≡ bytes_of t 2 b.body
  unfolding number_in
  same_offer =
      within_same 1 99999 _ _ (field_long t 2 a.body b.body l)
      (rw (offer_stands t o a.body) (offer_kept t o a.body (kept a p j))) (rw (offer_stands t o b.body) (offer_kept t o b.body (kept b q k)))
      (p.of_offer ∙ sym q.of_offer)

  same_railway : bytes_of t 3 a.body ≡ bytes_of t 3 b.body
  unfolding number_in company_of
  same_railway =
      same_company _ _ (field_long t 3 a.body b.body l)
      (rw (railway_stands t o a.body) (railway_kept t o a.body (kept a p j))) (rw (railway_stands t o b.body) (railway_kept t o b.body (kept b q k)))
      (p.of_railway_lem ∙ sym q.of_railway_lem)

  same_code : not (eqb (table_at t).code 0) ≡ true → bytes_of t (table_at t).code a.body ≡ bytes_of t (table_at t).code b.body
  unfolding number_in
  same_code n =
      let c = (table_at t).code in
      let h : (c ≡ 0 → ⊥) = λ z. never n (rw (eq-eqb c 0 z)) in
      let says : (r : Rec) → IsFor t offer code railway r → number_in t c r.body ≡ code = λ r f. ⊎_elim (λ z. absurd (h z)) (λ e. e) f.of_code in
      within_same _ _ _ _ (field_long t c a.body b.body l) (code_kept t h a.body (kept a p j)) (code_kept t h b.body (kept b q k))
      (says a p ∙ sym (says b q))

  key_field : (f : ℕ) → is_keyed t f ≡ true → same (bytes_of t f a.body) (bytes_of t f b.body) ≡ true
  key_field f e = is_same _ _ (go (eqb f 2) refl (eqb f 3) refl (eqb f (table_at t).code) refl e)
    where
      go : (x : Bool) → eqb f 2 ≡ x → (y : Bool) → eqb f 3 ≡ y → (z : Bool) → eqb f (table_at t).code ≡ z
          → (x || (y || (z && not (eqb (table_at t).code 0)))) ≡ true → bytes_of t f a.body ≡ bytes_of t f b.body
      go true u y v z i e = rw (eqb-true f 2 u) same_offer
      go false u true v z i e = rw (eqb-true f 3 v) same_railway
      go false u false v true i e = rw (eqb-true f (table_at t).code i) (same_code e)
      go false u false v false i e = never e refl

  -- so they are of one key.
  one_key : every (is_keyed t) (table_at t).key ≡ true → same_key t a.body b.body ≡ true
  unfolding same_key
  one_key e = every_so (is_keyed t) (λ f. same (bytes_of t f a.body) (bytes_of t f b.body)) (table_at t).key key_field e

-- RECORDS OF ONE KEY are of one table, and so the other way round
one_table : (r x : Rec) → SameKey r x → x.table ≡ r.table
one_table r x (both_co p q a b) = q ∙ sym p
one_table r x (both_re p q a) = q ∙ sym p
one_table r x (both_ar p q a b c) = q ∙ sym p
one_table r x (both_me p q a b) = q ∙ sym p

key_back : (r x : Rec) → SameKey r x → SameKey x r
key_back r x (both_co p q a b) = both_co q p (sym a) (sym b)
key_back r x (both_re p q a) = both_re q p (sym a)
key_back r x (both_ar p q a b c) = both_ar q p (sym a) (sym b) (sym c)
key_back r x (both_me p q a b) = both_me q p (sym a) (sym b)

module _ (s : List ℕ) (R : List Rec) (g : Good s R) where
  -- IN A GOOD BUNDLE AT MOST ONE RECORD OF A KEY HOLDS A DAY, in every table.
  not_after : (i j day : ℕ) → i < length R → SameKey (record_at R i) (record_at R j) → HoldsDay (record_at R i).table day (record_at R i)
      → HoldsDay (record_at R i).table day (record_at R j) → i ≤ j
  not_after i j day m k a b = ⊎_elim (λ h. absurd (g.apart i j m h (k, (day, a, b)))) (λ h. h) (side j i)

  pub one_a_day : (i j day : ℕ) → i < length R → j < length R → SameKey (record_at R i) (record_at R j) → HoldsDay (record_at R i).table day (record_at R i)
      → HoldsDay (record_at R j).table day (record_at R j) → i ≡ j
  one_a_day i j day m n k a b =
      let e : (record_at R j).table ≡ (record_at R i).table = one_table (record_at R i) (record_at R j) k in
      le_antisymm (not_after i j day m k a (rw (← e) b)) (not_after j i day n (key_back (record_at R i) (record_at R j) k) b (rw e a))

  module _ (t : Table) (legs : for_legs t ≡ true) (offer code railway day : ℕ) where
    abbrev Such : ℕ → Type 0
    Such i = Valid R t offer code railway day i

    -- of two such records in a good bundle neither stands behind the other
    not_behind : (i j : ℕ) → Such i → Such j → i ≤ j
    unfolding for_legs
    not_behind i j a b =
        let x = a.0.1 in
        let y = b.0.1 in
        let m = a.0.0 in
        let n = b.0.0 in
        let l = (g.whole i m).long ∙ ap length_of (x.table ∙ sym y.table) ∙ sym (g.whole j n).long in
        let d = both_true (of_offers t) (every (is_keyed t) (table_at t).key) legs in
        let e = one_key t d.0 offer code railway (record_at R i) (record_at R j) l x y (g.fields i m) (g.fields j n) d.1 in
        not_after i j day m (key_means _ _ (y.table ∙ sym x.table) (rw x.table e)) (rw x.table a.1) (rw x.table b.1)

    -- In a good bundle there is one record at most of a table for an offer, a railway or 0000, and a code, that holds a day.
    pub only_one : (i j : ℕ) → Such i → Such j → i ≡ j
    only_one i j a b = le_antisymm (not_behind i j a b) (not_behind j i b a)
