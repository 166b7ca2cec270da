-- KEYS BY MEANING: two records may not stand together exactly if they are of one table and of one key, and a day is in both periods.
-- Assumes nothing.
use Prim.Native.Nat.{ℕ, ◌<◌}
use mathlib.Core.Path.{◌≡◌, refl, sym, ◌∙◌}
use mathlib.Core.Bool.{true}
use mathlib.Core.List.{List, [], ◌∷◌}
use native.Mathlib.Omega.{arith}
use lib.ListN.{length, get_or}
use Rattle.common.specs.Lists.{every, same}
use Rattle.common.proofs.Tests.{both_true}
use Rattle.common.proofs.Lists.{same_is, is_same, every_at}
use Rattle.layout.specs.Layout.{CO, RE, AR, ME, is_table, table_at}
use Rattle.layout.specs.Fields.{bytes_of, same_key, share_day}
use Rattle.layout.specs.declared.Table.{Table}
use Rattle.layout.specs.declared.Table.TheVariants.{Co, Re, Ar, Me}
use Rattle.layout.proofs.Tables.{table_is, is_table_lem}
use Rattle.layout.proofs.Periods.{share_means, means_share}
use Rattle.bundle.specs.Records.{Rec}
use Rattle.bundle.specs.Keys.{clash}
use Rattle.bundle.specs.Meaning.{Alike, SameKey, both_co, both_re, both_ar, both_me, Clash}

module _ (r x : Rec) where
  field_alike : (t : Table) (fs : List ℕ) → every (λ f. same (bytes_of t f r.body) (bytes_of t f x.body)) fs ≡ true → (i : ℕ) → i < length fs → Alike t (get_or fs i 0) r x
  field_alike t fs e i l = same_is _ _ (every_at (λ f. same (bytes_of t f r.body) (bytes_of t f x.body)) fs e i 0 l)

  -- records of one table and of one key
  pub key_means : x.table ≡ r.table → same_key r.table r.body x.body ≡ true → SameKey r x
  unfolding same_key table_at
  key_means q k = go r.table refl q k
    where
      go : (t : Table) → r.table ≡ t → x.table ≡ r.table → same_key t r.body x.body ≡ true → SameKey r x
      go Co p q k = both_co p (q ∙ p) (field_alike CO (2 ∷ 3 ∷ []) k 0 (omega arith)) (field_alike CO (2 ∷ 3 ∷ []) k 1 (omega arith))
      go Re p q k = both_re p (q ∙ p) (field_alike RE (2 ∷ []) k 0 (omega arith))
      go Ar p q k =
          both_ar p (q ∙ p) (field_alike AR (2 ∷ 3 ∷ 4 ∷ []) k 0 (omega arith)) (field_alike AR (2 ∷ 3 ∷ 4 ∷ []) k 1 (omega arith)) (field_alike AR (2 ∷ 3 ∷ 4 ∷ []) k 2 (omega arith))
      go Me p q k = both_me p (q ∙ p) (field_alike ME (2 ∷ 3 ∷ []) k 0 (omega arith)) (field_alike ME (2 ∷ 3 ∷ []) k 1 (omega arith))

  means_key : SameKey r x → (x.table ≡ r.table) × (same_key r.table r.body x.body ≡ true)
  unfolding same_key every table_at
  means_key (both_co p q a b) = (q ∙ sym p, rw (p, is_same _ _ a, is_same _ _ b))
  means_key (both_re p q a) = (q ∙ sym p, rw (p, is_same _ _ a))
  means_key (both_ar p q a b c) = (q ∙ sym p, rw (p, is_same _ _ a, is_same _ _ b, is_same _ _ c))
  means_key (both_me p q a b) = (q ∙ sym p, rw (p, is_same _ _ a, is_same _ _ b))

  pub clash_means : clash r x ≡ true → Clash r x
  unfolding clash
  clash_means e =
      let b = both_true (is_table r.table x.table) _ e in
      let c = both_true (same_key r.table r.body x.body) (share_day r.table r.body x.body) b.1 in
      (key_means (sym (table_is _ _ b.0)) c.0, share_means r.table r.body x.body c.1)

  pub means_clash : Clash r x → clash r x ≡ true
  unfolding clash
  means_clash c =
      let k = means_key c.0 in
      rw (is_table_lem r.table x.table (sym k.0), k.1, means_share r.table r.body x.body c.1)
