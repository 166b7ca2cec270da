-- LINKS BY MEANING: what each row of the links asks for, row by row, and the first that is missing.
-- Assumes nothing.
use Prim.Native.Nat.{ℕ, zero, suc, ◌<◌}
use mathlib.Core.Path.{◌≡◌, refl, sym, ◌∙◌}
use mathlib.Core.Bool.{Bool, true, false, not, ◌&&◌, ◌||◌, and-true}
use mathlib.Core.List.{List}
use mathlib.Core.Logic.{◌⊎◌, inl, inr, ⊎_elim}
use native.Mathlib.Omega.{arith}
use lib.Dec.{eqb, ltb}
use lib.ListN.{get_or}
use Rattle.std.specs.Prelude.{Some, None}
use borrow.Author.Tests.{eqb-true, eq-eqb, lt-ltb, ltb-true, not-true}
use Rattle.common.specs.Least.{least}
use Rattle.common.specs.Lists.{any, same}
use Rattle.common.proofs.Least.{passes, before, hit, none, finds_none, none_finds}
use Rattle.common.proofs.Tests.{never, both_true, refuted}
use Rattle.common.proofs.Lists.{same_is, is_same, any_at, at_any}
use Rattle.layout.specs.Bytes.{byte_Y}
use Rattle.layout.specs.Layout.{CO, RE, AR, ME, is_table, table_at}
use Rattle.layout.specs.Company.{is_all_railways}
use Rattle.layout.specs.Fields.{row_with, row_of, bytes_of, byte_of, is_yes, of_offers, offer_of, railway_of, code_of}
use Rattle.layout.specs.declared.Table.{Table}
use Rattle.layout.proofs.Tables.{table_is, is_table_lem, not_both, offer_stands, railway_stands}
use Rattle.bundle.specs.Records.{Rec, no_rec}
use Rattle.bundle.specs.Links.{link, links, link_rows, no_link, is_asked, railway_serves, joins, serves, lacks, missing_link}
use Rattle.bundle.specs.Meaning.{record_at, There, OfCode, OfOffer, all_railways, Serves, Linked}
use Rattle.bundle.specs.Faults.{Missing, no_re, no_co_of_ar, no_co_of_me, no_ar, no_me}
use Rattle.bundle.specs.declared.links.Link.{Link}
use Rattle.bundle.specs.declared.links.Join.{Join}
use Rattle.bundle.specs.declared.links.Join.TheVariants.{ByOffer, ByOfferAndRailway}

-- either of two tests
either_true : (a b : Bool) → (a || b) ≡ true → (a ≡ true) ⊎ (b ≡ true)
either_true true b e = inl refl
either_true false b e = inr e

true_either : (a b : Bool) → (a ≡ true) ⊎ (b ≡ true) → (a || b) ≡ true
true_either true b h = refl
true_either false b (inl e) = never e refl
true_either false b (inr e) = e

-- A ROW of the links says: whoever asks for it, and what must be there then
pub record Says (R : List Rec) (r : Rec) (l : Link) (Asks : Type 0) (Such : Rec → Type 0) : Type 0 where
  pub asks : is_asked l r ≡ true → Asks
  pub asked : Asks → is_asked l r ≡ true
  pub such : Asks → (x : Rec) → serves l r x ≡ true → Such x
  pub served : Asks → (x : Rec) → Such x → serves l r x ≡ true

module _ {R : List Rec} {r : Rec} {Asks : Type 0} {Such : Rec → Type 0} (k : ℕ) (s : Says R r (get_or link_rows k no_link) Asks Such) where
  abbrev row : Link
  row = get_or link_rows k no_link

  there_is : Asks → any (serves row r) R ≡ true → There R Such
  there_is a e = let j = any_at (serves row r) no_rec R e in (j.0, j.1, s.such a (record_at R j.0) j.2)

  is_there : Asks → There R Such → any (serves row r) R ≡ true
  is_there a j = at_any (serves row r) no_rec R j.0 j.1 (s.served a (record_at R j.0) j.2)

  -- it is kept, or lacks
  kept_is : lacks R r k ≡ false → Asks → There R Such
  kept_is e a = go (any (serves row r) R) refl (s.asked a) e
    where
      go : (b : Bool) → any (serves row r) R ≡ b → is_asked row r ≡ true → (is_asked row r && not b) ≡ false → There R Such
      go true h q e = there_is a h
      go false h q e = never (rw q) e

  is_kept : (Asks → There R Such) → lacks R r k ≡ false
  is_kept f = go (is_asked row r) refl
    where
      go : (b : Bool) → is_asked row r ≡ b → (b && not (any (serves row r) R)) ≡ false
      go true e = let a = s.asks e in rw (is_there a (f a))
      go false e = refl

  lack_is : lacks R r k ≡ true → Asks × (There R Such → ⊥)
  lack_is e =
      let b = both_true (is_asked row r) (not (any (serves row r) R)) e in
      let a = s.asks b.0 in
      (a, λ j. never (is_there a j) (not-true _ b.1))

  is_lack : Asks → (There R Such → ⊥) → lacks R r k ≡ true
  is_lack a n = rw (s.asked a, refuted (any (serves row r) R) (λ e. n (there_is a e)))

-- THE FIVE ROWS
module _ (R : List Rec) (r : Rec) where
  asked_table : (t w : Table) (j : Join) (d : ℕ) → is_asked (link t None w j d) r ≡ is_table t r.table
  unfolding is_asked
  asked_table t w j d = and-true (is_table t r.table)

  of_code : Says R r (get_or link_rows 0 no_link) (r.table ≡ AR) (OfCode r)
  unfolding link_rows serves joins code_of table_at
  of_code =
      record {
        asks = λ e. sym (table_is AR r.table (sym (asked_table AR _ _ _) ∙ e));
        asked = λ a. asked_table AR _ _ _ ∙ is_table_lem AR r.table (sym a);
        such = λ a x e.
            let b = both_true (is_table x.table RE) _ e in
            let t = table_is x.table RE b.0 in
            (t, sym (same_is _ _ (rw (a, t) at b.1)));
        served = λ a x h. rw (h.0, a) (is_same _ _ (sym h.1));
      }

  of_offer : (t : Table) (d k : ℕ) → get_or link_rows k no_link ≡ link t None CO ByOffer d → of_offers t ≡ true → Says R r (get_or link_rows k no_link) (r.table ≡ t) (OfOffer t r)
  unfolding serves joins offer_of
  of_offer t d k z o =
      rw z (record {
        asks = λ e. sym (table_is t r.table (sym (asked_table t _ _ _) ∙ e));
        asked = λ a. asked_table t _ _ _ ∙ is_table_lem t r.table (sym a);
        such = λ a x e.
            let b = both_true (is_table x.table CO) _ e in
            (table_is x.table CO b.0, sym (same_is _ _ b.1) ∙ sym (offer_stands t o r.body));
        served = λ a x h. rw (is_table_lem x.table CO h.0) (is_same _ _ (sym (offer_stands t o r.body) ∙ sym h.1));
      })

  flag_is : (f : ℕ) → is_yes CO f r.body ≡ eqb (byte_of CO f r.body) byte_Y → (w : Table) (j : Join) (d : ℕ)
      → is_asked (link CO (Some f) w j d) r ≡ (is_table CO r.table && eqb (byte_of CO f r.body) byte_Y)
  unfolding is_asked
  flag_is f y w j d = rw y

  serving : (t : Table) → of_offers t ≡ true → (x : Rec) → railway_serves r.body x.body ≡ true
      → (bytes_of CO 3 r.body ≡ all_railways) ⊎ ((bytes_of t 3 x.body ≡ bytes_of CO 3 r.body) ⊎ (bytes_of t 3 x.body ≡ all_railways))
  unfolding railway_serves is_all_railways railway_of
  serving t o x e =
      ⊎_elim (λ a. inl (same_is _ _ a))
      (λ h. inr (⊎_elim (λ a. inl (railway_stands t o x.body ∙ same_is _ _ a)) (λ a. inr (railway_stands t o x.body ∙ same_is _ _ a)) (either_true _ _ h)))
      (either_true _ _ e)

  served_by : (t : Table) → of_offers t ≡ true → (x : Rec)
      → (bytes_of CO 3 r.body ≡ all_railways) ⊎ ((bytes_of t 3 x.body ≡ bytes_of CO 3 r.body) ⊎ (bytes_of t 3 x.body ≡ all_railways))
      → railway_serves r.body x.body ≡ true
  unfolding railway_serves is_all_railways railway_of
  served_by t o x h =
      true_either _ _
      (⊎_elim (λ a. inl (is_same _ _ a))
      (λ b. inr (true_either _ _ (⊎_elim (λ a. inl (is_same _ _ (sym (railway_stands t o x.body) ∙ a))) (λ a. inr (is_same _ _ (sym (railway_stands t o x.body) ∙ a))) b))) h)

  of_flag : (f : ℕ) (t : Table) (d k : ℕ) → get_or link_rows k no_link ≡ link CO (Some f) t ByOfferAndRailway d → of_offers t ≡ true
      → is_yes CO f r.body ≡ eqb (byte_of CO f r.body) byte_Y
      → Says R r (get_or link_rows k no_link) ((r.table ≡ CO) × (byte_of CO f r.body ≡ byte_Y)) (Serves t r)
  unfolding serves joins offer_of
  of_flag f t d k z o y =
      rw z (record {
        asks = λ e. let b = both_true (is_table CO r.table) _ (sym (flag_is f y t ByOfferAndRailway d) ∙ e) in (sym (table_is CO r.table b.0), eqb-true _ _ b.1);
        asked = λ a. flag_is f y t ByOfferAndRailway d ∙ rw (is_table_lem CO r.table (sym a.0), eq-eqb _ _ a.1);
        such = λ a x e.
            let b = both_true (is_table x.table t) _ e in
            let c = both_true (same (offer_of r.body) (offer_of x.body)) (railway_serves r.body x.body) b.1 in
            (table_is x.table t b.0, offer_stands t o x.body ∙ sym (same_is _ _ c.0), serving t o x c.1);
        served = λ a x h.
            rw (is_table_lem x.table t h.0, is_same (offer_of r.body) (offer_of x.body) (sym h.1 ∙ offer_stands t o x.body), served_by t o x h.2);
      })

  ar_offer : Says R r (get_or link_rows 1 no_link) (r.table ≡ AR) (OfOffer AR r)
  unfolding link_rows of_offers any table_at
  ar_offer = of_offer AR 2 1 refl refl

  me_offer : Says R r (get_or link_rows 2 no_link) (r.table ≡ ME) (OfOffer ME r)
  unfolding link_rows of_offers any table_at
  me_offer = of_offer ME 2 2 refl refl

  flag_33 : Says R r (get_or link_rows 3 no_link) ((r.table ≡ CO) × (byte_of CO 33 r.body ≡ byte_Y)) (Serves AR r)
  unfolding link_rows is_yes of_offers any row_of row_with table_at
  flag_33 = of_flag 33 AR 3 3 refl refl refl

  flag_37 : Says R r (get_or link_rows 4 no_link) ((r.table ≡ CO) × (byte_of CO 37 r.body ≡ byte_Y)) (Serves ME r)
  unfolding link_rows is_yes of_offers any row_of row_with table_at
  flag_37 = of_flag 37 ME 4 4 refl refl refl

  -- EVERY LINK is there exactly if no row lacks,
  pub links_there : ltb (missing_link R r) links ≡ false → Linked R r
  unfolding missing_link
  links_there e =
      let kept = finds_none (lacks R r) links e in
      record {
        ar_re = kept_is 0 of_code (kept 0 (omega arith));
        ar_co = kept_is 1 ar_offer (kept 1 (omega arith));
        me_co = kept_is 2 me_offer (kept 2 (omega arith));
        co_ar = λ a b. kept_is 3 flag_33 (kept 3 (omega arith)) (a, b);
        co_me = λ a b. kept_is 4 flag_37 (kept 4 (omega arith)) (a, b);
      }

  pub there_links : Linked R r → ltb (missing_link R r) links ≡ false
  unfolding missing_link
  there_links f = none_finds (lacks R r) links go
    where
      go : (k : ℕ) → k < links → lacks R r k ≡ false
      go zero l = is_kept 0 of_code f.ar_re
      go (suc zero) l = is_kept 1 ar_offer f.ar_co
      go (suc (suc zero)) l = is_kept 2 me_offer f.me_co
      go (suc (suc (suc zero))) l = is_kept 3 flag_33 (λ a. f.co_ar a.0 a.1)
      go (suc (suc (suc (suc zero)))) l = is_kept 4 flag_37 (λ a. f.co_me a.0 a.1)
      go (suc (suc (suc (suc (suc k))))) l = absurd (omega arith)

  -- and the first that lacks is the one that is missing.
  abbrev detail : ℕ → ℕ
  detail k = (get_or link_rows k no_link).detail

  missing_by : (k : ℕ) → k < links → lacks R r k ≡ true → ((j : ℕ) → j < k → lacks R r j ≡ false) → Missing R r (detail k)
  unfolding link_rows
  missing_by zero l e f = let a = lack_is 0 of_code e in no_re a.0 a.1
  missing_by (suc zero) l e f = let a = lack_is 1 ar_offer e in no_co_of_ar a.0 (kept_is 0 of_code (f 0 (omega arith)) a.0) a.1
  missing_by (suc (suc zero)) l e f = let a = lack_is 2 me_offer e in no_co_of_me a.0 a.1
  missing_by (suc (suc (suc zero))) l e f = let a = lack_is 3 flag_33 e in no_ar a.0.0 a.0.1 a.1
  missing_by (suc (suc (suc (suc zero)))) l e f =
      let a = lack_is 4 flag_37 e in
      no_me a.0.0 (λ y. kept_is 3 flag_33 (f 3 (omega arith)) (a.0.0, y)) a.0.1 a.1
  missing_by (suc (suc (suc (suc (suc k))))) l e f = absurd (omega arith)

  pub link_missing : ltb (missing_link R r) links ≡ true → Missing R r (detail (missing_link R r))
  unfolding missing_link
  link_missing e =
      let l = ltb-true (least (lacks R r) links) links e in
      missing_by (least (lacks R r) links) l (passes (lacks R r) links l) (λ j. before (lacks R r) links j)

  first_lack : (k : ℕ) → k < links → lacks R r k ≡ true → ((j : ℕ) → j < k → lacks R r j ≡ false) → (ltb (missing_link R r) links ≡ true) × (detail (missing_link R r) ≡ detail k)
  unfolding missing_link
  first_lack k l e f =
      let h : least (lacks R r) links ≡ k = hit (lacks R r) k links (none (lacks R r) k f) e l in
      rw h (lt-ltb k links l, refl)

  -- a row that asks for another table does not lack
  pub missing_link_lem : (d : ℕ) → Missing R r d → (ltb (missing_link R r) links ≡ true) × (detail (missing_link R r) ≡ d)
  unfolding link_rows
  missing_link_lem d (no_re a n) = first_lack 0 (omega arith) (is_lack 0 of_code a n) (λ j l. absurd (omega arith))
  missing_link_lem d (no_co_of_ar a c n) = first_lack 1 (omega arith) (is_lack 1 ar_offer a n) go
    where
      go : (j : ℕ) → j < 1 → lacks R r j ≡ false
      go zero l = is_kept 0 of_code (λ b. c)
      go (suc j) l = absurd (omega arith)
  missing_link_lem d (no_co_of_me a n) = first_lack 2 (omega arith) (is_lack 2 me_offer a n) go
    where
      go : (j : ℕ) → j < 2 → lacks R r j ≡ false
      go zero l = is_kept 0 of_code (λ b. not_both refl a b)
      go (suc zero) l = is_kept 1 ar_offer (λ b. not_both refl a b)
      go (suc (suc j)) l = absurd (omega arith)
  missing_link_lem d (no_ar a y n) = first_lack 3 (omega arith) (is_lack 3 flag_33 (a, y) n) (others a)
    where
      others : r.table ≡ CO → (j : ℕ) → j < 3 → lacks R r j ≡ false
      others a zero l = is_kept 0 of_code (λ b. not_both refl a b)
      others a (suc zero) l = is_kept 1 ar_offer (λ b. not_both refl a b)
      others a (suc (suc zero)) l = is_kept 2 me_offer (λ b. not_both refl a b)
      others a (suc (suc (suc j))) l = absurd (omega arith)
  missing_link_lem d (no_me a c y n) = first_lack 4 (omega arith) (is_lack 4 flag_37 (a, y) n) go
    where
      go : (j : ℕ) → j < 4 → lacks R r j ≡ false
      go zero l = is_kept 0 of_code (λ b. not_both refl a b)
      go (suc zero) l = is_kept 1 ar_offer (λ b. not_both refl a b)
      go (suc (suc zero)) l = is_kept 2 me_offer (λ b. not_both refl a b)
      go (suc (suc (suc zero))) l = is_kept 3 flag_33 (λ b. c b.1)
      go (suc (suc (suc (suc j)))) l = absurd (omega arith)
