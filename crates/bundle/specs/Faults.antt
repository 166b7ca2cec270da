-- WHAT A REFUSAL OF A BUNDLE MEANS (document 01, 'Keys and links' and 'Numbers that turn work away', and document 02, R-2): its record breaks that rule, and
-- no earlier one, in the order of checks, breaks any. There is no walk and no search in it.
-- Assumes nothing.
use Rattle.std.specs.Prelude.{ℕ, ◌≤◌, ◌<◌, ◌≡◌, true, false, List, ◌∷◌, ◌++◌, ◌⊎◌, length}
use Rattle.common.specs.Lists.{every}
use Rattle.layout.specs.Bytes.{byte_Y}
use Rattle.layout.specs.Layout.{CO, AR, ME, table_at, length_of}
use Rattle.layout.specs.Fields.{byte_of, transferor_of}
use Rattle.layout.specs.Rules.{keeps_row}
use Rattle.layout.specs.declared.rows.Row.{Row}
use Rattle.layout.specs.declared.Table.{Table}
use Rattle.bundle.specs.Records.{Rec}
use Rattle.bundle.specs.Meaning.{joined, record_at, IsRecord, KeepsRules, Clash, There, OfCode, OfOffer, Serves, Linked}

-- BYTES THAT ARE NO RECORD: the mark of no table stands there; or that of one does, with too few bytes behind it
abbrev pub NoMark : List ℕ → Type 0
NoMark s = (t : Table) → (behind : List ℕ) → s ≡ (table_at t).mark ++ behind → ⊥

abbrev pub TooShort : List ℕ → Type 0
TooShort s = (t : Table) × (behind : List ℕ) × (s ≡ (table_at t).mark ++ behind) × (length behind < length_of t)

-- THE RECORDS OF A BUNDLE, accepted or not, are the whole ones that stand one after the other from its start; with what is left no further one starts
pub record Cut (s : List ℕ) (R : List Rec) (rest : List ℕ) : Type 0 where
  pub bytes : s ≡ joined R ++ rest
  pub whole : (i : ℕ) → i < length R → IsRecord (record_at R i)
  pub over : NoMark rest ⊎ TooShort rest

-- field f of a record breaks its rule, and none to its left does
pub record Breaks (r : Rec) (f : ℕ) : Type 0 where
  pub left : List Row
  pub row : Row
  pub right : List Row
  pub split : (table_at r.table).rows ≡ left ++ (row ∷ right)
  pub is_field : row.field ≡ f
  pub left_kept : every (keeps_row r.table r.body) left ≡ true
  pub broken : keeps_row r.table r.body row ≡ false

-- a link that a record asks for is missing, by the detail that is told; of two the first
pub data Missing (R : List Rec) (r : Rec) : ℕ → Type 0 where
  no_re : r.table ≡ AR → (There R (OfCode r) → ⊥) → Missing R r 1
  no_co_of_ar : r.table ≡ AR → There R (OfCode r) → (There R (OfOffer AR r) → ⊥) → Missing R r 2
  no_co_of_me : r.table ≡ ME → (There R (OfOffer ME r) → ⊥) → Missing R r 2
  no_ar : r.table ≡ CO → byte_of CO 33 r.body ≡ byte_Y → (There R (Serves AR r) → ⊥) → Missing R r 3
  no_me : r.table ≡ CO → (byte_of CO 33 r.body ≡ byte_Y → There R (Serves AR r)) → byte_of CO 37 r.body ≡ byte_Y → (There R (Serves ME r) → ⊥)
      → Missing R r 4

-- RECORD i BESIDE THE OTHERS: the first record's transferor; no earlier record that it may not stand with; every link
abbrev pub OfOneTransferor : List Rec → ℕ → Type 0
OfOneTransferor R i = transferor_of (record_at R i).body ≡ transferor_of (record_at R 0).body

abbrev pub Apart : List Rec → ℕ → Type 0
Apart R i = (j : ℕ) → j < i → Clash (record_at R i) (record_at R j) → ⊥

pub record Fits (R : List Rec) (i : ℕ) : Type 0 where
  pub of_one_transferor : OfOneTransferor R i
  pub apart : Apart R i
  pub linked : Linked R (record_at R i)

-- "First the records are checked from record 0, each for 2, then 3, then 4; only if none fails are they gone through again, from record 0, each record for 5,
-- then 6, then 7": record i comes to be looked at in the first pass, and in the second
pub record FirstLook (s : List ℕ) (R : List Rec) (i : ℕ) : Type 0 where
  pub size : length s ≤ 1048576
  pub earlier : (j : ℕ) → j < i → KeepsRules (record_at R j)

pub record SecondLook (s : List ℕ) (R : List Rec) (i : ℕ) : Type 0 where
  pub size : length s ≤ 1048576
  pub whole : s ≡ joined R
  pub fields : (j : ℕ) → j < length R → KeepsRules (record_at R j)
  pub inside : i < length R
  pub earlier : (j : ℕ) → j < i → Fits R j

-- THE FAULT: number, place and detail
pub data Fault (s : List ℕ) (R : List Rec) (rest : List ℕ) : ℕ → ℕ → ℕ → Type 0 where
  too_long : 1048576 < length s → Fault s R rest 1 0 0
  unknown_mark : FirstLook s R (length R) → 0 < length rest → NoMark rest → Fault s R rest 2 (length R) 0
  too_short : FirstLook s R (length R) → TooShort rest → Fault s R rest 3 (length R) 0
  breaks_a_field : (i f : ℕ) → FirstLook s R i → i < length R → Breaks (record_at R i) f → Fault s R rest 4 i f
  other_transferor_fault : (i : ℕ) → SecondLook s R i → (OfOneTransferor R i → ⊥) → Fault s R rest 5 i 0
  repeats_a_key : (i j : ℕ) → SecondLook s R i → OfOneTransferor R i → j < i → Clash (record_at R i) (record_at R j)
      → ((m : ℕ) → m < j → Clash (record_at R i) (record_at R m) → ⊥) → Fault s R rest 6 i j
  lacks_a_link : (i d : ℕ) → SecondLook s R i → OfOneTransferor R i → Apart R i → Missing R (record_at R i) d → Fault s R rest 7 i d
