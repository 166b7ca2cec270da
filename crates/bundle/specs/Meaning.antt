-- What a verdict means, with no walk and no search in it: the bundle is some records one after the other, and these keep the rules of document 01 and of
-- document 02, R-2.
-- Assumes nothing.
use Rattle.std.specs.Prelude.{ℕ, ◌≤◌, ◌<◌, ◌≡◌, true, List, [], ◌∷◌, ◌++◌, ◌⊎◌, length, get_or}
use Rattle.layout.specs.Bytes.{byte_0, byte_Y}
use Rattle.layout.specs.Layout.{CO, RE, AR, ME, table_at, length_of}
use Rattle.layout.specs.Fields.{bytes_of, byte_of, transferor_of}
use Rattle.layout.specs.Rules.{keeps_rules}
use Rattle.layout.specs.Values.{InPeriod, Share}
use Rattle.layout.specs.declared.Table.{Table}
use Rattle.bundle.specs.Records.{Rec, no_rec}

-- the bytes of some records: each behind its mark, with nothing between them
unfoldable pub joined : List Rec → List ℕ
joined [] = []
joined (r ∷ rs) = (table_at r.table).mark ++ (r.body ++ joined rs)

abbrev pub record_at : List Rec → ℕ → Rec
record_at R i = get_or R i no_rec

-- a record has the length of its table's
pub record IsRecord (r : Rec) : Type 0 where
  pub long : length r.body ≡ length_of r.table

-- each field keeps its rule
abbrev pub KeepsRules : Rec → Type 0
KeepsRules r = keeps_rules r.table r.body ≡ true

-- TWO RECORDS OF ONE KEY: "CO and ME: offer, railway; RE: code; AR: offer, railway, code", by the fields
abbrev pub Alike : Table → ℕ → Rec → Rec → Type 0
Alike t f r x = bytes_of t f r.body ≡ bytes_of t f x.body

pub data SameKey (r x : Rec) : Type 0 where
  both_co : r.table ≡ CO → x.table ≡ CO → Alike CO 2 r x → Alike CO 3 r x → SameKey r x
  both_re : r.table ≡ RE → x.table ≡ RE → Alike RE 2 r x → SameKey r x
  both_ar : r.table ≡ AR → x.table ≡ AR → Alike AR 2 r x → Alike AR 3 r x → Alike AR 4 r x → SameKey r x
  both_me : r.table ≡ ME → x.table ≡ ME → Alike ME 2 r x → Alike ME 3 r x → SameKey r x

-- a record of table t holds a day
abbrev pub HoldsDay : Table → ℕ → Rec → Type 0
HoldsDay t day r = InPeriod t day r.body

-- TWO RECORDS THAT MAY NOT STAND TOGETHER: "Two records of the same codes are allowed when their periods share no day"
abbrev pub Clash : Rec → Rec → Type 0
Clash r x = SameKey r x × Share r.table r.body x.body

-- one of the records is such
abbrev pub There : List Rec → (Rec → Type 0) → Type 0
There R Such = (j : ℕ) × (j < length R) × Such (record_at R j)

-- x is an RE of the code of an AR; x is a CO of the offer of a record of table t
abbrev pub OfCode : Rec → Rec → Type 0
OfCode ar x = (x.table ≡ RE) × (bytes_of RE 2 x.body ≡ bytes_of AR 4 ar.body)

abbrev pub OfOffer : Table → Rec → Rec → Type 0
OfOffer t r x = (x.table ≡ CO) × (bytes_of CO 2 x.body ≡ bytes_of t 2 r.body)

-- x is a record of table t of the offer of a CO: "for a CO railway R other than 0000 that record must have railway R or 0000, for 0000 any railway serves"
abbrev pub all_railways : List ℕ
all_railways = byte_0 ∷ byte_0 ∷ byte_0 ∷ byte_0 ∷ []

abbrev pub Serves : Table → Rec → Rec → Type 0
Serves t co x =
    let own : List ℕ = bytes_of CO 3 co.body in
    let its : List ℕ = bytes_of t 3 x.body in
    (x.table ≡ t) × (bytes_of t 2 x.body ≡ bytes_of CO 2 co.body) × ((own ≡ all_railways) ⊎ ((its ≡ own) ⊎ (its ≡ all_railways)))

-- "AR needs an RE of its code .. and then a CO of its offer .. ME needs a CO of its offer .. CO with flag 33 = Y needs an AR of its offer .., with 37 = Y
-- an ME"
pub record Linked (R : List Rec) (r : Rec) : Type 0 where
  pub ar_re : r.table ≡ AR → There R (OfCode r)
  pub ar_co : r.table ≡ AR → There R (OfOffer AR r)
  pub me_co : r.table ≡ ME → There R (OfOffer ME r)
  pub co_ar : r.table ≡ CO → byte_of CO 33 r.body ≡ byte_Y → There R (Serves AR r)
  pub co_me : r.table ≡ CO → byte_of CO 37 r.body ≡ byte_Y → There R (Serves ME r)

-- the bytes s are the records R, and these keep every rule: fields, transferors, links, and no two stand together that are such
pub record GoodBy (Barred : Rec → Rec → Type 0) (s : List ℕ) (R : List Rec) : Type 0 where
  pub size : length s ≤ 1048576
  pub bytes : s ≡ joined R
  pub whole : (i : ℕ) → i < length R → IsRecord (record_at R i)
  pub fields : (i : ℕ) → i < length R → KeepsRules (record_at R i)
  pub transferors : (i : ℕ) → i < length R → transferor_of (record_at R i).body ≡ transferor_of (record_at R 0).body
  pub apart : (i j : ℕ) → i < length R → j < i → Barred (record_at R i) (record_at R j) → ⊥
  pub linked : (i : ℕ) → i < length R → Linked R (record_at R i)

abbrev pub Good : List ℕ → List Rec → Type 0
Good = GoodBy Clash
