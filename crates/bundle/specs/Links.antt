-- Links from a record to another, which stands before or after it (document 01, 'Keys and links').
-- Assumes nothing.
use Rattle.std.specs.Prelude.{ℕ, Bool, true, not, ◌&&◌, ◌||◌, List, [], ◌∷◌, Option, Some, None, get_or}
use Rattle.common.specs.Least.{least}
use Rattle.common.specs.Lists.{same, any}
use Rattle.layout.specs.Layout.{CO, RE, AR, ME, is_table}
use Rattle.layout.specs.Company.{is_all_railways}
use Rattle.layout.specs.Fields.{is_yes, offer_of, railway_of, code_of}
use Rattle.layout.specs.declared.Table.{Table}
use Rattle.bundle.specs.Records.{Rec}
use Rattle.bundle.specs.declared.links.Link.{Link}
use Rattle.bundle.specs.declared.links.Join.{Join}
use Rattle.bundle.specs.declared.links.Join.TheVariants.{ByCode, ByOffer, ByOfferAndRailway}

-- a record of table t, where a flag f is asked a CO whose field f is Y, wants one of table w that is joined with it by j, or the detail d is told
abbrev pub link : Table → Option ℕ → Table → Join → ℕ → Link
link t f w j d = record { table = t; flag = f; wants = w; join = j; detail = d }

abbrev pub no_link : Link
no_link = link CO None CO ByCode 0

-- how many links there are
abbrev pub links : ℕ
links = 5

-- "AR needs an RE of its code (detail 1) and then a CO of its offer (detail 2). ME needs a CO of its offer (detail 2). CO with flag 33 = Y
-- needs an AR of its offer (detail 3), with 37 = Y an ME (detail 4)"
unfoldable pub link_rows : List Link
link_rows =
    link AR None RE ByCode 1 ∷
    link AR None CO ByOffer 2 ∷
    link ME None CO ByOffer 2 ∷
    link CO (Some 33) AR ByOfferAndRailway 3 ∷
    link CO (Some 37) ME ByOfferAndRailway 4 ∷
    []

-- where no flag is asked, every record of the table wants one
abbrev pub flag_is_set : Option ℕ → List ℕ → Bool
flag_is_set None body = true
flag_is_set (Some f) body = is_yes CO f body

unfoldable pub is_asked : Link → Rec → Bool
is_asked l r = is_table l.table r.table && flag_is_set l.flag r.body

-- "for a CO railway R other than 0000 that record must have railway R or 0000, for 0000 any railway serves"
unfoldable pub railway_serves : List ℕ → List ℕ → Bool
railway_serves r q = is_all_railways (railway_of r) || (same (railway_of q) (railway_of r) || is_all_railways (railway_of q))

unfoldable pub joins : Join → Rec → Rec → Bool
joins ByCode r q = same (code_of r.table r.body) (code_of q.table q.body)
joins ByOffer r q = same (offer_of r.body) (offer_of q.body)
joins ByOfferAndRailway r q = same (offer_of r.body) (offer_of q.body) && railway_serves r.body q.body

-- q is a record that r wants by the link
unfoldable pub serves : Link → Rec → Rec → Bool
serves l r q = is_table q.table l.wants && joins l.join r q

-- the record wants link k and none of the records serves
abbrev pub lacks : List Rec → Rec → ℕ → Bool
lacks R r k = is_asked (get_or link_rows k no_link) r && not (any (serves (get_or link_rows k no_link) r) R)

-- the first link that the record lacks; `links` where it lacks none
unfoldable pub missing_link : List Rec → Rec → ℕ
missing_link R r = least (lacks R r) links
