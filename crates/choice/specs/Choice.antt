-- The record that is used for a leg (document 02, R-2): the railway's own one valid that day, or else the one for all railways valid that day.
-- Assumes nothing.
use Rattle.std.specs.Prelude.{ℕ, Bool, cond, not, ◌&&◌, ◌||◌, List, eqb, ltb, length, get_or}
use Rattle.common.specs.Least.{least}
use Rattle.common.specs.Lists.{every}
use Rattle.common.specs.Digits.{number_of, value_of}
use Rattle.layout.specs.Layout.{is_table, table_at}
use Rattle.layout.specs.declared.Table.{Table}
use Rattle.layout.specs.Company.{company_of, is_all_railways}
use Rattle.layout.specs.Fields.{of_offers, offer_of, railway_of, code_fits, holds_day}
use Rattle.bundle.specs.Records.{Rec, no_rec}
use Rattle.choice.specs.declared.Wanted.{Wanted}
use Rattle.choice.specs.declared.Choice.{Choice}
use Rattle.choice.specs.declared.Choice.TheVariants.{At, NotThatDay, Nothing}

-- a table that a leg's record may be chosen from: its key is the offer, the railway and, where it has one, the code
abbrev pub is_keyed : Table → ℕ → Bool
is_keyed t f = eqb f 2 || (eqb f 3 || (eqb f (table_at t).code && not (eqb (table_at t).code 0)))

unfoldable pub for_legs : Table → Bool
for_legs t = of_offers t && every (is_keyed t) (table_at t).key

-- what is wanted, of this table
abbrev pub of_table : {T : Type 0} → Table → Wanted T → Wanted Table
of_table t w = record { table = t; offer = w.offer; railway = w.railway; code = w.code; day = w.day }

-- a record of the table, of the offer and, where the table has one, of the code
unfoldable pub is_of : Wanted Table → Rec → Bool
is_of w r =
    is_table r.table w.table && (eqb (value_of (number_of (offer_of r.body))) w.offer && code_fits w.table w.code r.body)

-- the railway's own, one for all railways, and either of them
abbrev pub is_own : Wanted Table → Rec → Bool
is_own w r = is_of w r && eqb (company_of (railway_of r.body)) w.railway

abbrev pub is_general : Wanted Table → Rec → Bool
is_general w r = is_of w r && is_all_railways (railway_of r.body)

abbrev pub is_either : Wanted Table → Rec → Bool
is_either w r = is_own w r || is_general w r

-- valid that day
abbrev pub is_valid : Wanted Table → Rec → Bool
is_valid w r = holds_day w.table r.body w.day

-- the first record of some that passes, by its number; how many there are where none does
abbrev pub first_with : (Rec → Bool) → List Rec → ℕ
first_with p R = least (λ i. p (get_or R i no_rec)) (length R)

-- THE RECORD, by its number among the records: "the railway's own one valid that day, else the 0000 one valid that day"; or records "of that railway or 0000
-- exist and none is valid"; or "there are none"
unfoldable pub choice_of : List Rec → Wanted Table → Choice
choice_of R w =
    let own : ℕ = first_with (λ r. is_own w r && is_valid w r) R in
    let general : ℕ = first_with (λ r. is_general w r && is_valid w r) R in
    let either : ℕ = first_with (is_either w) R in
    cond (ltb own (length R)) (At own)
    (cond (ltb general (length R)) (At general) (cond (ltb either (length R)) NotThatDay Nothing))
