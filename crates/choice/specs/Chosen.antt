-- WHICH RECORD A LEG USES (document 02, R-2), said by the fields of the records, with no search in it.
-- Assumes nothing.
use Rattle.std.specs.Prelude.{ℕ, ◌<◌, ◌≡◌, List, ◌⊎◌, length}
use Rattle.layout.specs.Layout.{table_at}
use Rattle.layout.specs.declared.Table.{Table}
use Rattle.layout.specs.Fields.{number_in}
use Rattle.bundle.specs.Records.{Rec}
use Rattle.bundle.specs.Meaning.{record_at, HoldsDay}
use Rattle.choice.specs.declared.Choice.{Choice}
use Rattle.choice.specs.declared.Choice.TheVariants.{At, NotThatDay, Nothing}

-- a record of a table for an offer (field 2), a railway (field 3; 0 stands for 0000, all railways) and, where the table has one, a code
pub record IsFor (t : Table) (offer code railway : ℕ) (r : Rec) : Type 0 where
  pub table : r.table ≡ t
  pub of_offer : number_in t 2 r.body ≡ offer
  pub of_railway_lem : number_in t 3 r.body ≡ railway
  pub of_code : ((table_at t).code ≡ 0) ⊎ (number_in t (table_at t).code r.body ≡ code)

module _ (R : List Rec) (t : Table) (offer code : ℕ) where
  -- record i is for that railway; for it or for 0000
  abbrev pub For : ℕ → ℕ → Type 0
  For railway i = (i < length R) × IsFor t offer code railway (record_at R i)

  abbrev pub ForEither : ℕ → ℕ → Type 0
  ForEither railway i = For railway i ⊎ For 0 i

  -- and it is valid that day
  abbrev pub Valid : ℕ → ℕ → ℕ → Type 0
  Valid railway day i = For railway i × HoldsDay t day (record_at R i)

  -- "The record for a leg is then the railway's own one valid that day, else the 0000 one valid that day."
  abbrev pub Uses : ℕ → ℕ → ℕ → Type 0
  Uses railway day i = Valid railway day i ⊎ (Valid 0 day i × ((j : ℕ) → Valid railway day j → ⊥))

  -- record i is used; "records of that railway or 0000 exist and none is valid"; "there are none"
  pub data Chosen (railway day : ℕ) : Choice → Type 0 where
    used : (i : ℕ) → Uses railway day i → Chosen railway day (At i)
    not_that_day : (i : ℕ) → ForEither railway i → ((j : ℕ) → ForEither railway j → HoldsDay t day (record_at R j) → ⊥) → Chosen railway day NotThatDay
    nothing : ((i : ℕ) → ForEither railway i → ⊥) → Chosen railway day Nothing
