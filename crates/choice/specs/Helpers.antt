-- What the code's helpers answer. Nothing here has to be believed: no promise and no answer of a call is stated with it.
-- Assumes nothing.
use Rattle.std.specs.Prelude.{ℕ, Bool, cond, List, eqb, get_or}
use Rattle.layout.specs.declared.Table.{Table}
use Rattle.layout.specs.Company.{company_of, is_all_railways}
use Rattle.layout.specs.Fields.{railway_of}
use Rattle.bundle.specs.Records.{Rec}
use Rattle.bundle.specs.Helpers.{places_of}
use Rattle.choice.specs.Choice.{is_of, is_valid}
use Rattle.choice.specs.declared.Wanted.{Wanted}
use Rattle.choice.specs.declared.Choice.{Choice}
use Rattle.choice.specs.declared.Choice.TheVariants.{At, NotThatDay, Nothing}
use Rattle.choice.specs.declared.Role.{Role}
use Rattle.choice.specs.declared.Role.TheVariants.{Other, General, Own, OffItsDays}

-- a choice by the place of its mark
abbrev pub at_place : List ℕ → Choice → Choice
at_place s (At i) = At (get_or (places_of s) i 0)
at_place s NotThatDay = NotThatDay
at_place s Nothing = Nothing

-- whether a record is the railway's own, one for all railways, or another
unfoldable pub whose_of : Wanted Table → Rec → Role
whose_of w r =
    cond (is_of w r) (cond (eqb (company_of (railway_of r.body)) w.railway) Own (cond (is_all_railways (railway_of r.body)) General Other)) Other

-- and whether one of these is valid that day
abbrev pub by_day : Bool → Role → Role
by_day valid Other = Other
by_day valid General = cond valid General OffItsDays
by_day valid Own = cond valid Own OffItsDays
by_day valid OffItsDays = OffItsDays

unfoldable pub fit_of : Wanted Table → Rec → Role
fit_of w r = by_day (is_valid w r) (whose_of w r)

-- what is chosen as long as no own record is met, once the record at a place was looked at: the first place stays
abbrev pub if_at : Choice → Choice → Choice
if_at (At p) other = At p
if_at NotThatDay other = other
if_at Nothing other = other

abbrev pub noted_at : Choice → Role → ℕ → Choice
noted_at before Other place = before
noted_at before General place = if_at before (At place)
noted_at before Own place = if_at before NotThatDay
noted_at before OffItsDays place = if_at before NotThatDay
