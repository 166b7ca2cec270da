-- `layout::fields::first_day` meets its contract: the period stands at the end of the record.
-- Assumes nothing.
use Rattle.layout.specs.Fields.{first_day}
use Rattle.layout.proofs.Tables.{period}
use Rattle.layout.proofs.fields.first_day.Goals as goal

pub returns : goal.returns
unfolding first_day
returns g c =
    let p = period c.in-Ok.table in
    rw (← c.named.ensures, c.in-Ok.is, p.first, p.first_long, ← c.length_of.ensures, ← c.saturating_sub.ensures, ← c.day_at.ensures)
