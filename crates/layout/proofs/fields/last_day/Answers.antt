-- `layout::fields::last_day` meets its contract: the period stands at the end of the record.
-- Assumes nothing.
use Rattle.layout.specs.Fields.{last_day}
use Rattle.layout.proofs.Tables.{period}
use Rattle.layout.proofs.fields.last_day.Goals as goal

pub returns : goal.returns
unfolding last_day
returns g c =
    let p = period c.in-Ok.table in
    rw (← c.named.ensures, c.in-Ok.is, p.last, p.last_long, ← c.length_of.ensures, ← c.saturating_sub.ensures, ← c.day_at.ensures)
