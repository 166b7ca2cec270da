-- `layout::fields::holds_day` meets its contract: every table has a period.
-- Assumes nothing.
use borrow.Author.Tests.{le-leb, lt-leb}
use Rattle.layout.specs.Fields.{holds_day}
use Rattle.layout.proofs.Tables.{period}
use Rattle.layout.proofs.fields.holds_day.Goals as goal

pub returns-then-first_day-day : goal.returns-then-first_day-day
unfolding holds_day
returns-then-first_day-day g c = rw (← c.named.ensures, c.in-Ok.is, (period c.in-Ok.table).has, ← c.first_day.ensures, le-leb _ _ c.if-first_day-day.true, ← c.last_day.ensures)

pub returns-else-first_day-day : goal.returns-else-first_day-day
unfolding holds_day
returns-else-first_day-day g c = rw (← c.named.ensures, c.in-Ok.is, (period c.in-Ok.table).has, ← c.first_day.ensures, lt-leb _ _ c.if-first_day-day.false)
