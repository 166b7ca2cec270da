-- `layout::fields::share_day` meets its contract.
-- Assumes nothing.
use mathlib.Core.Path.{sym}
use Rattle.layout.specs.Fields.{share_day}
use Rattle.layout.proofs.Periods.{first_over, second_over}
use Rattle.layout.proofs.fields.share_day.Goals as goal

pub returns-then-last_day-first_day : goal.returns-then-last_day-first_day
returns-then-last_day-first_day g c =
    rw (← c.named.ensures, c.in-Ok.is) (sym (second_over _ _ _ (rw (← c.last_day.ensures, ← c.first_day.ensures) c.if-last_day-first_day.true)))

pub returns-then-last_day-first_day-2 : goal.returns-then-last_day-first_day-2
returns-then-last_day-first_day-2 g c =
    rw (← c.named.ensures, c.in-Ok.is) (sym (first_over _ _ _ (rw (← c.last_day-2.ensures, ← c.first_day-2.ensures) c.if-last_day-first_day-2.true)))

pub returns : goal.returns
unfolding share_day
returns g c = rw (← c.named.ensures, c.in-Ok.is, c.first_shared_day.ensures, c.last_shared_day.ensures)
