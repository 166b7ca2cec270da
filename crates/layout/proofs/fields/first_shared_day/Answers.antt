-- `layout::fields::first_shared_day` meets its contract.
-- Assumes nothing.
use mathlib.Core.Path.{◌∙◌}
use Rattle.layout.specs.Fields.{first_shared}
use Rattle.layout.proofs.Periods.{later_is_max}
use Rattle.layout.proofs.fields.first_shared_day.Goals as goal

pub returns : goal.returns
unfolding first_shared
returns g c = rw (← c.named.ensures, c.in-Ok.is) (c.max.ensures ∙ rw (c.first_day.ensures, c.first_day-2.ensures) (later_is_max _ _))
