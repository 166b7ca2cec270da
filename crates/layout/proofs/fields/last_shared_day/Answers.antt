-- `layout::fields::last_shared_day` meets its contract.
-- Assumes nothing.
use mathlib.Core.Path.{◌∙◌}
use Rattle.layout.specs.Fields.{last_shared}
use Rattle.layout.proofs.Periods.{earlier_is_min}
use Rattle.layout.proofs.fields.last_shared_day.Goals as goal

pub returns : goal.returns
unfolding last_shared
returns c = c.min.ensures ∙ rw (c.last_day.ensures, c.last_day-2.ensures) (earlier_is_min _ _)
