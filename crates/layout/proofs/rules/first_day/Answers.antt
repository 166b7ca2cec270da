-- `layout::rules::first_day` meets its contract.
-- Assumes nothing.
use Rattle.layout.specs.Rules.{first_day_rule}
use Rattle.layout.proofs.rules.first_day.Goals as goal

pub returns : goal.returns
unfolding first_day_rule
returns c = rw (c.is_day.ensures, c.unwrap_or.ensures, c.number.ensures)
