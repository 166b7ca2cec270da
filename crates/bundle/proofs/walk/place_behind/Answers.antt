-- `bundle::walk::place_behind` meets its contract.
-- Assumes nothing.
use Rattle.bundle.specs.Helpers.{place_behind}
use Rattle.bundle.proofs.Here.{over_there, over_told, whole_told}
use Rattle.bundle.proofs.walk.place_behind.Goals as goal

-- no whole record starts there
pub returns-in_default : goal.returns-in_default
unfolding place_behind
returns-in_default c = over_told _ _ _ _ (over_there _ _ c.step_at-here.result c.in_default.not-Whole c.step_at-here.ensures)

pub returns : goal.returns
unfolding place_behind
returns c = whole_told _ _ _ _ c.step_at-here.ensures c.in-Whole.is
