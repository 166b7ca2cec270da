-- `fares::reductions::reduce` meets its contract.
-- Assumes nothing.
use Rattle.fares.specs.Reductions.{reduce_by}
use Rattle.fares.proofs.reductions.reduce.Goals as goal

pub returns : goal.returns
unfolding reduce_by
returns c = rw (c.rounded.ensures, c.kept.ensures)
