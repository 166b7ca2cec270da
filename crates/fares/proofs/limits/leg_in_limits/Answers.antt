-- `fares::limits::leg_in_limits` meets its contract.
-- Assumes nothing.
use Rattle.common.proofs.Tests.{fails, holds}
use Rattle.fares.proofs.limits.leg_in_limits.Goals as goal

pub returns-then-not-is_railway : goal.returns-then-not-is_railway
returns-then-not-is_railway c = rw (fails c.is_railway.result c.if-not-is_railway.true-raw c.is_railway.ensures)

pub returns : goal.returns
returns c = rw (holds c.is_railway.result c.if-not-is_railway.false-raw c.is_railway.ensures)
