-- `fares::limits::is_between` meets its contract.
-- Assumes nothing.
use borrow.Author.Tests.{le-leb, lt-leb}
use Rattle.fares.proofs.limits.is_between.Goals as goal

pub returns-then-v-lowest : goal.returns-then-v-lowest
returns-then-v-lowest c = rw (lt-leb _ _ c.if-v-lowest.true)

pub returns : goal.returns
returns c = rw (le-leb _ _ c.if-v-lowest.false)
