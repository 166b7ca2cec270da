-- `bundle::links::lacks_link` meets its contract.
-- Assumes nothing.
use mathlib.Core.Path.{refl}
use borrow.Author.Tests.{not-true, not-false}
use Rattle.bundle.proofs.links.lacks_link.Goals as goal

pub returns-then-not-asked : goal.returns-then-not-asked
returns-then-not-asked c = (rw (← c.link_at.ensures, ← c.asked.ensures, not-true c.asked.result c.if-not-asked.true-raw), refl)

pub returns : goal.returns
returns c = (rw (c.is_served.ensures.0, ← c.link_at.ensures, ← c.asked.ensures, not-false c.asked.result c.if-not-asked.false-raw), c.is_served.ensures.1)
