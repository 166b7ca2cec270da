-- `fares::legs::price_by` meets its contract.
-- Assumes nothing.
use Rattle.std.proofs.Common.{sym, ◌∙◌, ap}
use Rattle.std.specs.Prelude.{Ok, Err}
use Rattle.common.specs.Checks.{first_fault}
use Rattle.fares.specs.Legs.{unread}
use Rattle.fares.specs.Helpers.{answer_by}
use Rattle.fares.proofs.legs.price_by.Goals as goal

pub returns-then-not-persons_fit : goal.returns-then-not-persons_fit
unfolding answer_by first_fault
returns-then-not-persons_fit c = ap Err c.refuse.ensures ∙ rw (sym c.if-not-persons_fit.ensures)

pub returns-in-Some : goal.returns-in-Some
unfolding answer_by first_fault unread
returns-in-Some c = ap Err c.refuse-in-Some.ensures ∙ rw (sym c.if-not-persons_fit.ensures, ← c.first_set.ensures, c.in-Some.is)

pub returns : goal.returns
unfolding answer_by first_fault unread
returns c = rw (sym c.if-not-persons_fit.ensures, ← c.first_set.ensures, c.in_default.is) (ap Ok c.part.ensures)
