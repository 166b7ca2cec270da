-- `fares::records::card_for` meets its contract.
-- Assumes nothing.
use borrow.Author.Tests.{eq-eqb, ne_eqb}
use Rattle.fares.proofs.records.card_for.Goals as goal

pub returns-then-card-eq0 : goal.returns-then-card-eq0
returns-then-card-eq0 c = rw (eq-eqb _ _ c.if-card-eq0.true)

pub returns : goal.returns
returns c = rw (ne_eqb _ _ c.if-card-eq0.false, ← c.wanted_for.ensures) c.choose.ensures
