-- `fares::rounding::Exact::rounded` meets its contract: each arm is the rule of its byte.
-- Assumes nothing.
use borrow.Author.Tests.{ne_eqb}
use Rattle.fares.specs.Rounding.{rounded}
use Rattle.fares.proofs.rounding.Exact.rounded.Goals as goal

pub returns-in-43 : goal.returns-in-43
unfolding rounded
returns-in-43 c = rw c.in-43.is c.up.ensures

pub returns-in-45 : goal.returns-in-45
unfolding rounded
returns-in-45 c = rw c.in-45.is c.down.ensures

pub returns-in-48 : goal.returns-in-48
unfolding rounded
returns-in-48 c = rw c.in-48.is c.near.ensures

pub returns-in-78 : goal.returns-in-78
unfolding rounded
returns-in-78 c = rw c.in-78.is c.near-in-78.ensures

pub returns-in_default : goal.returns-in_default
unfolding rounded
returns-in_default c = rw (ne_eqb _ _ c.in_default.in_default-own.rest.0.0.0.1, ne_eqb _ _ c.in_default.in_default-own.rest.0.0.1, ne_eqb _ _ c.in_default.in_default-own.rest.0.1, ne_eqb _ _ c.in_default.in_default-own.rest.1)
