-- `edge::outcome_values` meets its contract, case by case.
-- Assumes nothing.
use Rattle.offers.specs.Answers.{outcome_values}
use Rattle.edge.proofs.outcome_values.Goals as goal

pub returns-in-Booked : goal.returns-in-Booked
unfolding outcome_values
returns-in-Booked c parts = rw c.in-Booked.is

pub returns-in-AlreadyBooked : goal.returns-in-AlreadyBooked
unfolding outcome_values
returns-in-AlreadyBooked c parts = rw (c.in-AlreadyBooked.is, c.into.ensures)

pub returns-in-Cancelled : goal.returns-in-Cancelled
unfolding outcome_values
returns-in-Cancelled c parts = rw c.in-Cancelled.is

pub returns-in-AlreadyCancelled : goal.returns-in-AlreadyCancelled
unfolding outcome_values
returns-in-AlreadyCancelled c parts = rw c.in-AlreadyCancelled.is
