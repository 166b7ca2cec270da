-- `edge::SumReplyFromResultU64Refusal::from` meets its contract, case by case.
-- Assumes nothing.
use Rattle.offers.specs.Answers.{tells_values}
use Rattle.edge.specs.Replies.{sum_reply}
use Rattle.edge.proofs.SumReplyFromResultU64Refusal.from.Goals as goal

pub returns-in-Ok : goal.returns-in-Ok
unfolding tells_values sum_reply
returns-in-Ok c = rw c.in-Ok.is

pub returns-in-Err : goal.returns-in-Err
unfolding tells_values sum_reply
returns-in-Err c = rw (c.in-Err.is, c.from.ensures)
