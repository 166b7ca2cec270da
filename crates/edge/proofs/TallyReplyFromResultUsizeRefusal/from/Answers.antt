-- `edge::TallyReplyFromResultUsizeRefusal::from` meets its contract, case by case.
-- Assumes nothing.
use Rattle.offers.specs.Answers.{tells_values}
use Rattle.edge.specs.Replies.{tally_reply}
use Rattle.edge.proofs.TallyReplyFromResultUsizeRefusal.from.Goals as goal

pub returns-in-Ok : goal.returns-in-Ok
unfolding tells_values tally_reply
returns-in-Ok c = rw c.in-Ok.is

pub returns-in-Err : goal.returns-in-Err
unfolding tells_values tally_reply
returns-in-Err c = rw (c.in-Err.is, c.from.ensures)
