-- `edge::ReceiptReplyFromResultReceiptRefusal::from` meets its contract, case by case.
-- Assumes nothing.
use Rattle.offers.specs.Answers.{tells_values}
use Rattle.edge.specs.Replies.{receipt_reply}
use Rattle.edge.proofs.ReceiptReplyFromResultReceiptRefusal.from.Goals as goal

pub returns-in-Ok : goal.returns-in-Ok
unfolding tells_values receipt_reply
returns-in-Ok c = rw (c.in-Ok.is, c.outcome_values-outcome.ensures c.in-Ok.receipt.parts)

pub returns-in-Err : goal.returns-in-Err
unfolding tells_values receipt_reply
returns-in-Err c = rw (c.in-Err.is, c.from.ensures)
