-- `edge::offers_cancel` meets its contract: the answer of the front door, flattened; the words of the book are as the call left them.
-- Assumes nothing.
use Rattle.std.proofs.Common.{◌∙◌, ap}
use Rattle.offers.specs.Answers.{receipt_tells}
use Rattle.edge.specs.Replies.{receipt_reply}
use Rattle.edge.proofs.offers_cancel.Goals as goal

pub returns-clause-value : goal.returns-clause-value
returns-clause-value c = c.into.ensures ∙ ap (λ a. receipt_reply (receipt_tells a)) c.cancel.ensures.value
