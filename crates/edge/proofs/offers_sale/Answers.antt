-- `edge::offers_sale` meets its contract: the answer of the front door, flattened; the words of the book are as the call left them.
-- Assumes nothing.
use Rattle.std.proofs.Common.{◌∙◌, ap}
use Rattle.offers.specs.Answers.{receipt_tells}
use Rattle.edge.specs.Replies.{receipt_reply}
use Rattle.edge.proofs.offers_sale.Goals as goal

pub returns-clause-value : goal.returns-clause-value
returns-clause-value c = c.into.ensures ∙ ap (λ a. receipt_reply (receipt_tells a)) c.sale.ensures.value

pub returns-clause-book_after : goal.returns-clause-book_after
returns-clause-book_after c = c.sale.ensures.book_after
