-- `edge::offers_total` meets its contract: the answer of the front door, flattened.
-- Assumes nothing.
use mathlib.Core.Path.{◌∙◌, ap}
use Rattle.offers.specs.Answers.{sum_tells}
use Rattle.edge.specs.Replies.{sum_reply}
use Rattle.edge.proofs.offers_total.Goals as goal

pub returns : goal.returns
returns c = c.into.ensures ∙ ap (λ a. sum_reply (sum_tells a)) c.total.ensures
