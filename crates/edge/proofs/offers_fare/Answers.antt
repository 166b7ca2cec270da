-- `edge::offers_fare` meets its contract: the answer of the front door, flattened.
-- Assumes nothing.
use mathlib.Core.Path.{◌∙◌, ap}
use Rattle.offers.specs.Answers.{fare_tells}
use Rattle.edge.specs.Replies.{quote_reply}
use Rattle.edge.proofs.offers_fare.Goals as goal

pub returns : goal.returns
returns c = c.into.ensures ∙ ap (λ a. quote_reply (fare_tells a)) c.fare.ensures
