-- `edge::offers_count` meets its contract: the answer of the front door, flattened.
-- Assumes nothing.
use mathlib.Core.Path.{◌∙◌, ap}
use Rattle.offers.specs.Answers.{tally_tells}
use Rattle.edge.specs.Replies.{tally_reply}
use Rattle.edge.proofs.offers_count.Goals as goal

pub returns : goal.returns
returns c = c.into.ensures ∙ ap (λ a. tally_reply (tally_tells a)) c.count.ensures
