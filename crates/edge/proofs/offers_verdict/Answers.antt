-- `edge::offers_verdict` meets its contract: the answer of the front door, flattened.
-- Assumes nothing.
use mathlib.Core.Path.{◌∙◌, ap}
use Rattle.offers.specs.Answers.{verdict_tells}
use Rattle.edge.specs.Replies.{judgement_reply}
use Rattle.edge.proofs.offers_verdict.Goals as goal

pub returns : goal.returns
returns c = c.into.ensures ∙ ap (λ a. judgement_reply (verdict_tells a)) c.verdict.ensures
