-- `edge::offers_entry` meets its contract: the answer of the front door, flattened.
-- Assumes nothing.
use mathlib.Core.Path.{◌∙◌, ap}
use Rattle.edge.specs.Replies.{booking_reply}
use Rattle.edge.proofs.offers_entry.Goals as goal

pub returns : goal.returns
returns c = c.into.ensures ∙ ap booking_reply c.entry.ensures
