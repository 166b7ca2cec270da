-- `bundle::keys::first_transferor` meets its contract: the first record stands at the start.
-- Assumes nothing.
use mathlib.Core.Path.{◌∙◌, ap}
use Rattle.layout.specs.Fields.{transferor_of}
use Rattle.bundle.proofs.Here.{first_body}
use Rattle.bundle.proofs.keys.first_transferor.Goals as goal

pub returns : goal.returns
returns c = c.transferor.ensures ∙ ap transferor_of (c.body_at.ensures ∙ first_body _)
