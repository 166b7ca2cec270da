-- `seen::has_tag` meets its contract.
-- Assumes nothing.
use Rattle.seen.specs.Seen.{has_tag}
use Rattle.seen.proofs.has_tag.Goals as goal

pub returns : goal.returns
unfolding has_tag
returns c = rw c.tag_of.ensures
