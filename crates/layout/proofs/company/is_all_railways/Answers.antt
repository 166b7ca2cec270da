-- `layout::company::is_all_railways` meets its contract.
-- Assumes nothing.
use Rattle.layout.specs.Company.{is_all_railways}
use Rattle.layout.proofs.company.is_all_railways.Goals as goal

pub returns : goal.returns
unfolding is_all_railways
returns c = c.same_bytes.ensures
