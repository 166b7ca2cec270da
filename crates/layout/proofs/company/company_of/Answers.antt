-- `layout::company::company_of` meets its contract.
-- Assumes nothing.
use Rattle.layout.specs.Company.{company_of}
use Rattle.layout.proofs.company.company_of.Goals as goal

pub returns : goal.returns
unfolding company_of
returns c = rw (c.unwrap_or.ensures, c.number.ensures)
