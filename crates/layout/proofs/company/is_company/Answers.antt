-- `layout::company::is_company` meets its contract.
-- Assumes nothing.
use native.Mathlib.Omega.{arith}
use lib.Seq.{take_all}
use Rattle.layout.specs.Company.{is_company}
use Rattle.layout.proofs.company.is_company.Goals as goal

pub returns-then-s-ne4 : goal.returns-then-s-ne4
unfolding is_company
returns-then-s-ne4 c = rw (c.within.ensures, c.number.ensures)

pub returns : goal.returns
unfolding is_company
returns c = rw (c.within-2.ensures, c.number-2.ensures, take_all 4 c.args.s.now (omega (arith, c.if-s-ne4.false)))
