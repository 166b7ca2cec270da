-- `bundle::links::link_at` meets its contract: antt computes that the code's rows are the definition's.
-- Assumes nothing.
use mathlib.Core.Path.{sym, ◌∙◌}
use native.Mathlib.Omega.{arith}
use lib.ListN.{get_or-eq_default}
use Rattle.bundle.specs.Links.{link_rows, no_link}
use Rattle.bundle.proofs.links.link_at.Goals as goal

pub returns-in-0 : goal.returns-in-0
unfolding link_rows
returns-in-0 c = c.row.ensures ∙ rw c.in-0.is

pub returns-in-1 : goal.returns-in-1
unfolding link_rows
returns-in-1 c = c.row-in-1.ensures ∙ rw c.in-1.is

pub returns-in-2 : goal.returns-in-2
unfolding link_rows
returns-in-2 c = c.row-in-2.ensures ∙ rw c.in-2.is

pub returns-in-3 : goal.returns-in-3
unfolding link_rows
returns-in-3 c = c.row-in-3.ensures ∙ rw c.in-3.is

pub returns-in-4 : goal.returns-in-4
unfolding link_rows
returns-in-4 c = c.row-in-4.ensures ∙ rw c.in-4.is

pub returns-in_default : goal.returns-in_default
unfolding link_rows
returns-in_default c = c.row-in_default.ensures ∙ sym (get_or-eq_default link_rows no_link {n = c.args.k} (omega arith))
