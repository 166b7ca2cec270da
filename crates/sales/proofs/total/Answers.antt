-- `sales::total` meets its contract.
-- Assumes nothing.
use Rattle.std.proofs.Common.{sym, ◌∙◌, ap}
use Rattle.std.specs.Prelude.{Ok, Err}
use Rattle.common.specs.Checks.{first_fault}
use Rattle.sales.specs.Balances.{total_answer}
use Rattle.sales.proofs.total.Goals as goal

pub returns-then-not-is_sound : goal.returns-then-not-is_sound
unfolding total_answer first_fault
returns-then-not-is_sound c = ap Err c.refuse.ensures ∙ sym (rw (sym c.if-not-is_sound.ensures))

pub owed-requires : goal.owed-requires
owed-requires c = sym c.if-not-is_sound.ensures

pub returns : goal.returns
unfolding total_answer first_fault
returns c = rw (sym c.if-not-is_sound.ensures) (ap Ok c.owed.ensures)
