-- `sales::balance` meets its contract.
-- Assumes nothing.
use Rattle.std.proofs.Common.{sym, ◌∙◌, ap}
use Rattle.std.specs.Prelude.{Ok, Err}
use Rattle.common.specs.Checks.{first_fault}
use Rattle.sales.specs.Balances.{balance_answer}
use Rattle.sales.proofs.balance.Goals as goal

pub returns-then-not-is_sound : goal.returns-then-not-is_sound
unfolding balance_answer first_fault
returns-then-not-is_sound c = ap Err c.refuse.ensures ∙ sym (rw (sym c.if-not-is_sound.ensures))

pub returns-then-not-is_railway : goal.returns-then-not-is_railway
unfolding balance_answer first_fault
returns-then-not-is_railway c = ap Err c.refuse-then-not-is_railway.ensures ∙ sym (rw (sym c.if-not-is_sound.ensures, sym c.if-not-is_railway.ensures))

pub owed-requires : goal.owed-requires
owed-requires c = sym c.if-not-is_sound.ensures

pub returns : goal.returns
unfolding balance_answer first_fault
returns c =
    let own = sym c.if-not-is_railway.ensures in
    rw (sym c.if-not-is_sound.ensures, own) (ap Ok c.owed.ensures)
