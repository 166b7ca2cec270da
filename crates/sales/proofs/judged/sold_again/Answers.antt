-- `sales::judged::sold_again` meets its contract.
-- Assumes nothing.
use Rattle.std.proofs.Common.{◌∙◌, Ok, Err, sym, ap, ap₂}
use Rattle.sales.specs.Sales.{receipt}
use Rattle.sales.specs.declared.Outcome.TheVariants.{AlreadyBooked}
use Rattle.sales.proofs.AnswersByCase.{again_other, again_same}
use Rattle.sales.proofs.judged.sold_again.Goals as goal

pub returns-then-not-asks : goal.returns-then-not-asks
returns-then-not-asks c =
    let a = c.args in ap Err c.refuse.ensures ∙ sym (again_other a.entry.now a.place a.q (sym c.if-not-asks.ensures))

pub returns : goal.returns
returns c =
    let a = c.args in
    ap₂ (λ x y. Ok (receipt (AlreadyBooked x) y)) c.status.ensures c.parts.ensures
    ∙ sym (again_same a.entry.now a.place a.q (sym c.if-not-asks.ensures))
