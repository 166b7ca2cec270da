-- `sales::judged::judge_cancel` meets its contract.
-- Assumes nothing.
use Rattle.std.proofs.Common.{sym, ◌∙◌, ap}
use Rattle.std.proofs.lemmas.Result.{err_from_is_err_and}
use Rattle.std.specs.Prelude.{Ok}
use Rattle.book.specs.Words.{Entry}
use Rattle.sales.specs.Sales.{cancel_receipt}
use Rattle.sales.proofs.AnswersByCase.{looked_up_refused, looked_up_at, looked_up_inside, looked_up_entry, cancel_refused, cancel_answered}
use Rattle.sales.proofs.judged.judge_cancel.Goals as goal

pub returns-in_err-place : goal.returns-in_err-place
returns-in_err-place c =
    let p = err_from_is_err_and c.from_residual.result c.from_residual.ensures.1 in
    rw (p.1, p.2) (sym (cancel_refused _ _ _ (looked_up_refused _ _ _ (sym c.look_up.ensures ∙ c.in_err-place.was))))

pub entry_at-requires : goal.entry_at-requires
entry_at-requires c = looked_up_inside _ _ _ (sym c.look_up.ensures ∙ c.in_ok-place.was)

pub returns : goal.returns
returns c =
    let e = sym c.look_up.ensures ∙ c.in_ok-place.was in
    ap Ok (c.cancelled.ensures ∙ ap cancel_receipt c.entry_at.ensures)
    ∙ sym (cancel_answered _ _ _ (looked_up_at _ _ _ e).0 ∙ ap (λ (x : Entry). Ok (cancel_receipt x)) (looked_up_entry _ _ _ e))
