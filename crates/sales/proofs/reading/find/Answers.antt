-- `sales::reading::find` meets its contract.
-- Assumes nothing.
use Rattle.std.proofs.Common.{sym, ◌∙◌, ap, ap₂}
use Rattle.std.proofs.lemmas.Result.{err_from_is_err_and}
use Rattle.std.specs.Prelude.{Ok}
use Rattle.sales.specs.Reading.{booking_at}
use Rattle.sales.proofs.AnswersByCase.{looked_up_refused, looked_up_at, looked_up_inside, looked_up_entry, find_refused, find_answered}
use Rattle.sales.proofs.reading.find.Goals as goal

pub returns-in_err-entry : goal.returns-in_err-entry
returns-in_err-entry c =
    let p = err_from_is_err_and c.from_residual.result c.from_residual.ensures.1 in
    rw (p.1, p.2) (sym (find_refused _ _ _ (looked_up_refused _ _ _ (sym c.look_up.ensures ∙ c.in_err-entry.was))))

pub entry_at-requires : goal.entry_at-requires
entry_at-requires c = looked_up_inside _ _ _ (sym c.look_up.ensures ∙ c.in_ok-entry.was)

pub returns : goal.returns
returns c =
    let e = sym c.look_up.ensures ∙ c.in_ok-entry.was in
    ap Ok (c.booking.ensures ∙ ap (booking_at c.in_ok-entry.entry) c.entry_at.ensures)
    ∙ sym (find_answered _ _ _ (looked_up_at _ _ _ e).0 ∙ ap₂ (λ k x. Ok (booking_at k x)) (looked_up_at _ _ _ e).1 (looked_up_entry _ _ _ e))
