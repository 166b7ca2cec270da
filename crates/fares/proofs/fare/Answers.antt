-- `fares::fare` meets its contract.
-- Assumes nothing.
use Rattle.std.proofs.Common.{sym, ◌∙◌}
use Rattle.std.proofs.lemmas.Result.{err_from_is_err_and}
use Rattle.fares.proofs.FareLaws.{verdict_first, then_the_price}
use Rattle.fares.proofs.fare.Goals as goal

pub returns-in_err-verdict : goal.returns-in_err-verdict
returns-in_err-verdict c =
    let p = err_from_is_err_and c.from_residual.result c.from_residual.ensures.1 in
    rw (p.1, p.2) (sym (verdict_first _ _ _ (sym c.verdict.ensures ∙ c.in_err-verdict.was)))

pub returns : goal.returns
returns c = c.price.ensures ∙ sym (then_the_price _ _ _ (sym c.verdict.ensures ∙ c.in_ok-verdict.was))
