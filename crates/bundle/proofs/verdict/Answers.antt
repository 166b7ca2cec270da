-- `bundle::verdict` meets its contract.
-- Assumes nothing.
use Rattle.std.proofs.Common.{sym, ◌∙◌, ap}
use Rattle.std.proofs.lemmas.Result.{err_from_is_err_and}
use Rattle.std.specs.Prelude.{Err}
use Rattle.bundle.proofs.PassLaws.{too_long, by_first, by_second}
use Rattle.bundle.proofs.verdict.Goals as goal

pub returns-then-bundle-gt-LIMIT : goal.returns-then-bundle-gt-LIMIT
returns-then-bundle-gt-LIMIT c = ap Err c.refuse.ensures ∙ sym (too_long _ c.if-bundle-gt-LIMIT.true)

pub returns-in_err-records : goal.returns-in_err-records
returns-in_err-records c =
    let p = err_from_is_err_and c.from_residual.result c.from_residual.ensures.1 in
    rw (p.1, p.2) (sym (by_first _ c.if-bundle-gt-LIMIT.false _ (sym c.first_pass.ensures ∙ c.in_err-records.was)))

pub returns : goal.returns
returns c = c.second_pass.ensures ∙ sym (by_second _ c.if-bundle-gt-LIMIT.false _ (sym c.first_pass.ensures ∙ c.in_ok-records.was))
