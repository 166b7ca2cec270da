-- `sales::judged::sold_first` meets its contract.
-- Assumes nothing.
use Rattle.std.proofs.Common.{sym, ◌∙◌}
use Rattle.std.proofs.lemmas.Result.{err_from_is_err_and}
use Rattle.sales.proofs.AnswersByCase.{quote_refused, quote_priced}
use Rattle.sales.proofs.judged.sold_first.Goals as goal

pub returns-in_err-quote : goal.returns-in_err-quote
returns-in_err-quote c =
    let p = err_from_is_err_and c.from_residual.result c.from_residual.ensures.1 in
    rw (p.1, p.2) (sym (quote_refused _ _ _ (sym c.fare.ensures ∙ c.in_err-quote.was)))

pub returns : goal.returns
returns c = sym (quote_priced _ _ _ (sym c.fare.ensures ∙ c.in_ok-quote.was))
