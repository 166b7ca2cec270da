-- `sales::sale` meets its contract: it writes exactly if the sale is newly booked.
-- Assumes nothing.
use Rattle.std.proofs.Common.{sym, ◌∙◌, arith}
use Rattle.std.proofs.lemmas.Result.{err_from_is_err_and}
use Rattle.book.proofs.SoundBook.{is_sound, fits_word}
use Rattle.sales.proofs.AnswersByCase.{booked_sound, booked_writes, not_booked_stays, refused_stays}
use Rattle.sales.proofs.sale.Goals as goal

pub returns-in_err-receipt-clause-value : goal.returns-in_err-receipt-clause-value
returns-in_err-receipt-clause-value c =
    let p = err_from_is_err_and c.from_residual.result c.from_residual.ensures.1 in
    rw (p.1, p.2) (sym c.in_err-receipt.was ∙ c.judge_sale.ensures)

pub returns-in_err-receipt-clause-book_after : goal.returns-in_err-receipt-clause-book_after
returns-in_err-receipt-clause-book_after c = sym (refused_stays _ _ _ _ _ (sym c.judge_sale.ensures ∙ c.in_err-receipt.was))

pub overflow_cast-sequence : goal.overflow_cast-sequence
overflow_cast-sequence c =
    omega (arith, fits_word c.args.till c.args.sequence (booked_sound _ _ _ _ _ (sym c.judge_sale.ensures ∙ c.in_ok-receipt.was) c.in-Booked.is).1)

pub append-requires : goal.append-requires
append-requires c =
    let k = booked_sound _ _ _ _ _ (sym c.judge_sale.ensures ∙ c.in_ok-receipt.was) c.in-Booked.is in
    ((is_sound _ k.0).long, k.2)

pub returns-in-Booked-clause-value : goal.returns-in-Booked-clause-value
returns-in-Booked-clause-value c = sym c.in_ok-receipt.was ∙ c.judge_sale.ensures

pub returns-in-Booked-clause-book_after : goal.returns-in-Booked-clause-book_after
returns-in-Booked-clause-book_after c =
    c.append.ensures ∙ sym (booked_writes _ _ _ _ _ (sym c.judge_sale.ensures ∙ c.in_ok-receipt.was) c.in-Booked.is)

pub returns-in_default-clause-value : goal.returns-in_default-clause-value
returns-in_default-clause-value c = sym c.in_ok-receipt.was ∙ c.judge_sale.ensures

pub returns-in_default-clause-book_after : goal.returns-in_default-clause-book_after
returns-in_default-clause-book_after c =
    sym (not_booked_stays _ _ _ _ _ (sym c.judge_sale.ensures ∙ c.in_ok-receipt.was) c.in_default.not-Booked)
