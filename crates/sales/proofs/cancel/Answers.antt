-- `sales::cancel` meets its contract: it writes exactly if a live sale is cancelled.
-- Assumes nothing.
use Rattle.std.proofs.Common.{sym, ◌∙◌, ap, arith}
use Rattle.std.proofs.lemmas.Result.{err_from_is_err_and}
use Rattle.book.specs.Changes.{cancelled_at}
use Rattle.book.proofs.SoundBook.{is_sound, fits_word}
use Rattle.sales.proofs.AnswersByCase.{found_at, found_somewhere, cancelled_sound, cancelled_writes, not_cancelled_stays, refused_cancel_stays}
use Rattle.sales.proofs.cancel.Goals as goal

pub returns-in_err-receipt-clause-value : goal.returns-in_err-receipt-clause-value
returns-in_err-receipt-clause-value c =
    let p = err_from_is_err_and c.from_residual.result c.from_residual.ensures.1 in
    rw (p.1, p.2) (sym c.in_err-receipt.was ∙ c.judge_cancel.ensures)

pub returns-in_err-receipt-clause-book_after : goal.returns-in_err-receipt-clause-book_after
returns-in_err-receipt-clause-book_after c = sym (refused_cancel_stays _ _ _ (sym c.judge_cancel.ensures ∙ c.in_err-receipt.was))

pub overflow_cast-sequence : goal.overflow_cast-sequence
overflow_cast-sequence c =
    omega (arith, fits_word c.args.till c.args.sequence (cancelled_sound _ _ _ (sym c.judge_cancel.ensures ∙ c.in_ok-receipt.was) c.in-Cancelled.is).1)

pub find-requires : goal.find-requires
find-requires c =
    let k = cancelled_sound _ _ _ (sym c.judge_cancel.ensures ∙ c.in_ok-receipt.was) c.in-Cancelled.is in
    let s = is_sound _ k.0 in
    omega (arith, s.long, s.few)

pub cancel_entry-requires : goal.cancel_entry-requires
cancel_entry-requires c =
    let k = cancelled_sound _ _ _ (sym c.judge_cancel.ensures ∙ c.in_ok-receipt.was) c.in-Cancelled.is in
    let s = is_sound _ k.0 in
    let f = found_at _ _ _ (sym c.find.ensures ∙ c.unwrap-place.ensures) in
    omega (arith, s.long, s.few, f.1)

pub unwrap-place-requires : goal.unwrap-place-requires
unwrap-place-requires c =
    let k = cancelled_sound _ _ _ (sym c.judge_cancel.ensures ∙ c.in_ok-receipt.was) c.in-Cancelled.is in
    rw c.find.ensures (found_somewhere _ _ _ k.2)

pub returns-in-Cancelled-clause-value : goal.returns-in-Cancelled-clause-value
returns-in-Cancelled-clause-value c = sym c.in_ok-receipt.was ∙ c.judge_cancel.ensures

pub returns-in-Cancelled-clause-book_after : goal.returns-in-Cancelled-clause-book_after
returns-in-Cancelled-clause-book_after c =
    c.cancel_entry.ensures
    ∙ (ap (cancelled_at c.args.book.now) (sym (found_at _ _ _ (sym c.find.ensures ∙ c.unwrap-place.ensures)).0)
    ∙ sym (cancelled_writes _ _ _ (sym c.judge_cancel.ensures ∙ c.in_ok-receipt.was) c.in-Cancelled.is))

pub returns-in_default-clause-value : goal.returns-in_default-clause-value
returns-in_default-clause-value c = sym c.in_ok-receipt.was ∙ c.judge_cancel.ensures

pub returns-in_default-clause-book_after : goal.returns-in_default-clause-book_after
returns-in_default-clause-book_after c =
    sym (not_cancelled_stays _ _ _ (sym c.judge_cancel.ensures ∙ c.in_ok-receipt.was) c.in_default.not-Cancelled)
