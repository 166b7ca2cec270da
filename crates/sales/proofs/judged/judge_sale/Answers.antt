-- `sales::judged::judge_sale` meets its contract.
-- Assumes nothing.
use Rattle.std.proofs.Common.{◌∙◌, Err, sym, ap, arith}
use Rattle.book.proofs.SoundBook.{is_sound, fits_word}
use Rattle.sales.specs.Helpers.{again_answer}
use Rattle.sales.proofs.AnswersByCase.{found_inside, found_nowhere, sale_unsound, sale_no_number, sale_again, sale_full, sale_first}
use Rattle.sales.proofs.judged.judge_sale.Goals as goal

pub returns-then-not-is_sound : goal.returns-then-not-is_sound
returns-then-not-is_sound c = ap Err c.refuse.ensures ∙ sym (sale_unsound _ _ _ _ _ (sym c.if-not-is_sound.ensures))

pub returns-then-not-is_number : goal.returns-then-not-is_number
returns-then-not-is_number c =
    ap Err c.refuse-then-not-is_number.ensures ∙ sym (sale_no_number _ _ _ _ _ (sym c.if-not-is_sound.ensures) (sym c.if-not-is_number.ensures))

pub overflow_cast-sequence : goal.overflow_cast-sequence
overflow_cast-sequence c = omega (arith, fits_word c.args.till c.args.sequence (sym c.if-not-is_number.ensures))

pub find-requires : goal.find-requires
find-requires c = let k = is_sound c.args.book.now (sym c.if-not-is_sound.ensures) in omega (arith, k.long, k.few)

pub entry_at-entry-requires : goal.entry_at-entry-requires
entry_at-entry-requires c = found_inside _ _ _ (sym c.if-not-is_sound.ensures) (sym c.find.ensures ∙ c.in-Some.is)

pub returns-in-Some : goal.returns-in-Some
returns-in-Some c =
    let a = c.args in
    c.sold_again.ensures
    ∙ (ap (λ e. again_answer e c.in-Some.place a.q) c.entry_at-entry.ensures
    ∙ sym (sale_again a.book.now a.till a.sequence a.bundle.now a.q (sym c.if-not-is_sound.ensures) (sym c.if-not-is_number.ensures) (sym c.find.ensures ∙ c.in-Some.is)))

pub returns-then-count-ge-CAPACITY : goal.returns-then-count-ge-CAPACITY
returns-then-count-ge-CAPACITY c =
    let a = c.args in
    let absent = found_nowhere a.book.now a.till a.sequence (sym c.find.ensures ∙ c.in_default.is) in
    ap Err c.refuse-then-count-ge-CAPACITY.ensures
    ∙ sym (sale_full a.book.now a.till a.sequence a.bundle.now a.q (sym c.if-not-is_sound.ensures) (sym c.if-not-is_number.ensures) absent (omega (arith, c.if-count-ge-CAPACITY.true, c.count-count.ensures)))

pub returns : goal.returns
returns c =
    let a = c.args in
    let absent = found_nowhere a.book.now a.till a.sequence (sym c.find.ensures ∙ c.in_default.is) in
    c.sold_first.ensures
    ∙ sym (sale_first a.book.now a.till a.sequence a.bundle.now a.q (sym c.if-not-is_sound.ensures) (sym c.if-not-is_number.ensures) absent (omega (arith, c.if-count-ge-CAPACITY.false, c.count-count.ensures)))
