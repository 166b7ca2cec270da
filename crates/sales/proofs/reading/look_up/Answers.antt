-- `sales::reading::look_up` meets its contract.
-- Assumes nothing.
use Rattle.std.proofs.Common.{◌∙◌, sym, ap₂, arith}
use Rattle.std.specs.Option.{ok_or}
use Rattle.common.proofs.Checks.{as_found}
use Rattle.book.proofs.SoundBook.{is_sound, fits_word}
use Rattle.sales.specs.Helpers.{looked_up}
use Rattle.sales.proofs.AnswersByCase.{looked_unsound, looked_no_number, looked_for}
use Rattle.sales.proofs.reading.look_up.Goals as goal

pub returns-then-not-is_sound : goal.returns-then-not-is_sound
unfolding looked_up
returns-then-not-is_sound c = as_found _ (looked_unsound _ _ _ (sym c.if-not-is_sound.ensures)) c.refuse.ensures

pub returns-then-not-is_number : goal.returns-then-not-is_number
unfolding looked_up
returns-then-not-is_number c =
    as_found _ (looked_no_number _ _ _ (sym c.if-not-is_sound.ensures) (sym c.if-not-is_number.ensures)) c.refuse-then-not-is_number.ensures

pub overflow_cast-sequence : goal.overflow_cast-sequence
overflow_cast-sequence c = omega (arith, fits_word c.args.till c.args.sequence (sym c.if-not-is_number.ensures))

pub find-requires : goal.find-requires
find-requires c = let k = is_sound c.args.book.now (sym c.if-not-is_sound.ensures) in omega (arith, k.long, k.few)

pub returns : goal.returns
returns c =
    c.ok_or.ensures.value ∙ (ap₂ ok_or c.find.ensures c.refuse-2.ensures ∙ sym (looked_for _ _ _ (sym c.if-not-is_sound.ensures) (sym c.if-not-is_number.ensures)))
