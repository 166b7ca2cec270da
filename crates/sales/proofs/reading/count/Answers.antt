-- `sales::reading::count` meets its contract.
-- Assumes nothing.
use mathlib.Core.Path.{sym, ◌∙◌, ap}
use Rattle.std.specs.Prelude.{Ok, Err}
use Rattle.common.specs.Checks.{first_fault}
use Rattle.book.proofs.SoundBook.{entries_length}
use Rattle.sales.specs.Reading.{count_answer}
use Rattle.sales.proofs.reading.count.Goals as goal

pub returns-then-not-is_sound : goal.returns-then-not-is_sound
unfolding count_answer first_fault
returns-then-not-is_sound c = ap Err c.refuse.ensures ∙ sym (rw (sym c.if-not-is_sound.ensures))

pub returns : goal.returns
unfolding count_answer first_fault
returns c =
    let w = c.args.book.now in
    ap Ok (c.count.ensures ∙ sym (entries_length w)) ∙ sym (rw (sym c.if-not-is_sound.ensures))
