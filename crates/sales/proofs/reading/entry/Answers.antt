-- `sales::reading::entry` meets its contract.
-- Assumes nothing.
use Prim.Native.Nat.{◌<◌}
use mathlib.Core.Path.{sym, ◌∙◌, ap}
use native.Mathlib.Omega.{arith}
use borrow.Author.Tests.{lt-ltb, le-ltb}
use Rattle.std.specs.Prelude.{Ok, Err}
use Rattle.common.specs.Checks.{first_fault}
use Rattle.book.specs.Words.{count_of}
use Rattle.book.proofs.SoundBook.{is_sound, entry_is, entries_length}
use Rattle.sales.specs.Reading.{booking_at, entry_answer}
use Rattle.sales.proofs.reading.entry.Goals as goal

pub returns-then-not-is_sound : goal.returns-then-not-is_sound
unfolding entry_answer first_fault
returns-then-not-is_sound c = ap Err c.refuse.ensures ∙ sym (rw (sym c.if-not-is_sound.ensures))

pub returns-then-count-entry : goal.returns-then-count-entry
unfolding entry_answer first_fault
returns-then-count-entry c =
    let a = c.args in
    ap Err c.refuse-then-count-entry.ensures
    ∙ sym (rw (sym c.if-not-is_sound.ensures, entries_length a.book.now, le-ltb a.entry (count_of a.book.now) (omega (arith, c.if-count-entry.true, c.count.ensures))))

pub entry_at-requires : goal.entry_at-requires
entry_at-requires c =
    let s = is_sound _ (sym c.if-not-is_sound.ensures) in
    omega (arith, s.long, s.few, c.if-count-entry.false, c.count.ensures)

pub returns : goal.returns
unfolding entry_answer first_fault
returns c =
    let a = c.args in
    let l : a.entry < count_of a.book.now = omega (arith, c.if-count-entry.false, c.count.ensures) in
    ap Ok (c.booking.ensures ∙ ap (booking_at a.entry) c.entry_at.ensures)
    ∙ sym (rw (sym c.if-not-is_sound.ensures, entries_length a.book.now, lt-ltb a.entry (count_of a.book.now) l) (ap (λ x. Ok (booking_at a.entry x)) (entry_is a.book.now a.entry l)))
