-- `book::sound::is_sound` meets its contract: the tests in the order of the definition.
-- Assumes nothing.
use Rattle.std.proofs.Common.{◌∙◌, ◌-◌, map, sym, ap, arith, eq-eqb, ne_eqb}
use mathlib.Core.Bool.{and-true}
use borrow.Author.Tests.{le-leb, lt-leb}
use Rattle.common.specs.Lists.{every}
use Rattle.common.proofs.Parts.{rest_taken}
use Rattle.book.specs.Words.{book_length, count_of, entry_of, entries, start_of}
use Rattle.book.specs.Sound.{is_zero, entry_sound, numbers_differ, sound_words}
use Rattle.book.proofs.EntryWords.{first_entries}
use Rattle.book.proofs.sound.is_sound.Goals as goal

pub returns-then-book-ne-LENGTH : goal.returns-then-book-ne-LENGTH
unfolding sound_words every entries
returns-then-book-ne-LENGTH c = rw (ne_eqb _ _ c.if-book-ne-LENGTH.true)

pub returns-then-count-gt-CAPACITY : goal.returns-then-count-gt-CAPACITY
unfolding sound_words every entries
returns-then-count-gt-CAPACITY c = rw (eq-eqb _ _ c.if-book-ne-LENGTH.false, lt-leb _ _ c.if-count-gt-CAPACITY.true)

pub returns-then-not-entries_sound : goal.returns-then-not-entries_sound
unfolding sound_words every entries
returns-then-not-entries_sound c =
    let w = c.args.book.now in
    let e = ap (map entry_of) c.first-entries.ensures ∙ first_entries w (count_of w) in
    let each = sym (c.if-not-entries_sound.ensures ∙ ap (every entry_sound) e) in
    rw (eq-eqb _ _ c.if-book-ne-LENGTH.false, le-leb _ _ c.if-count-gt-CAPACITY.false, each)

pub returns-then-not-numbers_differ : goal.returns-then-not-numbers_differ
unfolding sound_words every entries
returns-then-not-numbers_differ c =
    let w = c.args.book.now in
    let e = ap (map entry_of) c.first-entries.ensures ∙ first_entries w (count_of w) in
    let each = sym (c.if-not-entries_sound.ensures ∙ ap (every entry_sound) e) in
    let differ = sym (c.if-not-numbers_differ.ensures ∙ ap numbers_differ e) in
    rw (eq-eqb _ _ c.if-book-ne-LENGTH.false, le-leb _ _ c.if-count-gt-CAPACITY.false, each, differ)

pub returns : goal.returns
unfolding sound_words every entries
returns c =
    let w = c.args.book.now in
    let e = ap (map entry_of) c.first-entries.ensures ∙ first_entries w (count_of w) in
    let each = sym (c.if-not-entries_sound.ensures ∙ ap (every entry_sound) e) in
    let differ = sym (c.if-not-numbers_differ.ensures ∙ ap numbers_differ e) in
    let n = c.if-book-ne-LENGTH.false in
    let at = start_of (count_of w) in
    rw (eq-eqb _ _ c.if-book-ne-LENGTH.false, le-leb _ _ c.if-count-gt-CAPACITY.false, each, differ, and-true)
    (c.all_zero.ensures ∙ ap (every is_zero) (rest_taken w at (book_length - at) (omega arith)))
