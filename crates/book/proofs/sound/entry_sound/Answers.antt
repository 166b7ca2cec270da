-- `book::sound::entry_sound` meets its contract.
-- Assumes nothing.
use Rattle.std.proofs.Common.{◌≡◌, ◌∙◌, ◌≤◌, ◌+◌, ◌-◌, List, ℕ, length, get_or, take, drop, true, sym, ap, arith}
use mathlib.Core.Bool.{and-true}
use borrow.Author.Tests.{le-leb, lt-leb}
use Rattle.common.specs.Lists.{every, only, first_of}
use Rattle.fares.specs.Question.{is_given}
use Rattle.fares.specs.Reductions.{part_bound}
use Rattle.book.specs.Words.{count_at, asked_at, parts_at, status_at, question_of, entry_of}
use Rattle.book.specs.Sound.{is_zero, asked_sound, bound_of, is_bounded, entry_sound}
use Rattle.book.proofs.EntryWords.{count_at_lem, unused_parts}
use Rattle.book.proofs.SoundBook.{few_legs}
use Rattle.book.proofs.sound.entry_sound.Goals as goal

-- the leg count of an entry with a sound question, and the words of its parts from there on
few : (b : List ℕ) → asked_sound (entry_of b).asked ≡ true → get_or b (asked_at + count_at) 0 ≤ 8
few b e = rw (count_at_lem b) at (few_legs (entry_of b).asked e)

behind : (b : List ℕ) → asked_sound (entry_of b).asked ≡ true → let n = get_or b (asked_at + count_at) 0 in
    every is_zero (take (status_at - (parts_at + n)) (drop (parts_at + n) b)) ≡ every is_zero (drop (question_of (entry_of b).asked).count (entry_of b).parts)
behind b e = rw (count_at_lem b) (ap (every is_zero) (unused_parts b (get_or b (asked_at + count_at) 0) (few b e)))

-- the bound on a part, by the cards that were read
bounds : {ws asked cards : List ℕ} {bound : ℕ} → ws ≡ asked → cards ≡ (question_of ws).cards → bound ≡ part_bound (length (only is_given (first_of 0 4 cards))) → bound ≡ bound_of (question_of asked)
bounds e f g = g ∙ (ap (λ cs. part_bound (length (only is_given (first_of 0 4 cs)))) f ∙ ap (λ ws. bound_of (question_of ws)) e)

pub returns-then-not-is_number : goal.returns-then-not-is_number
unfolding entry_sound every
returns-then-not-is_number c =
    let number = sym c.if-not-is_number.ensures in
    rw number

pub returns-then-not-asked_sound : goal.returns-then-not-asked_sound
unfolding entry_sound every
returns-then-not-asked_sound c =
    let number = sym c.if-not-is_number.ensures in
    let asked = sym (c.if-not-asked_sound.ensures ∙ ap asked_sound c.block-asked.ensures) in
    rw (number, asked)

pub returns-then-not-all_bounded : goal.returns-then-not-all_bounded
unfolding entry_sound every
returns-then-not-all_bounded c =
    let number = sym c.if-not-is_number.ensures in
    let asked = sym (c.if-not-asked_sound.ensures ∙ ap asked_sound c.block-asked.ensures) in
    let bounded = sym (c.if-not-all_bounded.ensures ∙ ap (λ b. is_bounded b (entry_of c.args.words.now).parts) (bounds c.block-asked.ensures c.cards_in-cards.ensures c.part_bound.ensures)) in
    rw (number, asked, bounded)

pub slice_bounds-all_zero-count : goal.slice_bounds-all_zero-count
slice_bounds-all_zero-count c =
    let asked = sym (c.if-not-asked_sound.ensures ∙ ap asked_sound c.block-asked.ensures) in
    omega (arith, few c.args.words.now asked)

pub slice_bounds-all_zero-start : goal.slice_bounds-all_zero-start
slice_bounds-all_zero-start c =
    let asked = sym (c.if-not-asked_sound.ensures ∙ ap asked_sound c.block-asked.ensures) in
    omega (arith, few c.args.words.now asked)

pub returns-then-not-all_zero : goal.returns-then-not-all_zero
unfolding entry_sound every
returns-then-not-all_zero c =
    let number = sym c.if-not-is_number.ensures in
    let asked = sym (c.if-not-asked_sound.ensures ∙ ap asked_sound c.block-asked.ensures) in
    let bounded = sym (c.if-not-all_bounded.ensures ∙ ap (λ b. is_bounded b (entry_of c.args.words.now).parts) (bounds c.block-asked.ensures c.cards_in-cards.ensures c.part_bound.ensures)) in
    let unused = sym (c.if-not-all_zero.ensures ∙ behind c.args.words.now asked) in
    rw (number, asked, bounded, unused)

pub returns-then-words-gt1 : goal.returns-then-words-gt1
unfolding entry_sound every
returns-then-words-gt1 c =
    let number = sym c.if-not-is_number.ensures in
    let asked = sym (c.if-not-asked_sound.ensures ∙ ap asked_sound c.block-asked.ensures) in
    let bounded = sym (c.if-not-all_bounded.ensures ∙ ap (λ b. is_bounded b (entry_of c.args.words.now).parts) (bounds c.block-asked.ensures c.cards_in-cards.ensures c.part_bound.ensures)) in
    let unused = sym (c.if-not-all_zero.ensures ∙ behind c.args.words.now asked) in
    rw (number, asked, bounded, unused, lt-leb _ 1 c.if-words-gt1.true)

pub returns : goal.returns
unfolding entry_sound every
returns c =
    let number = sym c.if-not-is_number.ensures in
    let asked = sym (c.if-not-asked_sound.ensures ∙ ap asked_sound c.block-asked.ensures) in
    let bounded = sym (c.if-not-all_bounded.ensures ∙ ap (λ b. is_bounded b (entry_of c.args.words.now).parts) (bounds c.block-asked.ensures c.cards_in-cards.ensures c.part_bound.ensures)) in
    let unused = sym (c.if-not-all_zero.ensures ∙ behind c.args.words.now asked) in
    rw (number, asked, bounded, unused, le-leb _ 1 c.if-words-gt1.false, c.all_zero-2.ensures, and-true)
