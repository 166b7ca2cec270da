-- `book::sound::asked_sound` meets its contract: each test that is passed leaves those after it.
-- Assumes nothing.
use Rattle.std.proofs.Common.{◌∙◌, sym, ap}
use Rattle.common.specs.Lists.{first_of}
use Rattle.fares.specs.Question.{leg_in_limits, cards_in_limits, cards_differ}
use Rattle.fares.proofs.QuestionLimits.{trip_few}
use Rattle.book.specs.Words.{leg_of, question_of}
use Rattle.book.proofs.Each.{all_in_range}
use Rattle.book.proofs.UnusedWords.{sound_tests}
use Rattle.book.proofs.sound.asked_sound.Goals as goal

pub returns-then-not-trip_in_limits : goal.returns-then-not-trip_in_limits
unfolding question_of
returns-then-not-trip_in_limits c =
    let trip = sym c.if-not-trip_in_limits.ensures in
    sym (sound_tests c.args.words.now c.told-words ∙ rw trip)

pub returns-then-not-cards_in_limits : goal.returns-then-not-cards_in_limits
unfolding question_of
returns-then-not-cards_in_limits c =
    let trip = sym c.if-not-trip_in_limits.ensures in
    let cards = sym (c.if-not-cards_in_limits.ensures ∙ ap (λ s. cards_in_limits (first_of 0 4 s)) c.requires) in
    sym (sound_tests c.args.words.now c.told-words ∙ rw (trip, cards))

pub returns-then-not-cards_differ : goal.returns-then-not-cards_differ
unfolding question_of
returns-then-not-cards_differ c =
    let trip = sym c.if-not-trip_in_limits.ensures in
    let cards = sym (c.if-not-cards_in_limits.ensures ∙ ap (λ s. cards_in_limits (first_of 0 4 s)) c.requires) in
    let differ = sym (c.if-not-cards_differ.ensures ∙ ap (λ s. cards_differ (first_of 0 4 s)) c.requires) in
    sym (sound_tests c.args.words.now c.told-words ∙ rw (trip, cards, differ))

pub unused_zero-requires : goal.unused_zero-requires
unused_zero-requires c = trip_few _ _ _ _ (sym c.if-not-trip_in_limits.ensures)

pub returns-then-not-unused_zero : goal.returns-then-not-unused_zero
unfolding question_of
returns-then-not-unused_zero c =
    let trip = sym c.if-not-trip_in_limits.ensures in
    let cards = sym (c.if-not-cards_in_limits.ensures ∙ ap (λ s. cards_in_limits (first_of 0 4 s)) c.requires) in
    let differ = sym (c.if-not-cards_differ.ensures ∙ ap (λ s. cards_differ (first_of 0 4 s)) c.requires) in
    let unused = sym c.if-not-unused_zero.ensures in
    sym (sound_tests c.args.words.now c.told-words ∙ rw (trip, cards, differ, unused))

pub legs_in_limits-requires : goal.legs_in_limits-requires
legs_in_limits-requires c = trip_few _ _ _ _ (sym c.if-not-trip_in_limits.ensures)

pub returns : goal.returns
unfolding question_of
returns c =
    let trip = sym c.if-not-trip_in_limits.ensures in
    let cards = sym (c.if-not-cards_in_limits.ensures ∙ ap (λ s. cards_in_limits (first_of 0 4 s)) c.requires) in
    let differ = sym (c.if-not-cards_differ.ensures ∙ ap (λ s. cards_differ (first_of 0 4 s)) c.requires) in
    let unused = sym c.if-not-unused_zero.ensures in
    c.legs_in_limits.ensures ∙ all_in_range leg_in_limits (leg_of c.args.words.now) _ ∙ sym (sound_tests c.args.words.now c.told-words ∙ rw (trip, cards, differ, unused))
