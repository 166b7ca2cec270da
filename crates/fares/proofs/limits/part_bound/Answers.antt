-- `fares::limits::part_bound` meets its contract.
-- Assumes nothing.
use mathlib.Core.Path.{◌≡◌, sym, ◌∙◌, ap}
use lib.ListN.{length, get_or, drop}
use borrow.Author.Rules.{rules}
use borrow.Author.Tests.{le-leb}
use Rattle.common.specs.Lists.{only, first_of}
use Rattle.fares.specs.Question.{is_given}
use Rattle.fares.proofs.Chains.{count_is, slots_are}
use Rattle.fares.proofs.CardSlots.{one_counts, more_counts}
use Rattle.fares.proofs.StepLaws.{bound_of_one}
use Rattle.fares.proofs.limits.part_bound.Goals as goal

pub returns-then-one_at_most : goal.returns-then-one_at_most
unfolding first_of
returns-then-one_at_most c =
    let cards = c.args.cards in
    bound_of_one (length (only is_given (first_of 0 4 cards))) (one_counts (get_or cards 0 0) (drop 1 (first_of 0 4 cards)) (sym c.one_at_most.ensures ∙ c.if-one_at_most.true))

pub returns : goal.returns
unfolding first_of
returns c =
    let cards = c.args.cards in
    let long : length cards ≡ 4 = search rules in
    let n = more_counts (get_or cards 0 0) (drop 1 (first_of 0 4 cards)) (sym c.one_at_most.ensures ∙ c.if-one_at_most.false) in
    let as_many : c.card_count.result ≡ length (only is_given (first_of 0 4 cards)) = c.card_count.ensures ∙ (count_is is_given cards ∙ ap (λ cs. length (only is_given cs)) (sym (slots_are 0 4 cards long))) in
    rw (as_many, le-leb 1 (length (only is_given (first_of 0 4 cards))) n)
