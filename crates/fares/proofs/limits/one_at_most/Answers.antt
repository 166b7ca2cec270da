-- `fares::limits::one_at_most` meets its contract.
-- Assumes nothing.
use Rattle.std.proofs.Common.{◌≡◌, eqb, length, take, drop, ◌∙◌, ap, rules, arith}
use Rattle.common.specs.Lists.{every}
use Rattle.fares.proofs.CardSlots.{turned}
use Rattle.fares.proofs.Chains.{all_is, slots_are, behind}
use Rattle.fares.proofs.limits.one_at_most.Goals as goal

pub returns : goal.returns
returns c =
    let long : length c.args.cards ≡ 4 = search rules in
    let cards = c.args.cards in
    rw (slots_are 0 4 cards long)
    (c.none_given.ensures ∙ (all_is (λ card. eqb card 0) (eqb 0) turned (take 3 (drop 1 cards)) ∙ ap (every (eqb 0)) (behind 1 3 cards (omega (arith, long)))))
