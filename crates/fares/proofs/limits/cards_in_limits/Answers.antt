-- `fares::limits::cards_in_limits` meets its contract. The loop's invariant: the slots that are left decide.
-- Assumes nothing.
use Rattle.std.proofs.Common.{◌≡◌, ◌+◌, ◌-◌, eqb, length, take, drop, sym, ap, ◌∙◌, rules, get_or, arith, eq-eqb, ne_eqb, le-leb}
use borrow.Author.Tests.{lt-leb}
use Rattle.common.specs.Lists.{every, first_of}
use Rattle.fares.specs.Question.{cards_in_limits}
use Rattle.fares.proofs.CardSlots.{limits_step, none_behind, one_limits, turned}
use Rattle.fares.proofs.Chains.{all_is, slots_are, behind}
use Rattle.fares.proofs.limits.cards_in_limits.Goals as goal

pub returns-then-one_at_most : goal.returns-then-one_at_most
unfolding first_of
returns-then-one_at_most c =
    let cards = c.args.cards in
    sym (one_limits (get_or cards 0 0) (drop 1 (first_of 0 4 cards)) (sym c.one_at_most.ensures ∙ c.if-one_at_most.true))

pub returns-then-card-eq0 : goal.returns-then-card-eq0
returns-then-card-eq0 c =
    let cards = c.args.cards in
    let k = c.loop-k.k in
    let long : length cards ≡ 4 = search rules in
    let none : c.none_given.result ≡ every (eqb 0) (drop (k + 1) cards) =
    c.none_given.ensures
    ∙ (all_is (λ card. eqb card 0) (eqb 0) turned (take (4 - (k + 1)) (drop (k + 1) cards))
    ∙ ap (every (eqb 0)) (behind (k + 1) (4 - (k + 1)) cards (omega (arith, long)))) in
    let head = c.loop-k.invariant ∙ limits_step cards k (omega (arith, long)) in
    none ∙ sym (rw (slots_are 0 4 cards long) (head ∙ rw (le-leb (get_or cards k 0) 999 (omega arith), eq-eqb (get_or cards k 0) 0 c.if-card-eq0.true)))

pub returns-then-card-gt999 : goal.returns-then-card-gt999
returns-then-card-gt999 c =
    let cards = c.args.cards in
    let k = c.loop-k.k in
    let long : length cards ≡ 4 = search rules in
    let head = c.loop-k.invariant ∙ limits_step cards k (omega (arith, long)) in
    sym (rw (slots_are 0 4 cards long) (head ∙ rw (lt-leb (get_or cards k 0) 999 c.if-card-gt999.true)))

pub loop-k-preserved : goal.loop-k-preserved
loop-k-preserved c =
    let cards = c.args.cards in
    let k = c.loop-k.k in
    let long : length cards ≡ 4 = search rules in
    let head = c.loop-k.invariant ∙ limits_step cards k (omega (arith, long)) in
    head ∙ rw (le-leb (get_or cards k 0) 999 c.if-card-gt999.false, ne_eqb (get_or cards k 0) 0 c.if-card-eq0.false)

pub returns : goal.returns
unfolding cards_in_limits
returns c =
    let cards = c.args.cards in
    let long : length cards ≡ 4 = search rules in
    sym (rw (slots_are 0 4 cards long) (c.loop-k.invariant ∙ rw (none_behind cards c.loop-k.k (omega (arith, long, c.loop-k-test.false)))))
