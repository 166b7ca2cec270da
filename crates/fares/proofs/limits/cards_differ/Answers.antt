-- `fares::limits::cards_differ` meets its contract. The loop's invariant: the slots that are left decide.
-- Assumes nothing.
use Rattle.std.proofs.Common.{◌≡◌, ℕ, ◌+◌, ◌-◌, ◌≤◌, List, eqb, length, take, drop, sym, ap, ◌∙◌, rules, get_or, arith, eq-eqb, ne_eqb}
use Rattle.std.specs.List.{list_any}
use Rattle.common.specs.Lists.{any, first_of}
use Rattle.fares.specs.Question.{cards_differ}
use Rattle.fares.proofs.CardSlots.{differ_step, none_behind, one_differs, swapped}
use Rattle.fares.proofs.Chains.{any_is, slots_are, behind}
use Rattle.fares.proofs.limits.cards_differ.Goals as goal
use Rattle.fares.proofs.limits.cards_differ.Goals.{else-card-ne0-via-then-card-ne0+else-contains, else-card-ne0-via-else-card-ne0}

-- in a slot behind slot k
stands_behind : (card k : ℕ) (cards : List ℕ) → length cards ≤ (k + 1) + (4 - (k + 1))
    → list_any (λ x. eqb x card) (take (4 - (k + 1)) (drop (k + 1) cards)) ≡ any (eqb card) (drop (k + 1) cards)
stands_behind card k cards l =
    any_is (λ x. eqb x card) (eqb card) (λ x. swapped x card) (take (4 - (k + 1)) (drop (k + 1) cards)) ∙ ap (any (eqb card)) (behind (k + 1) (4 - (k + 1)) cards l)

pub returns-then-one_at_most : goal.returns-then-one_at_most
unfolding first_of
returns-then-one_at_most c =
    let cards = c.args.cards in
    sym (one_differs (get_or cards 0 0) (drop 1 (first_of 0 4 cards)) (sym c.one_at_most.ensures ∙ c.if-one_at_most.true))

pub returns-then-contains : goal.returns-then-contains
returns-then-contains c =
    let cards = c.args.cards in
    let k = c.loop-k.k in
    let card = get_or cards k 0 in
    let long : length cards ≡ 4 = search rules in
    let head = c.loop-k.invariant ∙ differ_step cards k (omega (arith, long)) in
    let stands : c.contains.result ≡ any (eqb card) (drop (k + 1) cards) = c.contains.ensures.value ∙ stands_behind card k cards (omega (arith, long)) in
    sym (rw (slots_are 0 4 cards long) (head ∙ rw (ne_eqb card 0 c.if-card-ne0.true, ← stands, c.if-contains.true)))

pub loop-k-preserved : goal.loop-k-preserved
loop-k-preserved c =
    let cards = c.args.cards in
    let k = c.loop-k.k in
    let card = get_or cards k 0 in
    let long : length cards ≡ 4 = search rules in
    let head = c.loop-k.invariant ∙ differ_step cards k (omega (arith, long)) in
    head ∙ elim c.else-card-ne0.branch [
      | else-card-ne0-via-then-card-ne0+else-contains w ↦
          let stands : w.contains.result ≡ any (eqb card) (drop (k + 1) cards) = w.contains.ensures.value ∙ stands_behind card k cards (omega (arith, long)) in
          rw (ne_eqb card 0 w.if-card-ne0.true, ← stands, w.if-contains.false)
      | else-card-ne0-via-else-card-ne0 w ↦ rw (eq-eqb card 0 w.if-card-ne0.false)
    ]

pub returns : goal.returns
unfolding cards_differ
returns c =
    let cards = c.args.cards in
    let long : length cards ≡ 4 = search rules in
    sym (rw (slots_are 0 4 cards long) (c.loop-k.invariant ∙ rw (none_behind cards c.loop-k.k (omega (arith, long, c.loop-k-test.false)))))
