-- `fares::records::choose` meets its contract.
-- Assumes nothing.
use mathlib.Core.Path.{◌≡◌, sym, ◌∙◌, ap}
use Prim.Native.Nat.{ℕ}
use mathlib.Core.List.{List, map}
use Rattle.arrayvec.specs.ArrayVec.{ArrayVec}
use Rattle.common.proofs.Tests.{fails, holds}
use Rattle.bundle.specs.Records.{records_of}
use Rattle.choice.specs.Choice.{choice_of}
use Rattle.choice.specs.Helpers.{at_place}
use Rattle.choice.proofs.WalkLaws.{chosen_at, not_at}
use Rattle.layout.specs.Layout.{CO}
use Rattle.fares.specs.Legs.{wanted_for, conditions_for}
use Rattle.fares.specs.Helpers.{place_of, cards_by, placed}
use Rattle.fares.proofs.LegLaws.{no_conditions_cards, flag_cards}
use Rattle.fares.proofs.records.choose.Goals as goal

-- the places are all that a vector of them is
the_same : {v : ArrayVec ℕ} {places : List ℕ} → v.items ≡ places → v ≡ cards_by places
the_same e = λ j. record { items = e j }

pub returns-in_default : goal.returns-in_default
unfolding placed
returns-in_default c =
    let conditions : let a = c.args in c.choose-conditions.result ≡ at_place a.bundle.now (conditions_for (records_of a.bundle.now) a.q a.leg) = let a = c.args in
    c.choose-conditions.ensures ∙ ap (λ w. at_place a.bundle.now (choice_of (records_of a.bundle.now) w)) c.wanted_for.ensures in
    let a = c.args in
    let s = a.bundle.now in
    let n = not_at s c.choose-conditions.result c.in_default.not-At (conditions) in
    let f = (the_same c.new.ensures) ∙ ap (λ is. cards_by (map (place_of s) is)) (sym (no_conditions_cards s a.q a.leg n)) in
    λ j. record { conditions = conditions j; cards = f j }

pub returns-then-not-is_yes : goal.returns-then-not-is_yes
unfolding placed
returns-then-not-is_yes c =
    let conditions : let a = c.args in c.choose-conditions.result ≡ at_place a.bundle.now (conditions_for (records_of a.bundle.now) a.q a.leg) = let a = c.args in
    c.choose-conditions.ensures ∙ ap (λ w. at_place a.bundle.now (choice_of (records_of a.bundle.now) w)) c.wanted_for.ensures in
    let a = c.args in
    let s = a.bundle.now in
    let n = sym (conditions) ∙ c.in-At.is in
    let e = chosen_at s (wanted_for CO 0 a.q a.leg) _ n in
    let no = fails c.is_yes.result c.if-not-is_yes.true-raw c.is_yes.ensures in
    let f = flag_cards s a.q a.leg e.1 (c.body_at.ensures ∙ e.2) (sym no) in
    λ j. record { conditions = sym n j; cards = ((the_same c.new-then-not-is_yes.ensures) ∙ ap (λ is. cards_by (map (place_of s) is)) (sym f)) j }

pub returns : goal.returns
unfolding placed
returns c =
    let conditions : let a = c.args in c.choose-conditions.result ≡ at_place a.bundle.now (conditions_for (records_of a.bundle.now) a.q a.leg) = let a = c.args in
    c.choose-conditions.ensures ∙ ap (λ w. at_place a.bundle.now (choice_of (records_of a.bundle.now) w)) c.wanted_for.ensures in
    let a = c.args in
    let s = a.bundle.now in
    let n = sym (conditions) ∙ c.in-At.is in
    let e = chosen_at s (wanted_for CO 0 a.q a.leg) _ n in
    let yes = holds c.is_yes.result c.if-not-is_yes.false-raw c.is_yes.ensures in
    let f = flag_cards s a.q a.leg e.1 (c.body_at.ensures ∙ e.2) (sym yes) in
    λ j. record { conditions = sym n j; cards = ((the_same c.cards_for.ensures) ∙ ap (λ is. cards_by (map (place_of s) is)) (sym f)) j }
