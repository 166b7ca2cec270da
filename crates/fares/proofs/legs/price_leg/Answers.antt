-- `fares::legs::price_leg` meets its contract.
-- Assumes nothing.
use Rattle.std.proofs.Common.{sym, ◌∙◌, ap}
use Rattle.common.proofs.Checks.{as_found}
use Rattle.layout.specs.Layout.{CO}
use Rattle.choice.proofs.WalkLaws.{chosen_at}
use Rattle.fares.specs.Legs.{wanted_for}
use Rattle.fares.specs.Helpers.{placed, answer_of}
use Rattle.fares.specs.declared.records.LegRecords.{LegRecords}
use Rattle.fares.proofs.LegLaws.{no_conditions, off_day, by_places}
use Rattle.fares.proofs.legs.price_leg.Goals as goal

pub returns-in-Nothing : goal.returns-in-Nothing
unfolding answer_of placed
returns-in-Nothing c =
    let a = c.args in
    as_found _ (no_conditions _ a.q a.leg _ (ap (λ (r : LegRecords). r.conditions) (sym c.choose-records.ensures) ∙ c.in-Nothing.is)) c.refuse.ensures

pub returns-in-NotThatDay : goal.returns-in-NotThatDay
unfolding answer_of placed
returns-in-NotThatDay c =
    let a = c.args in
    as_found _ (off_day _ a.q a.leg _ (ap (λ (r : LegRecords). r.conditions) (sym c.choose-records.ensures) ∙ c.in-NotThatDay.is)) c.refuse-in-NotThatDay.ensures

pub returns-in-At : goal.returns-in-At
unfolding placed
returns-in-At c =
    let a = c.args in
    let e = chosen_at a.bundle.now (wanted_for CO 0 a.q a.leg) _ (ap (λ (r : LegRecords). r.conditions) (sym c.choose-records.ensures) ∙ c.in-At.is) in
    c.price_by.ensures ∙ by_places a.bundle.now a.q a.leg a.k e.1 (c.body_at-co.ensures ∙ e.2) (ap (λ (r : LegRecords). r.cards) c.choose-records.ensures)
