-- `bundle::links::is_served` meets its contract.
-- Assumes nothing.
use mathlib.Core.Path.{refl, sym, ◌∙◌}
use Rattle.bundle.proofs.HintedPlaces.{served_there, searched}
use Rattle.bundle.proofs.links.is_served.Goals as goal

-- no room for hints
pub returns-then-hints-eq0 : goal.returns-then-hints-eq0
returns-then-hints-eq0 c =
    (c.is_some.ensures ∙ rw (← c.link_at-link.ensures) (searched c.args.hints.now.bundle.now c.link_at-link.result _ c.first_served.result c.first_served.ensures), refl)

-- a hint where a record serves
pub returns-then-serves_at : goal.returns-then-serves_at
returns-then-serves_at c = (
  sym (rw (← c.link_at-link.ensures) (served_there c.args.hints.now.bundle.now c.link_at-link.result _ c.place_at-hint.result c.place_at-hint.ensures.1 (sym c.serves_at.ensures ∙ c.if-serves_at.true))),
  c.put.ensures,
)

pub returns-in_default : goal.returns-in_default
returns-in_default c = (sym (rw (← c.link_at-link.ensures) (c.in_default.ensures)), refl)

-- a record found, whose place is a hint from now on
pub put-requires-2 : goal.put-requires-2
put-requires-2 c = c.in-Some.ensures.0

pub put-requires-3 : goal.put-requires-3
put-requires-3 c = rw c.put-2.ensures c.in-Some.ensures.0

pub returns : goal.returns
returns c = (sym (rw (← c.link_at-link.ensures) c.in-Some.ensures.1), c.put-3.ensures ∙ c.put-2.ensures)
