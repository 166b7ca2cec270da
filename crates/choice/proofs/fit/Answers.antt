-- `choice::fit` meets its contract.
-- Assumes nothing.
use mathlib.Core.Path.{sym, ◌∙◌}
use mathlib.Core.Bool.{true, false}
use Rattle.choice.proofs.WalkLaws.{by_other, by_valid}
use Rattle.choice.proofs.fit.Goals as goal

pub returns-in-Other : goal.returns-in-Other
returns-in-Other c = by_other _ _ c.whose-whose.ensures c.in-Other.is

pub returns-then-holds_day : goal.returns-then-holds_day
returns-then-holds_day c = by_valid _ _ c.whose-whose.ensures c.in_default.not-Other {b = true} (sym c.if-holds_day.true ∙ c.holds_day.ensures)

pub returns : goal.returns
returns c = by_valid _ _ c.whose-whose.ensures c.in_default.not-Other {b = false} (sym c.if-holds_day.false ∙ c.holds_day.ensures)
