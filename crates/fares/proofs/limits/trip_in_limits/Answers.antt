-- `fares::limits::trip_in_limits` meets its contract: each test that is passed leaves those after it.
-- Assumes nothing.
use mathlib.Core.Path.{◌≡◌}
use mathlib.Core.Bool.{true}
use Rattle.common.proofs.Tests.{fails, holds}
use Rattle.layout.specs.Dates.{is_day}
use Rattle.fares.specs.Question.{between}
use Rattle.fares.specs.Helpers.{trip_in_limits}
use Rattle.fares.proofs.limits.trip_in_limits.Goals as goal

pub returns-then-not-is_between : goal.returns-then-not-is_between
unfolding trip_in_limits
returns-then-not-is_between c = rw (fails c.is_between.result c.if-not-is_between.true-raw c.is_between.ensures)

pub returns-then-not-is_day : goal.returns-then-not-is_day
unfolding trip_in_limits
returns-then-not-is_day c =
    let offer-in : between 1 99999 c.args.offer ≡ true = holds c.is_between.result c.if-not-is_between.false-raw c.is_between.ensures in
    rw (offer-in, fails c.is_day.result c.if-not-is_day.true-raw c.is_day.ensures)

pub returns-then-not-is_between-2 : goal.returns-then-not-is_between-2
unfolding trip_in_limits
returns-then-not-is_between-2 c =
    let offer-in : between 1 99999 c.args.offer ≡ true = holds c.is_between.result c.if-not-is_between.false-raw c.is_between.ensures in
    let day-in : is_day c.args.day ≡ true = holds c.is_day.result c.if-not-is_day.false-raw c.is_day.ensures in
    rw (offer-in, day-in, fails c.is_between-2.result c.if-not-is_between-2.true-raw c.is_between-2.ensures)

pub returns : goal.returns
unfolding trip_in_limits
returns c =
    let offer-in : between 1 99999 c.args.offer ≡ true = holds c.is_between.result c.if-not-is_between.false-raw c.is_between.ensures in
    let day-in : is_day c.args.day ≡ true = holds c.is_day.result c.if-not-is_day.false-raw c.is_day.ensures in
    let persons-in : between 1 99 c.args.persons ≡ true = holds c.is_between-2.result c.if-not-is_between-2.false-raw c.is_between-2.ensures in
    rw (offer-in, day-in, persons-in, c.is_between-3.ensures)
