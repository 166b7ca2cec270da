-- `common::number` meets its contract. The loop's invariant: the digits passed say v, which has no more digits than were passed.
-- Assumes nothing.
use Rattle.std.proofs.Common.{◌≡◌, ◌^◌, ◌<◌, ◌≤◌, length, drop}
use Rattle.common.specs.Digits.{number_of, digits_after}
use Rattle.common.proofs.number.Given as goal

abbrev pub invariant-loop-b : goal.invariant-loop-b
invariant-loop-b l = (length l.s ≤ 9) × (l.v < 10 ^ l.b-index) × (number_of l.s ≡ digits_after l.v (drop l.b-index l.s))
