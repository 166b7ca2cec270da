-- `common::check_digit::is_right` meets its contract.
-- Assumes nothing.
use Rattle.std.proofs.Common.{◌/◌, ◌%◌, arith}
use Rattle.common.specs.CheckDigit.{sum_from, check_digit, is_right, last_digits}
use Rattle.common.proofs.RightDigits.{six_units, right_by_units}
use Rattle.common.proofs.check_digit.is_right.Goals as goal

pub returns-then-number-eq0 : goal.returns-then-number-eq0
unfolding sum_from check_digit is_right last_digits
returns-then-number-eq0 c = rw c.if-number-eq0.true

pub returns : goal.returns
unfolding last_digits
returns c =
    let n = c.args.number in
    let one = c.doubled in
    let two = c.doubled-2 in
    let three = c.doubled-3 in
    rw (six_units n one.result two.result three.result one.ensures.1 two.ensures.1 three.ensures.1)
    (right_by_units (n % 10) (last_digits 5 (n / 10)) (omega arith))
