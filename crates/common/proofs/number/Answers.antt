-- `common::number` meets its contract. The loop's invariant: the digits passed say v, which has no more digits than were passed.
-- Assumes nothing.
use Rattle.std.proofs.Common.{sym, ◌∙◌, arith, le-ltb, lt-ltb}
use Rattle.common.specs.Digits.{number_of}
use Rattle.common.proofs.Digits.{digits_more, digits_stop, digits_end, grows, small}
use Rattle.common.proofs.number.Goals as goal

pub returns-then-s-gt9 : goal.returns-then-s-gt9
unfolding number_of
returns-then-s-gt9 c = rw (lt-ltb _ _ c.if-s-gt9.true)

pub loop-b-init : goal.loop-b-init
unfolding number_of
loop-b-init c = (omega arith, omega arith, rw (le-ltb _ _ c.if-s-gt9.false))

pub overflow_mul-v : goal.overflow_mul-v
overflow_mul-v c = omega (arith, small _ _ 0 c.loop-b.invariant.1 (omega arith) (omega arith))

pub returns-in_err-v : goal.returns-in_err-v
returns-in_err-v c =
    c.from_residual.ensures ∙ sym (c.loop-b.invariant.2 ∙ digits_stop c.loop-b.v _ _ c.loop-b-test.true (sym c.digit.ensures ∙ c.in_err-v.was))

pub loop-b-preserved : goal.loop-b-preserved
loop-b-preserved c =
    let l = c.loop-b in
    let d = digits_more l.v _ _ c.loop-b-test.true (sym c.digit.ensures ∙ c.in_ok-v.was) in
    (l.invariant.0, grows _ _ _ l.invariant.1 d.0, l.invariant.2 ∙ d.1)

pub returns : goal.returns
unfolding number_of
returns c = sym (c.loop-b.invariant.2 ∙ digits_end _ _ _ c.loop-b-test.false)
