-- `fares::cards::step_of` meets its contract.
-- Assumes nothing.
use Prim.Native.Nat.{◌+◌, ◌*◌, ◌≤◌}
use native.Mathlib.Omega.{arith}
use Rattle.fares.proofs.StepLaws.{rating_small, code_small}
use Rattle.fares.proofs.cards.step_of.Goals as goal

pub overflow_mul-rank : goal.overflow_mul-rank
overflow_mul-rank c =
    let rating : c.card_rating.result ≤ 999 = rw c.card_rating.ensures (rating_small c.args.ar.now) in
    omega (arith, rating)

pub overflow_add-rank : goal.overflow_add-rank
overflow_add-rank c =
    let rating : c.card_rating.result ≤ 999 = rw c.card_rating.ensures (rating_small c.args.ar.now) in
    let code : c.card_code.result ≤ 999 = rw c.card_code.ensures (code_small c.args.ar.now) in
    omega (arith, rating, code)

pub returns : goal.returns
returns c = λ i. record { rank = c.card_rating.ensures i * 1000 + c.card_code.ensures i; grant = c.card_grant.ensures i }
