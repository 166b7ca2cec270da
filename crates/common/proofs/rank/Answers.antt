-- `common::rank` meets its contract. The loop's invariant: the bytes passed make v, which is no larger than so many bytes can make it.
-- Assumes nothing.
use Rattle.std.proofs.Common.{◌+◌, get_or, sym, ◌∙◌, arith, le-ltb, lt-ltb}
use Rattle.common.specs.Ranks.{rank_of}
use Rattle.common.proofs.Ranks.{rank_step, rank_end, rank_grows, rank_small}
use Rattle.common.proofs.rank.Goals as goal

pub returns-then-s-gt12 : goal.returns-then-s-gt12
unfolding rank_of
returns-then-s-gt12 c = (rw (lt-ltb _ _ c.if-s-gt12.true), omega arith)

pub loop-b-init : goal.loop-b-init
unfolding rank_of
loop-b-init c = (omega arith, omega arith, rw (le-ltb _ _ c.if-s-gt12.false))

pub overflow_mul-v : goal.overflow_mul-v
overflow_mul-v c =
    let p = rank_small _ c.loop-b.b-index c.loop-b.invariant.1 (omega arith) in omega arith

pub overflow_add-v : goal.overflow_add-v
overflow_add-v c =
    let l = c.loop-b in
    let grown = rank_grows l.v l.b-index (get_or c.args.s.now l.b-index 0) l.invariant.1 (omega (arith, c.type_inv.s l.b-index)) in
    let fits = rank_small _ (l.b-index + 1) grown (omega arith) in
    omega (arith, fits)

pub loop-b-preserved : goal.loop-b-preserved
loop-b-preserved c =
    let l = c.loop-b in
    (l.invariant.0, rank_grows l.v l.b-index _ l.invariant.1 (omega (arith, c.type_inv.s l.b-index)), l.invariant.2 ∙ rank_step _ _ _ c.loop-b-test.true)

pub returns : goal.returns
returns c = (sym (c.loop-b.invariant.2 ∙ rank_end _ _ _ c.loop-b-test.false), rank_small _ c.loop-b.b-index c.loop-b.invariant.1 (omega arith))
