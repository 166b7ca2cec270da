-- `common::same_bytes` meets its contract. The invariant of both loops: the bytes passed are the same.
-- Assumes nothing.
use Rattle.std.proofs.Common.{length, sym, ap, ◌∙◌, arith, ext_get_or}
use Rattle.common.specs.Helpers.{four_at}
use Rattle.common.proofs.Lists.{is_same, not_same}
use Rattle.common.proofs.same_bytes.Goals as goal

pub returns-then-a-b : goal.returns-then-a-b
returns-then-a-b c = sym (not_same _ _ (λ e. c.if-a-b.true (ap length e)))

pub returns-then-four_at : goal.returns-then-four_at
returns-then-four_at c =
    let i = c.loop-i.i in
    sym (not_same _ _ (λ e. c.if-four_at.true (c.four_at.ensures ∙ (ap (four_at i) e ∙ sym c.four_at-in-loop-i.ensures))))

pub returns-then-a-k : goal.returns-then-a-k
returns-then-a-k c = sym (not_same _ _ (λ e. c.if-a-k.true (rw e)))

pub returns : goal.returns
returns c = sym (is_same _ _ (ext_get_or 0 _ _ c.loop-k.invariant.1 (λ k h. c.loop-k.invariant.2 k (omega arith))))
