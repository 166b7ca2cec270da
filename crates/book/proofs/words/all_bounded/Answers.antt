-- `book::words::all_bounded` meets its contract. The loop's invariant: whether the words passed are within the bound, and what is left, decide.
-- Assumes nothing.
use Rattle.std.proofs.Common.{◌∙◌, refl, sym, leb}
use mathlib.Core.Bool.{and_assoc, and-true}
use Rattle.common.proofs.Lists.{every_step, every_end}
use Rattle.book.proofs.words.all_bounded.Goals as goal

pub loop-word-preserved : goal.loop-word-preserved
loop-word-preserved c =
    let a = c.args in
    let e = every_step (λ p. leb p a.bound) a.words.now c.loop-word.word-index 0 c.loop-word-test.true in
    c.loop-word.invariant ∙ rw (e, and_assoc) refl

pub returns : goal.returns
returns c =
    let a = c.args in
    sym (c.loop-word.invariant ∙ rw (every_end (λ p. leb p a.bound) a.words.now c.loop-word.word-index c.loop-word-test.false, and-true))
