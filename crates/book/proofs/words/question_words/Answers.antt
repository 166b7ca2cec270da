-- `book::words::question_words` meets its contract. The loop's invariant: the words before the legs stand, and the legs before j.
-- Assumes nothing.
use mathlib.Core.Path.{◌≡◌, ◌∙◌, ap}
use native.Mathlib.Omega.{arith}
use Rattle.common.specs.Lists.{up_to}
use Rattle.book.proofs.QuestionWords.{written, none_written, leg_written, all_written}
use Rattle.book.proofs.words.question_words.Goals as goal

pub loop-j-init : goal.loop-j-init
unfolding up_to
loop-j-init c = none_written c.args.q

pub loop-j-preserved : goal.loop-j-preserved
loop-j-preserved c = leg_written c.args.q c.loop-j.j c.loop-j-test.true c.leg_at-leg.ensures c.loop-j.invariant

pub returns : goal.returns
returns c =
    let e : c.loop-j.j ≡ 8 = omega arith in
    let q = c.args.q in
    c.loop-j.invariant ∙ (ap (written q) e ∙ all_written q)
