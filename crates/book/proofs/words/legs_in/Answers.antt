-- `book::words::legs_in` meets its contract.
-- Assumes nothing.
use Rattle.std.proofs.Common.{◌≡◌, ◌∙◌, ◌<◌, get_or, sym, arith, rules}
use lib.Seq.{ext_get_or}
use Rattle.common.proofs.Lists.{upto_length, upto_at}
use Rattle.fares.specs.Question.{no_leg}
use Rattle.book.specs.Words.{leg_of}
use Rattle.book.proofs.words.legs_in.Goals as goal

pub returns : goal.returns
returns c =
    let w = c.args.words.now in
    let made = c.from_fn.ensures.items in
    let n = upto_length (leg_of w) 8 in
    ext_get_or no_leg _ _ (made.long ∙ sym n)
    (λ k h. let l : k < 8 = omega (arith, made.long) in
    let m = made.at k no_leg l in
    let e : get_or c.from_fn.result k no_leg ≡ leg_of w k = search rules in
    e ∙ sym (upto_at (leg_of w) 8 k no_leg l))
