-- `book::sums::entry_owed` meets its contract. The loop's invariant: the sum is that of the parts before j that count, each of them a word or nothing.
-- Assumes nothing.
use Prim.Native.Nat.{◌+◌}
use mathlib.Core.Path.{◌≡◌, refl, sym, ◌∙◌, ap}
use native.Mathlib.Omega.{arith}
use borrow.Author.Tests.{eq-eqb}
use Rattle.common.specs.Lists.{sum, up_to}
use Rattle.common.proofs.Sums.{sum_up}
use Rattle.book.specs.Words.{entry_of, parts_at}
use Rattle.book.proofs.BalanceSums.{counted_part, leg_counts, leg_counts_not, counted_is}
use Rattle.book.proofs.sums.entry_owed.Goals as goal
use Rattle.book.proofs.sums.entry_owed.Goals.{then-counts, else-counts}

pub loop-j-init : goal.loop-j-init
unfolding sum up_to
loop-j-init c = (omega arith, refl)

pub loop-j-preserved : goal.loop-j-preserved
loop-j-preserved c =
    let a = c.args in
    let s = sum_up (counted_part a.railway (entry_of a.words.now).asked (entry_of a.words.now).parts) c.loop-j.j in
    let n = c.fits-words (parts_at + c.loop-j.j) in
    let t = c.loop-j-test.true in
    let e = c.counts.ensures in
    elim c.if-counts.branch [
      | then-counts w ↦ (omega (arith, n), omega (arith, s, leg_counts a.words.now a.railway c.loop-j.j t e w.if-counts.true))
      | else-counts w ↦ (omega arith, omega (arith, s, leg_counts_not a.words.now a.railway c.loop-j.j t e w.if-counts.false))
    ]

pub returns : goal.returns
returns c =
    let a = c.args in
    let w = a.words.now in
    let e : c.loop-j.j ≡ 8 = omega arith in
    c.loop-j.invariant.1
    ∙ (ap (λ n. sum (up_to (counted_part a.railway (entry_of w).asked (entry_of w).parts) n)) e
    ∙ (counted_is a.railway (entry_of w).asked (entry_of w).parts ∙ sym (rw (eq-eqb _ _ c.if-words-ne0.false))))
