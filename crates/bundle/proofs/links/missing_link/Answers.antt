-- `bundle::links::missing_link` meets its contract. The loop's invariant: no link before k is lacked, and the hints are places.
-- Assumes nothing.
use mathlib.Core.Path.{◌≡◌, refl, sym, ◌∙◌}
use native.Mathlib.Omega.{arith}
use Rattle.common.proofs.Least.{start, more, hit}
use Rattle.bundle.specs.Links.{links, missing_link}
use Rattle.bundle.proofs.links.missing_link.Goals as goal

pub loop-k-init : goal.loop-k-init
loop-k-init c = (start _, refl)

pub returns-then-lacks_link : goal.returns-then-lacks_link
unfolding missing_link
returns-then-lacks_link c =
    let i = c.loop-k.invariant in
    let e = hit _ _ links i.0 (sym (rw i.1 at c.lacks_link.ensures.0) ∙ c.if-lacks_link.true) c.loop-k-test.true in
    ((rw e c.loop-k-test.true, rw e (sym c.link_at.ensures)), c.lacks_link.ensures.1 ∙ i.1)

pub loop-k-preserved : goal.loop-k-preserved
loop-k-preserved c =
    let i = c.loop-k.invariant in
    (more _ _ i.0 (sym (rw i.1 at c.lacks_link.ensures.0) ∙ c.if-lacks_link.false), c.lacks_link.ensures.1 ∙ i.1)

pub returns : goal.returns
unfolding missing_link
returns c =
    let e : c.loop-k.k ≡ links = omega arith in
    (rw e at c.loop-k.invariant.0, c.loop-k.invariant.1)
