-- `bundle::links::served_near` meets its contract. The loop's invariant: the loop stands at some record, or where the records end.
-- Assumes nothing.
use mathlib.Core.Path.{sym, ◌∙◌}
use Rattle.bundle.proofs.HintedPlaces.{place_here, found_here, here_behind}
use Rattle.bundle.proofs.links.served_near.Goals as goal

pub loop-init : goal.loop-init
loop-init c = place_here _ _ c.requires

pub returns-then-serves_at : goal.returns-then-serves_at
returns-then-serves_at c =
    let i = c.loop.invariant in
    found_here _ _ _ _ i.0 i.1 (sym c.serves_at.ensures ∙ c.if-serves_at.true)

pub loop-preserved : goal.loop-preserved
loop-preserved c = rw c.place_behind-at.ensures (here_behind _ _ c.loop.invariant.0 c.loop.invariant.1)
