-- `bundle::apart::free_slot` meets its contract. The loop's invariant: the slot is that of try k of the number, and those before it are passed.
-- Assumes nothing.
use mathlib.Core.Path.{sym, ◌∙◌}
use native.Mathlib.Omega.{arith}
use Rattle.seen.specs.Seen.{slot_of}
use Rattle.bundle.specs.Records.{rec}
use Rattle.bundle.proofs.KeptPlaces.{way_on}
use Rattle.bundle.proofs.apart.free_slot.Goals as goal

pub loop-init : goal.loop-init
unfolding slot_of
loop-init c = (c.home-slot.ensures, λ j l. absurd (omega arith))

pub returns-then-head-eq0 : goal.returns-then-head-eq0
returns-then-head-eq0 c =
    let l = c.loop in
    (l.counter, l.invariant.0, sym c.head.ensures ∙ c.if-head-eq0.true, l.invariant.1)

pub loop-preserved : goal.loop-preserved
loop-preserved c =
    let l = c.loop in
    let a = c.args in
    way_on a.bundle.now a.slots.now.heads.now a.slots.now.lows.now a.number (rec a.table a.r.now) l.slot l.counter l.invariant.0 l.invariant.1 c.head.ensures c.if-head-eq0.false c.slot_clashes.ensures c.if-slot_clashes.false c.slot_behind-slot.ensures
