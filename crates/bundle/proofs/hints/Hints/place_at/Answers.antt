-- `bundle::hints::Hints::place_at` meets its contract.
-- Assumes nothing.
use mathlib.Core.Path.{sym, ap}
use lib.ListN.{get_or-eq_default}
use Rattle.bundle.specs.Hints.{place_in}
use Rattle.bundle.proofs.HintedPlaces.{start_is_place}
use Rattle.bundle.proofs.hints.Hints.place_at.Goals as goal

pub returns-then-self-slot : goal.returns-then-self-slot
returns-then-self-slot c =
    let a = c.args in (sym (ap place_in (get_or-eq_default a.self.now.places.now 0 {n = a.slot} c.if-self-slot.true)), start_is_place _)
