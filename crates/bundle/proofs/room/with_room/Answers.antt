-- `bundle::room::with_room` meets its contract: no hint is noted at first.
-- Assumes nothing.
use Rattle.bundle.proofs.HintedPlaces.{no_hints_yet}
use Rattle.bundle.proofs.room.with_room.Goals as goal
use Rattle.bundle.proofs.room.with_room.Goals.{then-this-ne0, else-this-ne0}

pub invariant_of-hints : goal.invariant_of-hints
invariant_of-hints g c = record { noted = no_hints_yet c.args.bundle.now g.row.HINTS }

pub invariant_of-hints-2 : goal.invariant_of-hints-2
invariant_of-hints-2 g c =
    elim c.if-this-ne0.branch [
      | then-this-ne0 w ↦ rw w.hints-is (record { noted = w.note_all.new.self.noted })
      | else-this-ne0 w ↦ rw w.hints-is (record { noted = no_hints_yet c.args.bundle.now g.row.HINTS })
    ]
