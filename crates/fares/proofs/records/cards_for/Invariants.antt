-- `fares::records::cards_for` meets its contract. The loop's invariant: the places found so far, and the slots that are left.
-- Assumes nothing.
use Rattle.fares.proofs.LegLaws.{Looked}
use Rattle.fares.proofs.records.cards_for.Given as goal

abbrev pub invariant-loop-card : goal.invariant-loop-card
invariant-loop-card l = Looked l.bundle l.q l.leg l.card-index l.places.items
