-- `fares::cards::after_alone` meets its contract.
-- Assumes nothing.
use native.Mathlib.Omega.{arith}
use Rattle.fares.proofs.StepLaws.{card_small}
use Rattle.fares.proofs.cards.after_alone.Goals as goal

pub reduce-requires : goal.reduce-requires
reduce-requires c = (omega (arith, c.requires), rw c.card_grant.ensures (card_small _))
