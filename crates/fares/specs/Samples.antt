-- Questions on 15 June 2024, for offer 42: what figures are asked of.
-- Assumes nothing.
use Rattle.std.specs.Prelude.{ℕ, List}
use Rattle.fares.specs.declared.Leg.{Leg}
use Rattle.fares.specs.declared.Question.{Question}

-- persons, cards, how many legs, and these
abbrev pub leg : ℕ → ℕ → Leg
leg railway fare = record { railway = railway; fare = fare }

abbrev pub ticket : ℕ → List ℕ → ℕ → List Leg → Question
ticket persons cards count legs = record { offer = 42; day = 20240615; persons = persons; cards = cards; count = count; legs = legs }
