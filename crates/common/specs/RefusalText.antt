-- How a refusal is written: its number, place and detail as decimal numbers, with a blank between them.
-- Assumes nothing.
use Rattle.std.specs.Prelude.{ℕ, List, ◌∷◌, ◌++◌, decimal}
use Rattle.common.specs.Reasons.{number_of_reason}
use Rattle.common.specs.declared.Refusal.{Refusal}

abbrev pub byte_blank : ℕ
byte_blank = 32

abbrev pub refusal_text : Refusal → List ℕ
refusal_text why = decimal (number_of_reason why.reason) ++ (byte_blank ∷ (decimal why.place ++ (byte_blank ∷ decimal why.detail)))
