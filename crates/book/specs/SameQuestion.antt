-- When two questions are the same (document 01, 'The sales book': "the same question answers 'already booked' .., another question gives 23"): in every
-- value, in every card, of which the order counts, and in every leg that is used. Slots beyond the leg count do not matter.
-- Assumes nothing.
use Rattle.std.specs.Prelude.{ℕ, ◌<◌, ◌≡◌, get_or}
use Rattle.fares.specs.Question.{no_leg}
use Rattle.fares.specs.Meaning.{card_at}
use Rattle.fares.specs.declared.Question.{Question}

pub record SameQuestion (q q' : Question) : Type 0 where
  pub offer : q.offer ≡ q'.offer
  pub day : q.day ≡ q'.day
  pub persons : q.persons ≡ q'.persons
  pub cards : (k : ℕ) → k < 4 → card_at q k ≡ card_at q' k
  pub count : q.count ≡ q'.count
  pub railways : (k : ℕ) → k < q.count → (get_or q.legs k no_leg).railway ≡ (get_or q'.legs k no_leg).railway
  pub fares : (k : ℕ) → k < q.count → (get_or q.legs k no_leg).fare ≡ (get_or q'.legs k no_leg).fare
