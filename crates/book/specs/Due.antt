-- What is due from a sale, said of its question: each leg's part, to the leg's railway (document 01, 'The sales book': "Balance of one railway .., and
-- total of all .., over entries not cancelled").
-- Assumes nothing.
use Rattle.std.specs.Prelude.{ℕ, Bool, true, cond, List, map, eqb, get_or}
use Rattle.common.specs.Lists.{sum, up_to}
use Rattle.fares.specs.Question.{no_leg}
use Rattle.fares.specs.declared.Leg.{Leg}
use Rattle.fares.specs.declared.Question.{Question}
use Rattle.book.specs.Words.{Entry, question_of}

-- which legs count: a railway's own, or every leg
abbrev pub carried_by : ℕ → Leg → Bool
carried_by railway leg = eqb leg.railway railway

abbrev pub any_leg : Leg → Bool
any_leg leg = true

-- over the legs of the question, the part of each that counts
unfoldable pub due_from : (Leg → Bool) → Question → List ℕ → ℕ
due_from counts q parts = sum (up_to (λ k. cond (counts (get_or q.legs k no_leg)) (get_or parts k 0) 0) q.count)

-- over some entries, what is due from each that is not cancelled
abbrev pub due_in : (Leg → Bool) → List Entry → ℕ
due_in counts es = sum (map (λ e. cond (eqb e.status 0) (due_from counts (question_of e.asked) e.parts) 0) es)
