-- What C reads off a reply's number: 0 exactly where the call is answered.
-- Assumes nothing.
use Rattle.std.specs.Prelude.{ℕ, ◌≡◌, List}
use Rattle.offers.specs.Answers.{Told, answers}

pub record ZeroIfAnswered (number : ℕ) (t : Told) : Type 0 where
  pub zero_is_answered : number ≡ 0 → (vs : List ℕ) × (t ≡ answers vs)
  pub answered_is_zero : (vs : List ℕ) → t ≡ answers vs → number ≡ 0
