-- No second answer, said of a function's contract itself: what Rattle reads off its `ensures` is one claim of the arguments, of the answer, and of what was
-- lent as it is left; and two that meet the claim, at the same arguments, are the same.
-- Assumes nothing.
use Rattle.std.specs.Prelude.{◌≡◌, ℕ, List}
use contract.Lifetimes.{Lfts}
use denote.Triple.Clauses.{AtExit}
use borrow.Fn.Kinds.{ParamKind, ResultKind, Dens, res_t, ended_of, Out}

module _ (n : ℕ) (parameters : List (ParamKind n)) (result : ResultKind n) where
  -- what was lent, as it is left
  abbrev pub Left : Lfts n → Type 0
  Left κs = AtExit (ended_of n parameters result) κs

  -- two answers that meet the contract are equal
  abbrev pub OneAnswer : Out n parameters result → Type 0
  OneAnswer Meets =
      (κs : Lfts n) (a : Dens κs parameters) (x y : (res_t result κs).Denot) (u v : Left κs) → Meets κs a x u → Meets κs a y v → x ≡ y

  -- and so are two books that are left, whose words are read off what was lent
  abbrev pub OneBook : ((κs : Lfts n) → Left κs → List ℕ) → Out n parameters result → Type 0
  OneBook words Meets =
      (κs : Lfts n) (a : Dens κs parameters) (x y : (res_t result κs).Denot) (u v : Left κs) → Meets κs a x u → Meets κs a y v → words κs u ≡ words κs v
