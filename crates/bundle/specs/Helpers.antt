-- What the code's helpers answer: places in the bundle in place of numbers of records. Nothing here has to be believed: no promise and no answer of a call
-- is stated with it.
-- Assumes nothing.
use Rattle.std.specs.Prelude.{Result, ℕ, zero, suc, ◌+◌, Bool, List, [], ◌∷◌, length, take, drop}
use Rattle.common.specs.Lists.{same}
use Rattle.common.specs.declared.Refusal.{Refusal}
use Rattle.common.specs.Checks.{first_fault}
use Rattle.bundle.specs.Records.{step_of, if_whole, between, records_of}
use Rattle.bundle.specs.Verdict.{first_pass, second_pass, judged}
use Rattle.bundle.specs.declared.walk.Step.{Step}
use Rattle.bundle.specs.declared.walk.Step.TheVariants.{Unknown, Short, Whole}

-- the mark of two letters stands there
unfoldable pub is_mark : ℕ → ℕ → List ℕ → Bool
is_mark a b s = same (take 2 s) (a ∷ b ∷ [])

-- what stands at a place of the bundle, its start and the next record's counted from the bundle's start
abbrev pub moved : ℕ → Step → Step
moved p Unknown = Unknown
moved p Short = Short
moved p (Whole t start next) = Whole t (p + start) (p + next)

unfoldable pub step_at : List ℕ → ℕ → Step
step_at s p = moved p (step_of (drop p s))

-- where the mark of each record stands, in bytes from the start; the first of them is counted p
unfoldable pub places_from : ℕ → ℕ → List ℕ → List ℕ
places_from zero p s = []
places_from (suc most) p s = if_whole (step_of s) [] (λ t start next. p ∷ places_from most (p + next) (drop next s))

unfoldable pub places_of : List ℕ → List ℕ
places_of s = places_from (length s) 0 s

-- the bytes without the mark of the record whose mark stands at a place, none where no whole record starts there
unfoldable pub body_at : List ℕ → ℕ → List ℕ
body_at s p = if_whole (step_at s p) [] (λ t start next. between start next s)

-- the place behind it, the bundle's start where no whole record starts there
unfoldable pub place_behind : List ℕ → ℕ → ℕ
place_behind s p = if_whole (step_at s p) 0 (λ t start next. next)

-- what each pass tells by itself
abbrev pub first_tells : List ℕ → Result ℕ Refusal
first_tells s = judged (first_fault (first_pass s)) (length (records_of s))

abbrev pub second_tells : List ℕ → Result ℕ Refusal
second_tells s = judged (first_fault (second_pass (records_of s))) (length (records_of s))
