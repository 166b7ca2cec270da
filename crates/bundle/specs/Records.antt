-- The records of a bundle (document 01, 'The bundle'): each behind its mark, one after the other with nothing between them.
-- Assumes nothing.
use Rattle.std.specs.Prelude.{ℕ, zero, suc, ◌+◌, ◌-◌, cond, List, [], ◌∷◌, Option, Some, None, ltb, length, take, drop, find}
use Rattle.common.specs.Lists.{same}
use Rattle.layout.specs.Layout.{CO, each_table, table_at, length_of}
use Rattle.layout.specs.declared.Table.{Table}
use Rattle.bundle.specs.declared.walk.Step.{Step}
use Rattle.bundle.specs.declared.walk.Step.TheVariants.{Unknown, Short, Whole}

-- a record: its table, and its bytes without the mark
pub record Rec : Type 0 where
  pub table : Table
  pub body : List ℕ

abbrev pub rec : Table → List ℕ → Rec
rec t b = record { table = t; body = b }

-- what stands for a record where there is none
abbrev pub no_rec : Rec
no_rec = rec CO []

-- the first table whose mark stands at the start of the bytes, if one does
unfoldable pub table_of : List ℕ → Option Table
table_of s = find (λ t. same (take 2 s) (table_at t).mark) each_table

-- what stands at the start of the bytes: a known mark and, after its two bytes, the whole length of its record, or not
abbrev pub step_by : List ℕ → Option Table → Step
step_by s None = Unknown
step_by s (Some t) = cond (ltb (length s) (2 + length_of t)) Short (Whole t 2 (2 + length_of t))

unfoldable pub step_of : List ℕ → Step
step_of s = step_by s (table_of s)

abbrev pub if_whole : {A : Type 0} → Step → A → (Table → ℕ → ℕ → A) → A
if_whole Unknown a f = a
if_whole Short a f = a
if_whole (Whole t start next) a f = f t start next

-- the bytes from a start to an end
abbrev pub between : ℕ → ℕ → List ℕ → List ℕ
between start end s = take (end - start) (drop start s)

-- the whole records at the start of the bytes, and the bytes that are left after them; a record has at least a byte, which bounds their number
unfoldable pub records_from : ℕ → List ℕ → List Rec
records_from zero s = []
records_from (suc most) s = if_whole (step_of s) [] (λ t start next. rec t (between start next s) ∷ records_from most (drop next s))

unfoldable pub rest_from : ℕ → List ℕ → List ℕ
rest_from zero s = s
rest_from (suc most) s = if_whole (step_of s) s (λ t start next. rest_from most (drop next s))

unfoldable pub records_of : List ℕ → List Rec
records_of s = records_from (length s) s

unfoldable pub rest_of : List ℕ → List ℕ
rest_of s = rest_from (length s) s
