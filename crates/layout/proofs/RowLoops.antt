-- One row of a walk over the rows of the code's table: the row is kept, or it is the first that is broken; or it is the one that is looked for.
-- Assumes nothing.
use Rattle.std.specs.Prelude.{Some, None}
use Prim.Native.Nat.{ℕ, ◌+◌, ◌≤◌, ◌<◌}
use mathlib.Core.Path.{◌≡◌}
use mathlib.Core.Bool.{Bool, cond}
use mathlib.Core.List.{List}
use native.Mathlib.Numerals.{add-one}
use lib.ListN.{length, get_or, drop, drop_of_length-le}
use lib.Seq.{drop-cons}
use Rattle.layout.specs.Layout.{no_row}
use Rattle.layout.specs.Fields.{row_with}
use Rattle.layout.specs.Rules.{first_broken}
use Rattle.layout.specs.declared.rows.Row.{Row}

module _ (rows : List Row) (k : ℕ) (d : Row) where
  pub broken_step : (kept : Row → Bool) (b : Bool) → k < length rows → b ≡ kept (get_or rows k d)
      → first_broken kept (drop k rows) ≡ cond b (first_broken kept (drop (k + 1) rows)) (Some (get_or rows k d).field)
  unfolding first_broken
  broken_step kept b h f = rw (f, add-one, drop-cons rows k d h)

  pub with_step : (p : Row → Bool) (b : Bool) → k < length rows → p (get_or rows k d) ≡ b
      → row_with p (drop k rows) ≡ cond b (get_or rows k d) (row_with p (drop (k + 1) rows))
  unfolding row_with
  with_step p b h f = rw (← f, add-one, drop-cons rows k d h)

module _ (rows : List Row) (k : ℕ) where
  pub broken_end : (kept : Row → Bool) → length rows ≤ k → first_broken kept (drop k rows) ≡ None
  unfolding first_broken
  broken_end kept h = rw (drop_of_length-le rows h)

  pub with_end : (p : Row → Bool) → length rows ≤ k → row_with p (drop k rows) ≡ no_row
  unfolding row_with
  with_end p h = rw (drop_of_length-le rows h)
