-- The status of an entry, and the number that is its word (document 01, 'The sales book': the cancelled mark).
-- Assumes nothing.
use Rattle.std.specs.Prelude.{ℕ, cond, eqb}
use Rattle.book.specs.declared.status.Status.{Status}
use Rattle.book.specs.declared.status.Status.TheVariants.{Live, Cancelled}

-- 0 live, 1 cancelled
abbrev pub number_of_status : Status → ℕ
number_of_status Live = 0
number_of_status Cancelled = 1

abbrev pub status_of : ℕ → Status
status_of word = cond (eqb word 0) Live Cancelled
