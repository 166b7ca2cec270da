-- `book::numbers::numbers_differ` meets its contract. The loop's invariant: no entry passed repeats an earlier number or ranks above `top`.
-- Assumes nothing.
use Rattle.std.proofs.Common.{◌≡◌, map}
use Rattle.common.specs.Least.{least}
use Rattle.book.specs.Words.{entry_of}
use Rattle.book.specs.Sound.{repeats}
use Rattle.book.specs.Helpers.{RanksUpTo}
use Rattle.book.proofs.numbers.numbers_differ.Given as goal

abbrev pub invariant-loop-i : goal.invariant-loop-i
invariant-loop-i l = let es = map entry_of l.entries in (least (repeats es) l.i ≡ l.i) × RanksUpTo es l.i l.top
