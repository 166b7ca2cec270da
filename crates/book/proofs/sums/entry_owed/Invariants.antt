-- `book::sums::entry_owed` meets its contract. The loop's invariant: the sum is that of the parts before j that count, each of them a word or nothing.
-- Assumes nothing.
use Rattle.std.proofs.Common.{◌≡◌, ◌*◌, ◌≤◌}
use Rattle.common.specs.Lists.{sum, up_to}
use Rattle.book.specs.Words.{entry_of}
use Rattle.book.proofs.SoundBook.{most}
use Rattle.book.proofs.BalanceSums.{counted_part}
use Rattle.book.proofs.sums.entry_owed.Given as goal

abbrev pub invariant-loop-j : goal.invariant-loop-j
invariant-loop-j l = (l.sum ≤ l.j * most) × (l.sum ≡ sum (up_to (counted_part l.railway (entry_of l.words).asked (entry_of l.words).parts) l.j))
