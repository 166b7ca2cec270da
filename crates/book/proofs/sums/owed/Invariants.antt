-- `book::sums::owed` meets its contract. The loop's invariant: the sum is the balance of the entries passed, each of them small.
-- Assumes nothing.
use Rattle.book.specs.Helpers.{counted}
use Rattle.book.proofs.BalanceSums.{Summed}
use Rattle.book.proofs.sums.owed.Given as goal

abbrev pub invariant-loop-words : goal.invariant-loop-words
invariant-loop-words l = Summed (counted l.railway) l.book l.words-index l.sum
