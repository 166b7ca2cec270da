-- `book::words::question_words` meets its contract. The loop's invariant: the words before the legs stand, and the legs before j.
-- Assumes nothing.
use mathlib.Core.Path.{◌≡◌}
use Rattle.book.proofs.QuestionWords.{written}
use Rattle.book.proofs.words.question_words.Given as goal

abbrev pub invariant-loop-j : goal.invariant-loop-j
invariant-loop-j l = l.words ≡ written l.q l.j
