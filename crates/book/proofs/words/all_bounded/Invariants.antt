-- `book::words::all_bounded` meets its contract. The loop's invariant: whether the words passed are within the bound, and what is left, decide.
-- Assumes nothing.
use Rattle.std.proofs.Common.{◌≡◌, ◌&&◌, drop}
use Rattle.book.specs.Sound.{is_bounded}
use Rattle.book.proofs.words.all_bounded.Given as goal

abbrev pub invariant-loop-word : goal.invariant-loop-word
invariant-loop-word l = is_bounded l.bound l.words ≡ (l.good && is_bounded l.bound (drop l.word-index l.words))
