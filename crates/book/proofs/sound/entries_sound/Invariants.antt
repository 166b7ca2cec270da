-- `book::sound::entries_sound` meets its contract. The loop's invariant: the entries passed are sound.
-- Assumes nothing.
use Rattle.std.proofs.Common.{◌≡◌, ℕ, ◌<◌, true, [], get_or}
use Rattle.book.specs.Words.{entry_of}
use Rattle.book.specs.Sound.{entry_sound}
use Rattle.book.proofs.sound.entries_sound.Given as goal

abbrev pub invariant-loop-words : goal.invariant-loop-words
invariant-loop-words l = (k : ℕ) → k < l.words-index → entry_sound (entry_of (get_or l.entries k [])) ≡ true
