-- `book::words::cards_in` meets its contract.
-- Assumes nothing.
use mathlib.Core.Path.{refl}
use Rattle.common.specs.Lists.{up_to}
use Rattle.book.specs.Words.{question_of}
use Rattle.book.proofs.words.cards_in.Goals as goal

pub returns : goal.returns
unfolding question_of up_to
returns c = refl
