-- `book::words::says` meets its contract.
-- Assumes nothing.
use Rattle.std.proofs.Common.{sym, ◌∙◌}
use Rattle.book.proofs.AlikeWords.{all_alike}
use Rattle.book.proofs.QuestionWords.{words_length}
use Rattle.book.proofs.words.says.Goals as goal

pub returns : goal.returns
returns c =
    rw (c.alike.ensures, c.question_words.ensures, ← c.told-words) (all_alike c.args.words.now _ (c.told-words ∙ sym (words_length c.args.q)))
