-- `book::words::question_in` meets its contract.
-- Assumes nothing.
use mathlib.Core.Path.{ap₂}
use Rattle.book.specs.Words.{question_of}
use Rattle.book.proofs.words.question_in.Goals as goal

pub returns : goal.returns
unfolding question_of
returns c =
    let q = question_of c.args.words.now in
    ap₂ (λ cards legs. record { offer = q.offer; day = q.day; persons = q.persons; cards = cards; count = q.count; legs = legs }) c.cards_in.ensures c.legs_in.ensures
