-- `book::changes::append` meets its contract: the number, the question, the parts and three zeros, put one behind another, are the words of the entry.
-- Assumes nothing.
use Prim.Native.Nat.{◌+◌}
use mathlib.Core.Path.{◌≡◌, ap}
use native.Mathlib.Omega.{arith}
use lib.ListN.{length, set}
use lib.Seq.{paste}
use Rattle.book.specs.Words.{width, start_of, count_of, booking, words_of}
use Rattle.book.specs.Changes.{added}
use Rattle.book.proofs.EntryWords.{entry_put}
use borrow.Author.Rules.{rules}
use Rattle.book.proofs.changes.append.Goals as goal

pub returns : goal.returns
unfolding added
returns c =
    let eight : length c.args.parts ≡ 8 = search rules in
    let made : let a = c.args in let d = c.put-4.new.book in (d ≡ paste a.book.now (start_of (count_of a.book.now)) (words_of (booking a.till a.sequence a.q a.parts)) width) × (length d ≡ length a.book.now) = let a = c.args in
    entry_put a.book.now (start_of (count_of a.book.now)) a.till a.sequence a.q a.parts (eight) (omega (arith, c.requires))
    c.question_words-asked.ensures c.put.ensures c.put-2.ensures c.put-3.ensures c.put-4.ensures in
    ap (λ ws. set ws 0 (count_of c.args.book.now + 1)) made.0
