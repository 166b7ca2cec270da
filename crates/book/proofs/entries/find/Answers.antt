-- `book::entries::find` meets its contract.
-- Assumes nothing.
use Rattle.std.proofs.Common.{◌∙◌, map, ap}
use Rattle.book.specs.Words.{entry_of, entries, count_of}
use Rattle.book.specs.Sound.{held}
use Rattle.book.proofs.EntryWords.{first_entries}
use Rattle.book.proofs.NumbersDiffer.{first_held}
use Rattle.book.proofs.entries.find.Goals as goal

pub returns : goal.returns
unfolding entries
returns c =
    let a = c.args in
    c.find_in.ensures
    ∙ first_held a.till a.sequence c.first.result.now
    ∙ ap (held a.till a.sequence) (ap (map entry_of) c.first.ensures ∙ rw c.count.ensures (first_entries a.book.now (count_of a.book.now)))
