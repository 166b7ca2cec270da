-- `book::entries::first` meets its contract.
-- Assumes nothing.
use Rattle.std.proofs.Common.{◌≡◌, ◌∙◌, ◌≤◌, ◌-◌, ◌/◌, ℕ, List, length, take, drop, length-drop, ap, arith}
use Rattle.std.specs.Simd.{first_chunks}
use Rattle.common.specs.Lists.{up_to}
use Rattle.common.proofs.Parts.{rest_taken}
use Rattle.book.specs.Words.{width, start_of, entry_words}
use Rattle.book.proofs.EntryWords.{first_blocks}
use Rattle.book.proofs.entries.first.Goals as goal

cut : (w : List ℕ) (n : ℕ) → start_of n ≤ length w
    → let s = take (length w - 1) (drop 1 w) in take n (first_chunks width (length s / width) s) ≡ up_to (entry_words w) n
cut w n l = rw (rest_taken w 1 (length w - 1) (omega arith)) (first_blocks w n (length (drop 1 w) / width) (omega (arith, length-drop 1 w)))

pub returns : goal.returns
returns c =
    let a = c.args in ap (take a.n) c.as_chunks.ensures.front ∙ cut a.book.now a.n c.requires
