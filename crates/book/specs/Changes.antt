-- The two changes that a book can have (document 01, 'The sales book').
-- Assumes nothing.
use Rattle.std.specs.Prelude.{ℕ, ◌+◌, List, set}
use Rattle.std.proofs.Math.Seq.{paste}
use Rattle.book.specs.Words.{Entry, width, start_of, status_at, count_of, words_of}

-- "one entry added at the end", and the count with it
unfoldable pub added : List ℕ → Entry → List ℕ
added book e = set (paste book (start_of (count_of book)) (words_of e) width) 0 (count_of book + 1)

-- "one mark set": the status of entry i
abbrev pub cancelled_at : List ℕ → ℕ → List ℕ
cancelled_at book i = set book (start_of i + status_at) 1
