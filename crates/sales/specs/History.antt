-- DEMAND 3: what is owed after any sequence of sales and cancellations, told from the history alone, by the questions and the fares of its sales. No word,
-- entry or answer of a book stands in `owed`.
-- Assumes nothing.
use Rattle.std.specs.Prelude.{ℕ, ◌+◌, Bool, false, cond, not, ◌&&◌, ◌||◌, List, [], ◌∷◌, ◌++◌, eqb, ltb, length, replicate, Result, Ok, Err, is_ok}
use Rattle.common.specs.Lists.{any}
use Rattle.common.specs.declared.Refusal.{Refusal}
use Rattle.fares.specs.Question.{between}
use Rattle.fares.specs.Fare.{fare_of}
use Rattle.fares.specs.declared.Leg.{Leg}
use Rattle.fares.specs.declared.Question.{Question}
use Rattle.fares.specs.declared.Quote.{Quote}
use Rattle.book.specs.Words.{book_length}
use Rattle.book.specs.Due.{due_from}
use Rattle.sales.specs.Sales.{sale_words, cancel_words}

pub record Number : Type 0 where
  pub till : ℕ
  pub sequence : ℕ

abbrev pub no_number : Number
no_number = record { till = 0; sequence = 0 }

-- an operation: a sale with any bundle, or a cancellation
pub data Op : Type 0 where
  sale : Number → List ℕ → Question → Op
  cancel : Number → Op

-- the empty book, and the book after the operations
unfoldable pub empty_book : List ℕ
empty_book = replicate book_length 0

unfoldable pub after : List ℕ → List Op → List ℕ
after book [] = book
after book (sale n bundle q ∷ ops) = after (sale_words book n.till n.sequence bundle q) ops
after book (cancel n ∷ ops) = after (cancel_words book n.till n.sequence) ops

abbrev pub same_number : Number → Number → Bool
same_number n m = eqb m.till n.till && eqb m.sequence n.sequence

-- the number was booked before
abbrev pub is_in : Number → List Number → Bool
is_in n ns = any (same_number n) ns

-- a later operation cancels the number
unfoldable pub cancelled_in : Number → List Op → Bool
cancelled_in n [] = false
cancelled_in n (sale m bundle q ∷ ops) = cancelled_in n ops
cancelled_in n (cancel m ∷ ops) = same_number m n || cancelled_in n ops

-- "till 1-65,535, sequence 1-4,294,967,295"
abbrev pub is_number : Number → Bool
is_number n = between 1 65535 n.till && between 1 4294967295 n.sequence

-- the parts of a fare, none where there is no fare
abbrev pub parts_told : Result Quote Refusal → List ℕ
parts_told (Ok quote) = quote.parts
parts_told (Err why) = []

-- a sale books if its number is within its limits and new, fewer than 256 are booked, and the bundle gives it a fare; ns are the numbers booked before
unfoldable pub books : List Number → Number → List ℕ → Question → Bool
books ns n bundle q = is_number n && (not (is_in n ns) && (ltb (length ns) 256 && is_ok (fare_of bundle q)))

-- the numbers that the operations book, in order, after those booked before
unfoldable pub booked_by : List Number → List Op → List Number
booked_by ns [] = ns
booked_by ns (sale n bundle q ∷ ops) = booked_by (cond (books ns n bundle q) (ns ++ (n ∷ [])) ns) ops
booked_by ns (cancel n ∷ ops) = booked_by ns ops

-- each different number counts once, with what was due from it at its first booking, unless it is cancelled afterwards; `legs` says which legs count
unfoldable pub owed : (Leg → Bool) → List Number → List Op → ℕ
owed legs ns [] = 0
owed legs ns (sale n bundle q ∷ ops) =
    cond (books ns n bundle q)
    (cond (cancelled_in n ops) 0 (due_from legs q (parts_told (fare_of bundle q))) + owed legs (ns ++ (n ∷ [])) ops)
    (owed legs ns ops)
owed legs ns (cancel n ∷ ops) = owed legs ns ops
