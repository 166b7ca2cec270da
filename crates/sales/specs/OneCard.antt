-- THE BASE'S SALE, cancellation, balance and total: what they were, and left in the book, while a question had one card or none (document 01, 'The sales book').
-- They differ from today's in when a book is sound, in the words of a question, and in its fare; and are kept to say that one card is answered as it was.
-- Assumes nothing.
use Rattle.std.specs.Prelude.{ℕ, cond, Result}
use mathlib.Core.List.{List, [], ◌∷◌, Memᴰ}
use Rattle.common.specs.declared.Refusal.{Refusal}
use Rattle.common.specs.Checks.{Check}
use Rattle.bundle.specs.Records.{records_of}
use Rattle.fares.specs.OneCard.{OneCard, base_parts, base_checks}
use Rattle.fares.specs.declared.Question.{Question}
use Rattle.book.specs.Words.{new_entry}
use Rattle.book.specs.Changes.{added, cancelled_at}
use Rattle.book.specs.OneCard.{base_words, base_sound}
use Rattle.sales.specs.Sales.{place, sale_checks_by, sale_answer_by, is_booked_by, cancel_checks_by, cancel_answer_by, is_cancelled_by}
use Rattle.sales.specs.Balances.{balance_checks_by, balance_by, total_checks_by, total_by}
use Rattle.sales.specs.History.{Number, Op, sale, cancel}
use Rattle.sales.specs.declared.Receipt.{Receipt}

module _ (book : List ℕ) (till sequence : ℕ) where
  module _ (bundle : List ℕ) (q : Question) where
    abbrev pub base_sale_checks : List Check
    base_sale_checks = sale_checks_by book till sequence (base_sound book) (base_words q) (base_checks bundle q)

    unfoldable pub base_sale : Result Receipt Refusal
    base_sale = sale_answer_by book till sequence base_sale_checks (base_parts (records_of bundle) q)

    unfoldable pub base_sale_words : List ℕ
    base_sale_words = cond (is_booked_by book till sequence base_sale_checks) (added book (new_entry till sequence (base_words q) (base_parts (records_of bundle) q))) book

  abbrev pub base_cancel_checks : List Check
  base_cancel_checks = cancel_checks_by book till sequence (base_sound book)

  unfoldable pub base_cancel : Result Receipt Refusal
  base_cancel = cancel_answer_by book till sequence base_cancel_checks

  unfoldable pub base_cancel_words : List ℕ
  base_cancel_words = cond (is_cancelled_by book till sequence base_cancel_checks) (cancelled_at book (place book till sequence)) book

-- the book after some operations
unfoldable pub base_after : List ℕ → List Op → List ℕ
base_after book [] = book
base_after book (sale n bundle q ∷ ops) = base_after (base_sale_words book n.till n.sequence bundle q) ops
base_after book (cancel n ∷ ops) = base_after (base_cancel_words book n.till n.sequence) ops

-- each sale among the operations has one card or none
abbrev pub OneCardOps : List Op → Type 0
OneCardOps ops = (n : Number) (bundle : List ℕ) (q : Question) → Memᴰ (sale n bundle q) ops → OneCard q

unfoldable pub base_balance : List ℕ → ℕ → Result ℕ Refusal
base_balance book railway = balance_by (balance_checks_by (base_sound book) railway) book railway

unfoldable pub base_total : List ℕ → Result ℕ Refusal
base_total book = total_by (total_checks_by (base_sound book)) book
