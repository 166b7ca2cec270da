-- Number 21: a book that is not sound, value by value, is refused by every call that is lent one.
-- Assumes nothing.
use Prim.Native.Nat.{ℕ}
use mathlib.Core.Path.{◌≡◌}
use mathlib.Core.Bool.{false}
use mathlib.Core.List.{List}
use Rattle.std.specs.Prelude.{Err}
use Rattle.common.specs.declared.reasons.Reason.TheVariants.{BookUnsound}
use Rattle.common.specs.Checks.{refuse, first_fault}
use Rattle.common.proofs.Tests.{refuted}
use Rattle.fares.specs.declared.Question.{Question}
use Rattle.book.specs.Meaning.{Sound}
use Rattle.book.specs.Sound.{sound_words}
use Rattle.book.proofs.BookMeaning.{sound_means}
use Rattle.sales.specs.Sales.{sale_answer, cancel_answer}
use Rattle.sales.specs.Balances.{balance_answer, total_answer}
use Rattle.sales.specs.Reading.{count_answer, entry_answer, find_answer}
use Rattle.sales.proofs.AnswersByCase.{sale_unsound, looked_unsound, cancel_refused, find_refused}

module _ (w : List ℕ) (unsound : Sound w → ⊥) where
  not_found : sound_words w ≡ false
  not_found = refuted (sound_words w) (λ e. unsound (sound_means w e))

  pub unsound_sale : (till sequence : ℕ) (bundle : List ℕ) (q : Question) → sale_answer w till sequence bundle q ≡ Err (refuse BookUnsound 0 0)
  unsound_sale till sequence bundle q = sale_unsound w till sequence bundle q not_found

  pub unsound_cancel : (till sequence : ℕ) → cancel_answer w till sequence ≡ Err (refuse BookUnsound 0 0)
  unsound_cancel till sequence = cancel_refused w till sequence (looked_unsound w till sequence not_found)

  pub unsound_find : (till sequence : ℕ) → find_answer w till sequence ≡ Err (refuse BookUnsound 0 0)
  unsound_find till sequence = find_refused w till sequence (looked_unsound w till sequence not_found)

  pub unsound_entry : (i : ℕ) → entry_answer w i ≡ Err (refuse BookUnsound 0 0)
  unfolding entry_answer first_fault
  unsound_entry i = rw not_found

  pub unsound_count : count_answer w ≡ Err (refuse BookUnsound 0 0)
  unfolding count_answer first_fault
  unsound_count = rw not_found

  pub unsound_balance : (railway : ℕ) → balance_answer w railway ≡ Err (refuse BookUnsound 0 0)
  unfolding balance_answer first_fault
  unsound_balance railway = rw not_found

  pub unsound_total : total_answer w ≡ Err (refuse BookUnsound 0 0)
  unfolding total_answer first_fault
  unsound_total = rw not_found
