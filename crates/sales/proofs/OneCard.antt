-- ONE CARD OR NONE: over a book whose sales have no more, sound or not, every call is answered as by the base's rule, and leaves the base's book.
-- Assumes nothing.
use Prim.Native.Nat.{ℕ}
use mathlib.Core.Path.{◌≡◌, refl}
use mathlib.Core.Bool.{Bool, true, false, cond}
use mathlib.Core.List.{List, [], ◌∷◌}
use Rattle.common.specs.Checks.{Check, first_fault}
use Rattle.bundle.specs.Records.{records_of}
use Rattle.fares.specs.Fare.{fare_checks}
use Rattle.fares.specs.OneCard.{OneCard, base_checks}
use Rattle.fares.specs.declared.Question.{Question}
use Rattle.fares.proofs.OneCard.{parts_are, faults_are}
use Rattle.book.specs.OneCard.{OneCardBook, base_words, base_sound}
use Rattle.book.proofs.OneCard.{words_are, same_sound}
use Rattle.sales.specs.Sales.{is_present, sale_checks_by, sale_checks, sale_answer, is_booked, sale_words, cancel_checks, cancel_answer, is_cancelled, cancel_words}
use Rattle.sales.specs.Balances.{balance_answer, total_answer}
use Rattle.sales.specs.OneCard.{base_sale_checks, base_sale, base_sale_words, base_cancel, base_cancel_words, base_balance, base_total}

-- fares with the same first fault give sales with the same
module _ (book : List ℕ) (t s : ℕ) (sound : Bool) (asked : List ℕ) (a b : List Check) (e : first_fault a ≡ first_fault b) where
  unless_present : (c : Check) (p : Bool) → first_fault (cond p [] (c ∷ a)) ≡ first_fault (cond p [] (c ∷ b))
  unfolding first_fault
  unless_present c true = refl
  unless_present c false = rw e

  by_fare : first_fault (sale_checks_by book t s sound asked a) ≡ first_fault (sale_checks_by book t s sound asked b)
  unfolding first_fault
  by_fare = rw (unless_present _ (is_present book t s))

module _ (book : List ℕ) (one : OneCardBook book) where
  module _ (t s : ℕ) where
    module _ (bundle : List ℕ) (q : Question) (o : OneCard q) where
      same_faults : first_fault (sale_checks book t s bundle q) ≡ first_fault (base_sale_checks book t s bundle q)
      unfolding sale_checks
      same_faults = rw (same_sound book one, words_are q o) (by_fare book t s (base_sound book) (base_words q) (fare_checks bundle q) (base_checks bundle q) (faults_are q o bundle))

      pub same_sale : sale_answer book t s bundle q ≡ base_sale book t s bundle q
      unfolding sale_answer base_sale
      same_sale = rw (same_faults, parts_are q o (records_of bundle))

      pub same_sale_words : sale_words book t s bundle q ≡ base_sale_words book t s bundle q
      unfolding sale_words is_booked base_sale_words
      same_sale_words = rw (same_faults, words_are q o, parts_are q o (records_of bundle))

    pub same_cancel : cancel_answer book t s ≡ base_cancel book t s
    unfolding cancel_answer cancel_checks base_cancel
    same_cancel = rw (same_sound book one)

    pub same_cancel_words : cancel_words book t s ≡ base_cancel_words book t s
    unfolding cancel_words is_cancelled cancel_checks base_cancel_words
    same_cancel_words = rw (same_sound book one)

  pub same_balance : (railway : ℕ) → balance_answer book railway ≡ base_balance book railway
  unfolding balance_answer base_balance
  same_balance railway = rw (same_sound book one)

  pub same_total : total_answer book ≡ base_total book
  unfolding total_answer base_total
  same_total = rw (same_sound book one)
