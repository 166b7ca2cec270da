-- What a balance of a railway and the total answer (document 01, 'The sales book').
-- Assumes nothing.
use Rattle.std.specs.Prelude.{ℕ, Bool, not, List, [], ◌∷◌, Result}
use Rattle.common.specs.declared.reasons.Reason.TheVariants.{OutsideLimits, BookUnsound}
use Rattle.common.specs.declared.Refusal.{Refusal}
use Rattle.common.specs.Checks.{Check, check, unless, first_fault}
use Rattle.layout.specs.Company.{is_railway}
use Rattle.book.specs.Words.{entries}
use Rattle.book.specs.Amounts.{of_railway, of_all, balance_of}
use Rattle.book.specs.Sound.{sound_words}

-- "Balance of one railway (21, then 11), and total of all (21)", by whether the book is sound
abbrev pub balance_checks_by : Bool → ℕ → List Check
balance_checks_by sound railway = check (not sound) BookUnsound 0 0 ∷ check (not (is_railway railway)) OutsideLimits 0 0 ∷ []

abbrev pub balance_checks : List ℕ → ℕ → List Check
balance_checks book railway = balance_checks_by (sound_words book) railway

abbrev pub total_checks_by : Bool → List Check
total_checks_by sound = check (not sound) BookUnsound 0 0 ∷ []

abbrev pub total_checks : List ℕ → List Check
total_checks book = total_checks_by (sound_words book)

-- by those checks
abbrev pub balance_by : List Check → List ℕ → ℕ → Result ℕ Refusal
balance_by checks book railway = unless (first_fault checks) (balance_of (of_railway railway) (entries book))

unfoldable pub balance_answer : List ℕ → ℕ → Result ℕ Refusal
balance_answer book railway = balance_by (balance_checks book railway) book railway

abbrev pub total_by : List Check → List ℕ → Result ℕ Refusal
total_by checks book = unless (first_fault checks) (balance_of of_all (entries book))

unfoldable pub total_answer : List ℕ → Result ℕ Refusal
total_answer book = total_by (total_checks book) book
