-- Company codes: two of one length that have one number are the same bytes, and 0000 has the number 0.
-- Assumes nothing.
use mathlib.Core.Path.{◌≡◌}
use mathlib.Core.Bool.{true}
use mathlib.Core.List.{List}
use Prim.Native.Nat.{ℕ}
use lib.ListN.{length}
use Rattle.common.specs.Digits.{digits_after, number_of}
use Rattle.common.proofs.Digits.{within_same}
use Rattle.common.proofs.Lists.{same_is}
use Rattle.layout.specs.Company.{is_company, is_all_railways, company_of}

pub same_company : (a b : List ℕ) → length a ≡ length b → is_company a ≡ true → is_company b ≡ true → company_of a ≡ company_of b → a ≡ b
unfolding is_company company_of
same_company a b l p q e = within_same 0 9999 a b l p q e

pub all_railways_zero : (s : List ℕ) → is_all_railways s ≡ true → company_of s ≡ 0
unfolding is_all_railways company_of number_of digits_after
all_railways_zero s e = rw (same_is s _ e)
