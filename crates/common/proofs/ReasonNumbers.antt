-- EACH REASON HAS ITS NUMBER: those of document 01's table, in its order. No two of the table have the same, and each is found by its number.
-- Assumes nothing.
use Rattle.std.proofs.Common.{◌≡◌, refl, sym, ap, ◌∙◌, ℕ, true}
use Rattle.std.specs.Prelude.{map, eqb, get_or, length, Result, Ok, Err}
use Rattle.common.specs.Least.{least}
use Rattle.common.specs.Lists.{any}
use Rattle.common.specs.Reasons.{number_of_reason, is_listed}
use Rattle.common.specs.Numbered.{each_reason, numbers, IsNumbered}
use Rattle.common.specs.declared.reasons.NoReason.{NoReason}
use Rattle.common.specs.declared.reasons.Reason.{Reason}
use Rattle.common.specs.declared.reasons.Reason.TheVariants.{BundleTooLong, MarkUnknown, RecordShort, FieldBroken, OtherTransferor, KeyRepeated, LinkMissing, OutsideLimits, NoConditions, DayOutside, PersonsOutside, ConditionUnread, CardTwice, BookUnsound, NumberOutside, NumberTaken, BookFull, SaleUnknown, Unlisted}
use Rattle.common.proofs.Tests.{never}

pub each_reason_has_its_number : map number_of_reason each_reason ≡ numbers
each_reason_has_its_number = refl

-- the reason of the table that has a number
abbrev reason_of : ℕ → Reason
reason_of n = get_or each_reason (least (λ i. eqb n (get_or numbers i 0)) (length numbers)) (Unlisted n)

at_its_number : (k : Reason) → is_listed k ≡ true → (any (eqb (number_of_reason k)) numbers ≡ true) × (reason_of (number_of_reason k) ≡ k)
unfolding least any
at_its_number BundleTooLong e = (refl, refl)
at_its_number MarkUnknown e = (refl, refl)
at_its_number RecordShort e = (refl, refl)
at_its_number FieldBroken e = (refl, refl)
at_its_number OtherTransferor e = (refl, refl)
at_its_number KeyRepeated e = (refl, refl)
at_its_number LinkMissing e = (refl, refl)
at_its_number OutsideLimits e = (refl, refl)
at_its_number NoConditions e = (refl, refl)
at_its_number DayOutside e = (refl, refl)
at_its_number PersonsOutside e = (refl, refl)
at_its_number ConditionUnread e = (refl, refl)
at_its_number CardTwice e = (refl, refl)
at_its_number BookUnsound e = (refl, refl)
at_its_number NumberOutside e = (refl, refl)
at_its_number NumberTaken e = (refl, refl)
at_its_number BookFull e = (refl, refl)
at_its_number SaleUnknown e = (refl, refl)
at_its_number (Unlisted number) e = never e refl

pub its_number_is_in_the_table : (k : Reason) → is_listed k ≡ true → any (eqb (number_of_reason k)) numbers ≡ true
its_number_is_in_the_table k e = (at_its_number k e).0

pub a_number_has_one_reason : (a b : Reason) → is_listed a ≡ true → is_listed b ≡ true → number_of_reason a ≡ number_of_reason b → a ≡ b
a_number_has_one_reason a b x y e = sym (at_its_number a x).1 ∙ (ap reason_of e ∙ (at_its_number b y).1)

pub a_reason_is_found_by_its_number : (k : Reason) → is_listed k ≡ true → (r : Result Reason NoReason) → IsNumbered (number_of_reason k) r → r ≡ Ok k
a_reason_is_found_by_its_number k e (Ok reason) n = ap Ok (a_number_has_one_reason reason k n.1 e n.0)
a_reason_is_found_by_its_number k e (Err none) n = never (its_number_is_in_the_table k e) n.1
