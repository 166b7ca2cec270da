-- THE NUMBERS that turn work away (document 01, 'Numbers that turn work away', and document 02, R-1 and R-13): each check that can
-- fail has a reason, and each of these reasons a number of its own.
-- Assumes nothing.
use Rattle.std.specs.Prelude.{ℕ, Bool, true, false, List, [], ◌∷◌, Result, Ok, Err}
use Rattle.common.specs.declared.Refusal.{Refusal}
use Rattle.common.specs.declared.reasons.Reason.{Reason}
use Rattle.common.specs.declared.reasons.Reason.TheVariants.{BundleTooLong, MarkUnknown, RecordShort, FieldBroken, OtherTransferor, KeyRepeated, LinkMissing, OutsideLimits, NoConditions, DayOutside, PersonsOutside, ConditionUnread, CardTwice, BookUnsound, NumberOutside, NumberTaken, BookFull, SaleUnknown, Unlisted}

-- 16, a fare above 4,294,967,295 cents, went with R-13 and is never used again
abbrev pub number_of_reason : Reason → ℕ
number_of_reason BundleTooLong = 1
number_of_reason MarkUnknown = 2
number_of_reason RecordShort = 3
number_of_reason FieldBroken = 4
number_of_reason OtherTransferor = 5
number_of_reason KeyRepeated = 6
number_of_reason LinkMissing = 7
number_of_reason OutsideLimits = 11
number_of_reason NoConditions = 12
number_of_reason DayOutside = 13
number_of_reason PersonsOutside = 14
number_of_reason ConditionUnread = 15
number_of_reason CardTwice = 17
number_of_reason BookUnsound = 21
number_of_reason NumberOutside = 22
number_of_reason NumberTaken = 23
number_of_reason BookFull = 24
number_of_reason SaleUnknown = 25
number_of_reason (Unlisted number) = number

-- a reason of this table, which a check tells; any number may be said by one that is not
abbrev pub is_listed : Reason → Bool
is_listed (Unlisted number) = false
is_listed other = true

-- a refusal in numbers: that of its reason, its place and its detail; nothing where work is answered
abbrev pub numbers_told : {A : Type 0} → Result A Refusal → List ℕ
numbers_told (Ok a) = []
numbers_told (Err why) = number_of_reason why.reason ∷ why.place ∷ why.detail ∷ []
