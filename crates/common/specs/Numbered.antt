-- A reason by its number, and the table of both.
-- Assumes nothing.
use Rattle.std.specs.Prelude.{◌≡◌, ℕ, true, false, List, [], ◌∷◌, Result, MatchResult, eqb}
use Rattle.common.specs.Lists.{any}
use Rattle.common.specs.Reasons.{number_of_reason, is_listed}
use Rattle.common.specs.declared.reasons.Reason.{Reason}
use Rattle.common.specs.declared.reasons.Reason.TheVariants.{BundleTooLong, MarkUnknown, RecordShort, FieldBroken, OtherTransferor, KeyRepeated, LinkMissing, OutsideLimits, NoConditions, DayOutside, PersonsOutside, ConditionUnread, CardTwice, BookUnsound, NumberOutside, NumberTaken, BookFull, SaleUnknown}
use Rattle.common.specs.declared.reasons.NoReason.{NoReason}

-- the reasons in the order of document 01's table, and their numbers
abbrev pub each_reason : List Reason
each_reason =
    BundleTooLong ∷ MarkUnknown ∷ RecordShort ∷ FieldBroken ∷ OtherTransferor ∷ KeyRepeated ∷ LinkMissing ∷
    OutsideLimits ∷ NoConditions ∷ DayOutside ∷ PersonsOutside ∷ ConditionUnread ∷ CardTwice ∷
    BookUnsound ∷ NumberOutside ∷ NumberTaken ∷ BookFull ∷ SaleUnknown ∷ []

abbrev pub numbers : List ℕ
numbers = 1 ∷ 2 ∷ 3 ∷ 4 ∷ 5 ∷ 6 ∷ 7 ∷ 11 ∷ 12 ∷ 13 ∷ 14 ∷ 15 ∷ 17 ∷ 21 ∷ 22 ∷ 23 ∷ 24 ∷ 25 ∷ []

-- the reason of the table that has this number, or the number, where none has it
abbrev pub IsNumbered : ℕ → Result Reason NoReason → Type 0
IsNumbered number r = MatchResult r (λ reason. (number_of_reason reason ≡ number) × (is_listed reason ≡ true)) (λ none. (none.0 ≡ number) × (any (eqb number) numbers ≡ false))
