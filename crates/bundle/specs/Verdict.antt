-- The verdict on a bundle: its checks in document 01's order, of which the first that fails is told ('Keys and links', 'Numbers that turn work away').
-- Assumes nothing.
use Rattle.std.specs.Prelude.{Option, is_some, unwrap_or, Result, ℕ, Bool, true, false, ◌&&◌, List, [], ◌∷◌, ◌++◌, ltb, length, get_or}
use Rattle.common.specs.declared.reasons.Reason.TheVariants.{BundleTooLong, MarkUnknown, RecordShort, FieldBroken, OtherTransferor, KeyRepeated, LinkMissing}
use Rattle.common.specs.declared.Refusal.{Refusal}
use Rattle.common.specs.Checks.{Finding, Check, check, unless, first_fault, each_from}
use Rattle.layout.specs.Rules.{broken_field}
use Rattle.bundle.specs.Records.{Rec, step_of, records_of, rest_of}
use Rattle.bundle.specs.Keys.{other_transferor, earlier_of}
use Rattle.bundle.specs.Links.{links, link_rows, no_link, missing_link}
use Rattle.bundle.specs.declared.walk.Step.{Step}
use Rattle.bundle.specs.declared.walk.Step.TheVariants.{Unknown, Short, Whole}

-- "A bundle has 0 to 1,048,576 bytes."
abbrev pub limit : ℕ
limit = 1048576

abbrev pub is_unknown : Step → Bool
is_unknown Unknown = true
is_unknown Short = false
is_unknown (Whole t start next) = false

abbrev pub is_short : Step → Bool
is_short Unknown = false
is_short Short = true
is_short (Whole t start next) = false

-- 4: a field of record i breaks its rule; the first such field is the detail
abbrev pub field_checks : ℕ → Rec → List Check
field_checks i r =
    let f : Option ℕ = broken_field r.table r.body in
    check (is_some f) FieldBroken i (unwrap_or f 0) ∷ []

-- 2 and 3: where the n whole records end, bytes are left whose mark is unknown (or one byte), or that are too few for their record
abbrev pub end_checks : ℕ → List ℕ → List Check
end_checks n rest =
    check (ltb 0 (length rest) && is_unknown (step_of rest)) MarkUnknown n 0 ∷
    check (is_short (step_of rest)) RecordShort n 0 ∷
    []

-- "First the records are checked from record 0, each for 2, then 3, then 4": a whole record with a known mark has no 2 and no 3, so these two
-- are asked where the whole records end
unfoldable pub first_pass : List ℕ → List Check
first_pass s = each_from 0 field_checks (records_of s) ++ end_checks (length (records_of s)) (rest_of s)

-- 5: another transferor; 6: a key repeated, the first earlier record is the detail; 7: a link missing, by its detail
abbrev pub record_checks : List Rec → ℕ → Rec → List Check
record_checks R i r =
    let j : ℕ = earlier_of R i r in
    let k : ℕ = missing_link R r in
    check (other_transferor R r) OtherTransferor i 0 ∷
    check (ltb j i) KeyRepeated i j ∷
    check (ltb k links) LinkMissing i (get_or link_rows k no_link).detail ∷
    []

-- "only if none fails are they gone through again, from record 0, each record for 5, then 6, then 7 .., before the next record"
unfoldable pub second_pass : List Rec → List Check
second_pass R = each_from 0 (record_checks R) R

-- every check of a bundle, in order
unfoldable pub checks : List ℕ → List Check
checks s = check (ltb limit (length s)) BundleTooLong 0 0 ∷ (first_pass s ++ second_pass (records_of s))

abbrev pub judged : Finding → ℕ → Result ℕ Refusal
judged f n = unless f n

-- THE VERDICT: the first check that fails, or else the number of the records
unfoldable pub verdict_of : List ℕ → Result ℕ Refusal
verdict_of s = judged (first_fault (checks s)) (length (records_of s))
