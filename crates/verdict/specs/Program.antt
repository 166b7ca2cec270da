-- What the small program answers to its input (document 01, 'The verdict program').
-- Assumes nothing.
use Rattle.std.specs.Prelude.{ℕ, cond, List, ltb, length, Result, Err}
use Rattle.common.specs.declared.reasons.Reason.TheVariants.{BundleTooLong}
use Rattle.common.specs.declared.Refusal.{Refusal}
use Rattle.common.specs.Checks.{refuse}
use Rattle.bundle.specs.Verdict.{verdict_of}

-- "It reads a bundle of up to 65,536 bytes"
abbrev pub program_limit : ℕ
program_limit = 65536

-- "More input, by this program's own limit: NO 1 0 0"; any other input is judged as a bundle
unfoldable pub program_verdict : List ℕ → Result ℕ Refusal
program_verdict input = cond (ltb program_limit (length input)) (Err (refuse BundleTooLong 0 0)) (verdict_of input)
