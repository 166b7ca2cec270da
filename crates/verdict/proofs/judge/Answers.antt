-- Input over the program's limit is refused, other input is judged as a bundle.
use Rattle.std.proofs.Common.{sym, ap, ◌∙◌}
use borrow.Author.Tests.{lt-ltb, le-ltb}
use Rattle.std.specs.Prelude.{Err}
use Rattle.verdict.specs.Program.{program_verdict}
use Rattle.verdict.proofs.judge.Goals as goal

pub returns-then-input-gt-LIMIT : goal.returns-then-input-gt-LIMIT
unfolding program_verdict
returns-then-input-gt-LIMIT c = ap Err c.refuse.ensures ∙ sym (rw (lt-ltb _ _ c.if-input-gt-LIMIT.true))

pub returns : goal.returns
unfolding program_verdict
returns c = c.verdict.ensures ∙ sym (rw (le-ltb _ _ c.if-input-gt-LIMIT.false))
