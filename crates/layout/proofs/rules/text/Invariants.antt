-- `layout::rules::text` meets its contract. The loop's invariant: what was good so far, and what is left, decide.
-- Assumes nothing.
use mathlib.Core.Bool.{◌&&◌}
use mathlib.Core.Path.{◌≡◌}
use lib.ListN.{drop}
use Rattle.common.specs.Lists.{every}
use Rattle.layout.specs.Bytes.{is_text}
use Rattle.layout.proofs.rules.text.Given as goal

abbrev pub invariant-loop-b : goal.invariant-loop-b
invariant-loop-b l = (every is_text l.s ≡ (l.good && every is_text (drop l.b-index l.s)))
