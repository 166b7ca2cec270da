-- `layout::rules::text` meets its contract. The loop's invariant: what was good so far, and what is left, decide.
-- Assumes nothing.
use mathlib.Core.Bool.{and_assoc, and-true}
use mathlib.Core.Path.{refl, sym, ◌∙◌}
use Rattle.common.proofs.Lists.{every_step, every_end}
use Rattle.layout.specs.Bytes.{is_text}
use Rattle.layout.proofs.rules.text.Goals as goal

pub loop-b-preserved : goal.loop-b-preserved
loop-b-preserved c =
    c.loop-b.invariant ∙ rw (every_step is_text _ _ 0 c.loop-b-test.true, and_assoc, c.text_byte-good.ensures) refl

pub returns : goal.returns
returns c = sym (c.loop-b.invariant ∙ rw (every_end is_text _ _ c.loop-b-test.false, and-true))
