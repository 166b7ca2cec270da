-- `layout::fields::code` meets its contract: the code stands where its span says.
-- Assumes nothing.
use mathlib.Core.Path.{◌∙◌}
use Rattle.layout.proofs.Tables.{code_spanned}
use Rattle.layout.proofs.fields.code.Goals as goal

pub returns : goal.returns
returns g c = rw (← c.named.ensures, c.in-Ok.is) (c.field.ensures ∙ rw c.code_span-span.ensures (code_spanned _ _))
