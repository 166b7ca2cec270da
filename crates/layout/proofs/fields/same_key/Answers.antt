-- `layout::fields::same_key` meets its contract: the fields of a key are compared at once.
-- Assumes nothing.
use mathlib.Core.Path.{◌∙◌}
use Rattle.layout.proofs.Tables.{key_at_once}
use Rattle.layout.proofs.fields.same_key.Goals as goal

pub returns : goal.returns
returns g c =
    rw (← c.named.ensures, c.in-Ok.is) (c.same_bytes.ensures ∙ rw (c.field-2.ensures, c.field.ensures, c.key_length-n.ensures) (key_at_once _ _ _))
