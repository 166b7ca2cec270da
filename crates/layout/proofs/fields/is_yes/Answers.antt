-- `layout::fields::is_yes` meets its contract: antt computes where the flags of CO stand.
-- Assumes nothing.
use Prim.Native.Nat.{◌+◌, ◌-◌}
use mathlib.Core.Path.{◌≡◌}
use native.Mathlib.Omega.{arith}
use Rattle.layout.specs.Layout.{table_at}
use Rattle.layout.specs.Fields.{row_with, row_of, byte_of, is_yes}
use Rattle.layout.proofs.Flags.{flags_stand, no_flag_before, no_flag_behind}
use Rattle.layout.proofs.fields.is_yes.Goals as goal

pub returns-in-27 : goal.returns-in-27
unfolding is_yes byte_of row_of row_with table_at
returns-in-27 c = rw (c.in-27.is, c.byte_at.ensures)

pub returns-in-31-to-38 : goal.returns-in-31-to-38
unfolding is_yes byte_of
returns-in-31-to-38 c =
    let f = c.args.field in
    let k : 31 + (f - 31) ≡ f = omega arith in
    let s = rw k at (flags_stand (f - 31) (omega arith)) in
    rw (s.0, s.1, c.byte_at-in-31-to-38.ensures)

pub returns-in_default : goal.returns-in_default
unfolding is_yes
returns-in_default c = rw (no_flag_before c.args.field (omega arith) (omega arith))

pub returns-in_default-2 : goal.returns-in_default-2
unfolding is_yes
returns-in_default-2 c = rw (no_flag_behind c.args.field (omega arith))
