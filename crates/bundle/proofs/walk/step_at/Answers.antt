-- `bundle::walk::step_at` meets its contract. A known mark has two bytes, so that the body starts in the bundle.
-- Assumes nothing.
use Prim.Native.Nat.{◌+◌, ◌≤◌}
use mathlib.Core.Path.{sym, ◌∙◌}
use native.Mathlib.Omega.{arith}
use lib.ListN.{length, drop, length-drop}
use Rattle.bundle.proofs.Steps.{known_long, step_unknown, step_short, step_whole}
use Rattle.bundle.proofs.walk.step_at.Goals as goal

pub returns-in_default : goal.returns-in_default
returns-in_default c = step_unknown _ _ (sym c.table_at.ensures ∙ c.in_default.is)

pub overflow_add-start : goal.overflow_add-start
overflow_add-start c =
    let fits : c.args.at + 2 ≤ length c.args.bundle.now = let a = c.args in
    omega (arith, length-drop a.at a.bundle.now, known_long (drop a.at a.bundle.now) _ (sym c.table_at.ensures ∙ c.in-Some.is)) in
    omega (arith, fits)

pub overflow_sub-bundle : goal.overflow_sub-bundle
overflow_sub-bundle c = let a = c.args in
    omega (arith, length-drop a.at a.bundle.now, known_long (drop a.at a.bundle.now) _ (sym c.table_at.ensures ∙ c.in-Some.is))

pub returns-then-bundle-start : goal.returns-then-bundle-start
returns-then-bundle-start c =
    let fits : c.args.at + 2 ≤ length c.args.bundle.now = let a = c.args in
    omega (arith, length-drop a.at a.bundle.now, known_long (drop a.at a.bundle.now) _ (sym c.table_at.ensures ∙ c.in-Some.is)) in
    step_short _ _ (sym c.table_at.ensures ∙ c.in-Some.is) c.length_of-length.ensures fits c.if-bundle-start.true

pub overflow_add-result : goal.overflow_add-result
overflow_add-result c =
    let fits : c.args.at + 2 ≤ length c.args.bundle.now = let a = c.args in
    omega (arith, length-drop a.at a.bundle.now, known_long (drop a.at a.bundle.now) _ (sym c.table_at.ensures ∙ c.in-Some.is)) in
    omega (arith, fits)

pub returns : goal.returns
returns c =
    let fits : c.args.at + 2 ≤ length c.args.bundle.now = let a = c.args in
    omega (arith, length-drop a.at a.bundle.now, known_long (drop a.at a.bundle.now) _ (sym c.table_at.ensures ∙ c.in-Some.is)) in
    step_whole _ _ (sym c.table_at.ensures ∙ c.in-Some.is) c.length_of-length.ensures fits c.if-bundle-start.false
