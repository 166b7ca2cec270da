-- `bundle::passes::first_pass` meets its contract. The loop's invariant: the loop stands at record i, and the pass finds what it finds from there on.
-- Assumes nothing.
use Prim.Native.Nat.{ℕ}
use mathlib.Core.Path.{◌≡◌, sym, ◌∙◌}
use mathlib.Core.List.{List}
use native.Mathlib.Omega.{arith}
use Rattle.common.proofs.Checks.{as_found}
use Rattle.layout.specs.Rules.{broken_field}
use Rattle.bundle.specs.Records.{between}
use Rattle.bundle.proofs.Here.{Stands, here_start, stands, unknown_there, short_there}
use Rattle.bundle.proofs.PassLaws.{first_start, first_unknown, first_short, first_end, found_field, field_fault, fields_pass}
use Rattle.bundle.proofs.passes.first_pass.Goals as goal

pub loop-at-init : goal.loop-at-init
loop-at-init c = (here_start _, first_start _)

pub returns-in-Unknown : goal.returns-in-Unknown
returns-in-Unknown c = as_found _ (c.loop-at.invariant.1 ∙ first_unknown _ _ _ c.loop-at.invariant.0 c.loop-at-test.true (unknown_there _ _ c.step_at-here.ensures c.in-Unknown.is)) c.refuse.ensures

pub returns-in-Short : goal.returns-in-Short
returns-in-Short c = as_found _ (c.loop-at.invariant.1 ∙ first_short _ _ _ c.loop-at.invariant.0 c.loop-at-test.true (short_there _ _ c.step_at-here.ensures c.in-Short.is)) c.refuse-in-Short.ensures

pub slice_bounds-broken_field-count : goal.slice_bounds-broken_field-count
slice_bounds-broken_field-count c =
    let bundle-of : List ℕ = c.args.bundle.now in
    let found : Stands (bundle-of) c.loop-at.at c.loop-at.i c.in-Whole.table c.in-Whole.start c.in-Whole.next = stands _ _ _ c.loop-at.invariant.0 c.step_at-here.ensures c.in-Whole.is in
    found.ends

pub slice_bounds-broken_field-start : goal.slice_bounds-broken_field-start
slice_bounds-broken_field-start c =
    let bundle-of : List ℕ = c.args.bundle.now in
    let found : Stands (bundle-of) c.loop-at.at c.loop-at.i c.in-Whole.table c.in-Whole.start c.in-Whole.next = stands _ _ _ c.loop-at.invariant.0 c.step_at-here.ensures c.in-Whole.is in
    let w = found in omega (arith, w.ends, w.inside)

pub slice_bounds-broken_field-end : goal.slice_bounds-broken_field-end
slice_bounds-broken_field-end c =
    let bundle-of : List ℕ = c.args.bundle.now in
    let found : Stands (bundle-of) c.loop-at.at c.loop-at.i c.in-Whole.table c.in-Whole.start c.in-Whole.next = stands _ _ _ c.loop-at.invariant.0 c.step_at-here.ensures c.in-Whole.is in
    found.inside

pub returns-in-Some : goal.returns-in-Some
returns-in-Some c =
    let bundle-of : List ℕ = c.args.bundle.now in
    let found : Stands (bundle-of) c.loop-at.at c.loop-at.i c.in-Whole.table c.in-Whole.start c.in-Whole.next = stands _ _ _ c.loop-at.invariant.0 c.step_at-here.ensures c.in-Whole.is in
    let broken : c.broken_field.result ≡ broken_field c.in-Whole.table (between c.in-Whole.start c.in-Whole.next (bundle-of)) = found_field _ _ c.all-rows.ensures c.of_table-own.ensures c.broken_field.ensures in
    as_found _ (c.loop-at.invariant.1 ∙ field_fault _ _ _ c.loop-at.invariant.0 (found) (broken) c.in-Some.is) c.refuse-in-Some.ensures

pub overflow_add-i : goal.overflow_add-i
overflow_add-i c =
    let bundle-of : List ℕ = c.args.bundle.now in
    let found : Stands (bundle-of) c.loop-at.at c.loop-at.i c.in-Whole.table c.in-Whole.start c.in-Whole.next = stands _ _ _ c.loop-at.invariant.0 c.step_at-here.ensures c.in-Whole.is in
    omega (arith, found.starts, found.ends, found.inside, c.loop-at.invariant.0.counted)

pub loop-at-smaller : goal.loop-at-smaller
loop-at-smaller c =
    let bundle-of : List ℕ = c.args.bundle.now in
    let found : Stands (bundle-of) c.loop-at.at c.loop-at.i c.in-Whole.table c.in-Whole.start c.in-Whole.next = stands _ _ _ c.loop-at.invariant.0 c.step_at-here.ensures c.in-Whole.is in
    let w = found in omega (arith, w.starts, w.ends, w.inside)

pub loop-at-preserved : goal.loop-at-preserved
loop-at-preserved c =
    let bundle-of : List ℕ = c.args.bundle.now in
    let found : Stands (bundle-of) c.loop-at.at c.loop-at.i c.in-Whole.table c.in-Whole.start c.in-Whole.next = stands _ _ _ c.loop-at.invariant.0 c.step_at-here.ensures c.in-Whole.is in
    let broken : c.broken_field.result ≡ broken_field c.in-Whole.table (between c.in-Whole.start c.in-Whole.next (bundle-of)) = found_field _ _ c.all-rows.ensures c.of_table-own.ensures c.broken_field.ensures in
    (found.then, c.loop-at.invariant.1 ∙ fields_pass _ _ _ c.loop-at.invariant.0 (found) (broken) c.in_default.is)

pub returns : goal.returns
returns c =
    let e = first_end _ _ _ c.loop-at.invariant.0 c.loop-at-test.false in
    sym (rw (c.loop-at.invariant.1 ∙ e.0, e.1))
