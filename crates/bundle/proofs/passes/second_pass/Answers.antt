-- `bundle::passes::second_pass` meets its contract. The outer loop stands at record i, the pass finds what it finds from there on, the records
-- before are kept unless it says so no more, and the hints are places; the inner loop stands at record j, and record i clashes with none before it.
-- Assumes nothing.
use Prim.Native.Nat.{ℕ, ◌+◌}
use mathlib.Core.Path.{◌≡◌, refl, sym, ◌∙◌, ap}
use mathlib.Core.Bool.{true, false, not}
use mathlib.Core.List.{List}
use native.Mathlib.Omega.{arith}
use lib.ListN.{get_or}
use Rattle.common.specs.declared.reasons.Reason.TheVariants.{LinkMissing}
use Rattle.common.specs.Checks.{refuse}
use Rattle.common.specs.Least.{least}
use Rattle.common.proofs.Checks.{as_found}
use Rattle.common.proofs.Tests.{never}
use Rattle.common.proofs.Least.{start as none_yet, more, hit}
use Rattle.bundle.specs.Records.{Rec, rec, no_rec, between, records_of}
use Rattle.bundle.specs.Keys.{clash, other_transferor, earlier_of}
use Rattle.bundle.specs.declared.links.Link.{Link}
use Rattle.bundle.specs.Apart.{Kept}
use Rattle.bundle.proofs.Here.{Stands, here_start, stands, over_there, over_nil, over_count}
use Rattle.bundle.proofs.PassLaws.{second_start, second_end, other_fault, key_fault, link_fault, record_passes, compared}
use Rattle.bundle.proofs.passes.second_pass.Goals as goal
use Rattle.bundle.proofs.passes.second_pass.Goals.{then-is_kept, else-is_kept, then-is_kept-2, else-is_kept-2}

pub records-init : goal.records-init
records-init c = (here_start _, second_start _, (λ t j l. absurd (omega arith)), refl)

pub slice_bounds-r-count : goal.slice_bounds-r-count
slice_bounds-r-count c =
    let bundle-of : List ℕ = c.args.hints.now.bundle.now in
    let found : Stands (bundle-of) c.records.at c.records.i c.in-Whole.table c.in-Whole.start c.in-Whole.next = stands _ _ _ c.records.invariant.0 c.step_at-here.ensures c.in-Whole.is in
    found.ends

pub slice_bounds-r-start : goal.slice_bounds-r-start
slice_bounds-r-start c =
    let bundle-of : List ℕ = c.args.hints.now.bundle.now in
    let found : Stands (bundle-of) c.records.at c.records.i c.in-Whole.table c.in-Whole.start c.in-Whole.next = stands _ _ _ c.records.invariant.0 c.step_at-here.ensures c.in-Whole.is in
    omega (arith, found.ends, found.inside)

pub slice_bounds-r-end : goal.slice_bounds-r-end
slice_bounds-r-end c =
    let bundle-of : List ℕ = c.args.hints.now.bundle.now in
    let found : Stands (bundle-of) c.records.at c.records.i c.in-Whole.table c.in-Whole.start c.in-Whole.next = stands _ _ _ c.records.invariant.0 c.step_at-here.ensures c.in-Whole.is in
    found.inside

-- a record that is kept clashes with none; else the search begins at the first record
pub loop-j-init : goal.loop-j-init
loop-j-init c =
    let bundle-of : List ℕ = c.args.hints.now.bundle.now in
    let lent : Rec = rec c.in-Whole.table (between c.in-Whole.start c.in-Whole.next (bundle-of)) in
    let found : Stands (bundle-of) c.records.at c.records.i c.in-Whole.table c.in-Whole.start c.in-Whole.next = stands _ _ _ c.records.invariant.0 c.step_at-here.ensures c.in-Whole.is in
    let told : c.if-is_kept.is_kept ≡ true → (least (λ j. clash (lent) (get_or (records_of (bundle-of)) j no_rec)) c.records.i ≡ c.records.i) × Kept (bundle-of) c.if-is_kept.slots.heads.now c.if-is_kept.slots.lows.now (c.records.i + 1) =
    elim c.if-is_kept.branch [
      | then-is_kept w ↦
          rw w.slots-is
          (λ t. w.is_apart-is_kept.ensures.told (sym w.is_kept-is ∙ t) c.records.i found.below found.at found.place (c.records.invariant.2 w.if-is_kept.true))
      | else-is_kept w ↦ λ t. never (sym w.is_kept-is ∙ t) w.if-is_kept.false
    ] in
    elim c.if-is_kept-2.branch [
      | then-is_kept-2 w ↦ rw (w.p-is, w.first-is) (c.records.invariant.0, omega arith, (told w.if-is_kept-2.true).0)
      | else-is_kept-2 w ↦ rw (w.p-is, w.first-is) (here_start _, omega arith, none_yet _)
    ]

pub slice_bounds-clashes-count : goal.slice_bounds-clashes-count
slice_bounds-clashes-count c =
    let bundle-of : List ℕ = c.args.hints.now.bundle.now in
    let found-2 : Stands (bundle-of) c.loop-j.p c.loop-j.j c.in-Whole-there.t c.in-Whole-there.s c.in-Whole-there.e = stands _ _ _ c.loop-j.invariant.0 c.step_at-there.ensures c.in-Whole-there.is in
    found-2.ends

pub slice_bounds-clashes-start : goal.slice_bounds-clashes-start
slice_bounds-clashes-start c =
    let bundle-of : List ℕ = c.args.hints.now.bundle.now in
    let found-2 : Stands (bundle-of) c.loop-j.p c.loop-j.j c.in-Whole-there.t c.in-Whole-there.s c.in-Whole-there.e = stands _ _ _ c.loop-j.invariant.0 c.step_at-there.ensures c.in-Whole-there.is in
    omega (arith, found-2.ends, found-2.inside)

pub slice_bounds-clashes-end : goal.slice_bounds-clashes-end
slice_bounds-clashes-end c =
    let bundle-of : List ℕ = c.args.hints.now.bundle.now in
    let found-2 : Stands (bundle-of) c.loop-j.p c.loop-j.j c.in-Whole-there.t c.in-Whole-there.s c.in-Whole-there.e = stands _ _ _ c.loop-j.invariant.0 c.step_at-there.ensures c.in-Whole-there.is in
    found-2.inside

pub loop-j-preserved : goal.loop-j-preserved
loop-j-preserved c =
    let bundle-of : List ℕ = c.args.hints.now.bundle.now in
    let lent : Rec = rec c.in-Whole.table (between c.in-Whole.start c.in-Whole.next (bundle-of)) in
    let found-2 : Stands (bundle-of) c.loop-j.p c.loop-j.j c.in-Whole-there.t c.in-Whole-there.s c.in-Whole-there.e = stands _ _ _ c.loop-j.invariant.0 c.step_at-there.ensures c.in-Whole-there.is in
    let clashing : c.clashes.result ≡ clash (lent) (get_or (records_of (bundle-of)) c.loop-j.j no_rec) = c.clashes.ensures ∙ rw found-2.at in
    (found-2.then, omega arith, more _ c.loop-j.j c.loop-j.invariant.2 (sym (clashing) ∙ c.if-clashes.false))

pub overflow_add-i : goal.overflow_add-i
overflow_add-i c =
    let bundle-of : List ℕ = c.args.hints.now.bundle.now in
    let found : Stands (bundle-of) c.records.at c.records.i c.in-Whole.table c.in-Whole.start c.in-Whole.next = stands _ _ _ c.records.invariant.0 c.step_at-here.ensures c.in-Whole.is in
    omega (arith, found.starts, found.ends, found.inside, c.records.invariant.0.counted)

pub records-smaller : goal.records-smaller
records-smaller c =
    let bundle-of : List ℕ = c.args.hints.now.bundle.now in
    let found : Stands (bundle-of) c.records.at c.records.i c.in-Whole.table c.in-Whole.start c.in-Whole.next = stands _ _ _ c.records.invariant.0 c.step_at-here.ensures c.in-Whole.is in
    let w = found in omega (arith, w.starts, w.ends, w.inside)

pub records-preserved : goal.records-preserved
unfolding earlier_of
records-preserved c =
    let bundle-of : List ℕ = c.args.hints.now.bundle.now in
    let lent : Rec = rec c.in-Whole.table (between c.in-Whole.start c.in-Whole.next (bundle-of)) in
    let found : Stands (bundle-of) c.records.at c.records.i c.in-Whole.table c.in-Whole.start c.in-Whole.next = stands _ _ _ c.records.invariant.0 c.step_at-here.ensures c.in-Whole.is in
    let transferor : other_transferor (records_of (bundle-of)) (lent) ≡ not c.same_bytes.result = compared (records_of (bundle-of)) (lent) c.same_bytes.ensures c.transferor.ensures c.first_transferor-transferor.ensures in
    let apart : earlier_of (records_of (bundle-of)) c.records.i (lent) ≡ c.records.i = let e : c.loop-j.j ≡ c.records.i = omega arith in
    rw e at c.loop-j.invariant.2 in
    let same_transferor : other_transferor (records_of (bundle-of)) (lent) ≡ false = transferor ∙ c.if-not-same_bytes.false-raw in
    let told : c.if-is_kept.is_kept ≡ true → (least (λ j. clash (lent) (get_or (records_of (bundle-of)) j no_rec)) c.records.i ≡ c.records.i) × Kept (bundle-of) c.if-is_kept.slots.heads.now c.if-is_kept.slots.lows.now (c.records.i + 1) =
    elim c.if-is_kept.branch [
      | then-is_kept w ↦
          rw w.slots-is
          (λ t. w.is_apart-is_kept.ensures.told (sym w.is_kept-is ∙ t) c.records.i found.below found.at found.place (c.records.invariant.2 w.if-is_kept.true))
      | else-is_kept w ↦ λ t. never (sym w.is_kept-is ∙ t) w.if-is_kept.false
    ] in
    let q = record_passes _ c.records.i (lent) found.cons (same_transferor) (omega (arith, apart)) (omega (arith, rw c.records.invariant.3 at c.in_default-missing_link.ensures.0)) in
    (found.then, c.records.invariant.1 ∙ q, (λ t. (told t).1), c.in_default-missing_link.ensures.1 ∙ c.records.invariant.3)

pub returns-in_default : goal.returns-in_default
returns-in_default c =
    let o = over_there _ _ c.step_at-here.result c.in_default.not-Whole c.step_at-here.ensures in
    let h = c.records.invariant.0 in
    sym (rw (c.records.invariant.1 ∙ second_end _ c.records.i (over_nil _ _ _ h o), over_count _ _ _ h o))

pub returns-then-not-same_bytes : goal.returns-then-not-same_bytes
returns-then-not-same_bytes c =
    let bundle-of : List ℕ = c.args.hints.now.bundle.now in
    let lent : Rec = rec c.in-Whole.table (between c.in-Whole.start c.in-Whole.next (bundle-of)) in
    let found : Stands (bundle-of) c.records.at c.records.i c.in-Whole.table c.in-Whole.start c.in-Whole.next = stands _ _ _ c.records.invariant.0 c.step_at-here.ensures c.in-Whole.is in
    let transferor : other_transferor (records_of (bundle-of)) (lent) ≡ not c.same_bytes.result = compared (records_of (bundle-of)) (lent) c.same_bytes.ensures c.transferor.ensures c.first_transferor-transferor.ensures in
    as_found _ (c.records.invariant.1 ∙ other_fault _ c.records.i (lent) found.cons (transferor ∙ c.if-not-same_bytes.true-raw)) c.refuse.ensures

-- fewer than i records cannot be all
pub returns-in_default-there : goal.returns-in_default-there
returns-in_default-there c =
    let bundle-of : List ℕ = c.args.hints.now.bundle.now in
    let found : Stands (bundle-of) c.records.at c.records.i c.in-Whole.table c.in-Whole.start c.in-Whole.next = stands _ _ _ c.records.invariant.0 c.step_at-here.ensures c.in-Whole.is in
    let over = over_there _ _ c.step_at-there.result c.in_default-there.not-Whole c.step_at-there.ensures in
    absurd (omega (arith, over_count _ _ _ c.loop-j.invariant.0 over, found.below))

pub returns-then-clashes : goal.returns-then-clashes
unfolding earlier_of
returns-then-clashes c =
    let bundle-of : List ℕ = c.args.hints.now.bundle.now in
    let lent : Rec = rec c.in-Whole.table (between c.in-Whole.start c.in-Whole.next (bundle-of)) in
    let found : Stands (bundle-of) c.records.at c.records.i c.in-Whole.table c.in-Whole.start c.in-Whole.next = stands _ _ _ c.records.invariant.0 c.step_at-here.ensures c.in-Whole.is in
    let transferor : other_transferor (records_of (bundle-of)) (lent) ≡ not c.same_bytes.result = compared (records_of (bundle-of)) (lent) c.same_bytes.ensures c.transferor.ensures c.first_transferor-transferor.ensures in
    let found-2 : Stands (bundle-of) c.loop-j.p c.loop-j.j c.in-Whole-there.t c.in-Whole-there.s c.in-Whole-there.e = stands _ _ _ c.loop-j.invariant.0 c.step_at-there.ensures c.in-Whole-there.is in
    let clashing : c.clashes.result ≡ clash (lent) (get_or (records_of (bundle-of)) c.loop-j.j no_rec) = c.clashes.ensures ∙ rw found-2.at in
    let same_transferor : other_transferor (records_of (bundle-of)) (lent) ≡ false = transferor ∙ c.if-not-same_bytes.false-raw in
    let R = records_of (bundle-of) in
    let e : earlier_of R c.records.i (lent) ≡ c.loop-j.j = hit _ c.loop-j.j c.records.i c.loop-j.invariant.2 (sym (clashing) ∙ c.if-clashes.true) c.loop-j-test.true in
    let q = key_fault R c.records.i (lent) found.cons (same_transferor) (rw e c.loop-j-test.true) in
    as_found _ (c.records.invariant.1 ∙ q) (c.refuse-then-clashes.ensures ∙ rw e)

pub returns-in-Some : goal.returns-in-Some
unfolding earlier_of
returns-in-Some c =
    let bundle-of : List ℕ = c.args.hints.now.bundle.now in
    let lent : Rec = rec c.in-Whole.table (between c.in-Whole.start c.in-Whole.next (bundle-of)) in
    let found : Stands (bundle-of) c.records.at c.records.i c.in-Whole.table c.in-Whole.start c.in-Whole.next = stands _ _ _ c.records.invariant.0 c.step_at-here.ensures c.in-Whole.is in
    let transferor : other_transferor (records_of (bundle-of)) (lent) ≡ not c.same_bytes.result = compared (records_of (bundle-of)) (lent) c.same_bytes.ensures c.transferor.ensures c.first_transferor-transferor.ensures in
    let apart : earlier_of (records_of (bundle-of)) c.records.i (lent) ≡ c.records.i = let e : c.loop-j.j ≡ c.records.i = omega arith in
    rw e at c.loop-j.invariant.2 in
    let same_transferor : other_transferor (records_of (bundle-of)) (lent) ≡ false = transferor ∙ c.if-not-same_bytes.false-raw in
    let t = rw c.records.invariant.3 at c.in-Some.ensures.0 in
    let q = link_fault _ c.records.i (lent) found.cons (same_transferor) (omega (arith, apart)) t.0 in
    as_found _ (c.records.invariant.1 ∙ q) (c.refuse-in-Some.ensures ∙ ap (λ (l : Link). refuse LinkMissing c.records.i l.detail) (sym t.1))
