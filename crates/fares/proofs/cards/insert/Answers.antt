-- `fares::cards::insert` meets its contract. The loop's invariant: what stands in front is settled, and one is carried.
-- Assumes nothing.
use Prim.Native.Nat.{ℕ, ◌<◌}
use mathlib.Core.Path.{◌≡◌, ◌∙◌, ap}
use mathlib.Core.List.{List, ◌∷◌, ◌++◌, []}
use native.Mathlib.Omega.{arith}
use lib.ListN.{length, drop}
use lib.Seq.{take-append_seam}
use Rattle.std.specs.List.{refill}
use Rattle.std.proofs.lemmas.List.{set-get_or}
use Rattle.common.specs.Rising.{insert as inserted}
use Rattle.fares.specs.Helpers.{rank_in, no_step}
use Rattle.fares.specs.declared.cards.Step.{Step}
use Rattle.fares.proofs.LegCards.{carried_swapped, carried_on, carried_last}
use Rattle.fares.proofs.cards.insert.Goals as goal
use Rattle.fares.proofs.cards.insert.Goals.{then-carried-there, else-carried-there}

-- as many steps in the place of others are all that there are then
refilled : (n : ℕ) (xs ws : List Step) → length ws ≡ n → refill n xs ws ≡ ws
refilled n xs ws e = rw (← e) (take-append_seam ws (drop (length ws) xs))

pub loop-there-preserved : goal.loop-there-preserved
loop-there-preserved c =
    let steps = c.as_mut_slice-there-items.result.now in
    let k = c.loop-there.there-index in
    let row = c.loop-there.there-items in
    let inside : k < length row = omega (arith, c.loop-there-test.true, c.loop-there.auto.there-items) in
    elim c.if-carried-there.branch [
      | then-carried-there w ↦
          rw (w.there-items-is, w.carried-is, w.replace-carried.ensures.value, w.replace-carried.ensures.after) (carried_swapped steps c.args.step k row c.loop-there.carried c.loop-there.invariant inside w.if-carried-there.true)
      | else-carried-there w ↦
          rw (w.there-items-is, w.carried-is, set-get_or row k no_step) (carried_on steps c.args.step k row c.loop-there.carried c.loop-there.invariant inside w.if-carried-there.false)
    ]

pub returns : goal.returns
returns c =
    let steps = c.as_mut_slice-there-items.result.now in
    let row = c.loop-there.there-items in
    let e : row ++ (c.loop-there.carried ∷ []) ≡ inserted rank_in c.args.step steps =
    carried_last steps c.args.step c.loop-there.there-index row c.loop-there.carried c.loop-there.invariant (omega (arith, c.loop-there-test.false, c.loop-there.auto.there-items)) in
    let long : length row ≡ length c.args.row.now.items = c.loop-there.auto.there-items ∙ ap length c.as_mut_slice-there-items.ensures.value in
    c.push.ensures.items ∙ rw (refilled (length c.args.row.now.items) c.args.row.now.items row long, e, c.as_mut_slice-there-items.ensures.value)
