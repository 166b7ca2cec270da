-- `bundle::walk::is_mark` meets its contract: two bytes are compared as one number.
-- Assumes nothing.
use Prim.Native.Nat.{◌≤◌}
use mathlib.Core.Path.{◌≡◌, sym}
use native.Mathlib.Nat.{add-zero}
use native.Mathlib.Omega.{arith}
use lib.ListN.{length, get_or, drop, length-drop}
use lib.Seq.{get_or-drop}
use Rattle.bundle.proofs.Steps.{mark_number, mark_short}
use Rattle.bundle.proofs.walk.is_mark.Goals as goal

pub returns-then-n-lt2 : goal.returns-then-n-lt2
returns-then-n-lt2 c =
    let a = c.args in sym (mark_short _ _ _ (rw length-drop (omega arith)))

pub returns-then-n-at : goal.returns-then-n-at
returns-then-n-at c =
    let a = c.args in sym (mark_short _ _ _ (rw length-drop (omega arith)))

pub returns : goal.returns
returns c =
    let a = c.args in
    let m = a.mark.now in
    let s = a.bundle.now in
    let x : get_or (drop a.at s) 0 0 ≡ get_or s a.at 0 = rw add-zero at (get_or-drop a.at s 0 0) in
    let y = get_or-drop a.at s 1 0 in
    let l : 2 ≤ length (drop a.at s) = rw length-drop (omega arith) in
    rw (c.two.ensures.0, c.two-2.ensures.0, ← x, ← y)
    (sym (mark_number (get_or m 0 0) (get_or m 1 0) (drop a.at s) l (rw x c.two.ensures.1) c.two-2.ensures.1))
