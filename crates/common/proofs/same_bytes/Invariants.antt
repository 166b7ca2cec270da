-- `common::same_bytes` meets its contract. The invariant of both loops: the bytes passed are the same.
-- Assumes nothing.
use Rattle.std.proofs.Common.{◌≡◌, ℕ, ◌-◌, ◌<◌, ◌≤◌, List, length, get_or}
use Rattle.common.proofs.same_bytes.Given as goal

abbrev pub SameBelow : List ℕ → List ℕ → ℕ → Type 0
SameBelow a b i = (i ≤ length a) × (length a ≡ length b) × ((k : ℕ) → k < i → get_or a k 0 ≡ get_or b k 0)

abbrev pub invariant-loop-i : goal.invariant-loop-i
invariant-loop-i l = SameBelow l.a l.b l.i

abbrev pub decreases-loop-i : goal.decreases-loop-i
decreases-loop-i l = length l.a - l.i

abbrev pub invariant-loop-k : goal.invariant-loop-k
invariant-loop-k l = SameBelow l.a l.b l.k
