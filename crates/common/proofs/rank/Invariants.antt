-- `common::rank` meets its contract. The loop's invariant: the bytes passed make v, which is no larger than so many bytes can make it.
-- Assumes nothing.
use Rattle.std.proofs.Common.{◌≡◌, ◌+◌, ◌*◌, ◌^◌, ◌≤◌, length, drop}
use Rattle.common.specs.Ranks.{rank_after, rank_of}
use Rattle.common.proofs.rank.Given as goal

abbrev pub invariant-loop-b : goal.invariant-loop-b
invariant-loop-b l = (length l.s ≤ 12) × (l.v + 15 ≤ 15 * 19 ^ l.b-index) × (rank_of l.s ≡ rank_after l.v (drop l.b-index l.s))
