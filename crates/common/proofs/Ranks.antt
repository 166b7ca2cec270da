-- Laws of the number that a few bytes make: one byte more, the end, and how large it can be.
-- Assumes nothing.
use Rattle.std.proofs.Common.{◌≡◌, ℕ, ◌+◌, ◌*◌, ◌^◌, ◌<◌, ◌≤◌, List, length, get_or, drop, pow-suc, add-one, arith, drop_of_length-le, drop-cons}
use native.Mathlib.Nat.{pow-le-pow_right}
use Rattle.common.specs.Ranks.{rank_after, rank_limit}

pub rank_step : (v : ℕ) (s : List ℕ) (i : ℕ) → i < length s → rank_after v (drop i s) ≡ rank_after (v * 19 + get_or s i 0) (drop (i + 1) s)
unfolding rank_after
rank_step v s i h = rw (add-one, drop-cons s i 0 h)

pub rank_end : (v : ℕ) (s : List ℕ) (i : ℕ) → length s ≤ i → rank_after v (drop i s) ≡ v
unfolding rank_after
rank_end v s i h = rw (drop_of_length-le s h)

-- one byte more
pub rank_grows : (v i b : ℕ) → v + 15 ≤ 15 * 19 ^ i → b < 256 → v * 19 + b + 15 ≤ 15 * 19 ^ (i + 1)
rank_grows v i b h l = rw (add-one, pow-suc) (omega arith)

-- at most twelve bytes fit
pub rank_small : (v i : ℕ) → v + 15 ≤ 15 * 19 ^ i → i ≤ 12 → v < rank_limit
rank_small v i h l = let p : 19 ^ i ≤ 19 ^ 12 = pow-le-pow_right {n = 19} (omega arith) {i = i} {j = 12} l in omega arith
