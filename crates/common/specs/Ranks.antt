-- One number for a few bytes, by which searches are cut short. Nothing here has to be believed: no promise and no answer of a call is stated with it.
-- Assumes nothing.
use Rattle.std.specs.Prelude.{ℕ, ◌+◌, ◌*◌, cond, List, [], ◌∷◌, length, nat_lt}

-- the number that the bytes make after those that made v
unfoldable pub rank_after : ℕ → List ℕ → ℕ
rank_after v [] = v
rank_after v (b ∷ bs) = rank_after (v * 19 + b) bs

-- the number of at most twelve bytes
unfoldable pub rank_of : List ℕ → ℕ
rank_of s = cond (nat_lt 12 (length s)) 0 (rank_after 0 s)

-- it is below this
abbrev pub rank_limit : ℕ
rank_limit = 36028797018963968
