-- Short names that contracts of inner functions and proofs use. Nothing here has to be believed: no contract of the engine's calls and no promise reaches it.
-- Assumes nothing.
use Rattle.std.specs.Prelude.{ℕ, ◌+◌, ◌*◌, ◌≤◌, ◌<◌, Bool, true, ◌&&◌, List, Option, Some, None, eqb, get_or, take, drop}
use Rattle.std.specs.List.{list_all, range_with_len}
use Rattle.common.specs.Lists.{every}
use Rattle.book.specs.Words.{Entry, no_entry, pairs_at, more_pairs_at, more_pairs_width, railway_at, third_at, fourth_at}
use Rattle.book.specs.Sound.{is_zero}
use Rattle.book.specs.Amounts.{of_railway, of_all}

-- A SALE NUMBER AS ONE NUMBER: by till, and then by sequence, which is below 4,294,967,296. One that ranks above all earlier ones repeats none of them.
abbrev pub rank_of : Entry → ℕ
rank_of e = e.till * 4294967296 + e.sequence

-- no entry before i ranks above a number
abbrev pub RanksUpTo : List Entry → ℕ → ℕ → Type 0
RanksUpTo es i top = (j : ℕ) → j < i → rank_of (get_or es j no_entry) ≤ top

-- WHAT A QUESTION OF n LEGS DOES NOT USE among its words is zero: two words of each leg, the category, further pairs, and the legs from n on
abbrev pub leg_clear : List ℕ → ℕ → Bool
leg_clear ws j = is_zero (get_or ws (third_at j) 0) && is_zero (get_or ws (fourth_at j) 0)

abbrev pub legs_clear : List ℕ → ℕ → Bool
legs_clear ws n = list_all (leg_clear ws) (range_with_len 0 n)

unfoldable pub unused_zero : List ℕ → ℕ → Bool
unused_zero ws n =
    is_zero (get_or ws pairs_at 0)
    && every is_zero (take more_pairs_width (drop more_pairs_at ws))
    && every is_zero (drop (railway_at n) ws)
    && legs_clear ws n

-- WHAT COUNTS for a railway, and for all where none is named
abbrev pub counts_for : Option ℕ → ℕ → Bool
counts_for None leg = true
counts_for (Some railway) leg = eqb leg railway

abbrev pub counted : Option ℕ → List ℕ → List ℕ → ℕ
counted None asked parts = of_all asked parts
counted (Some railway) asked parts = of_railway railway asked parts
