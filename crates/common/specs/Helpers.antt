-- What private functions of this crate compute on their way: nothing that a reader must believe stands here, as no contract of a public function cites it.
-- Assumes nothing.
use Rattle.std.specs.Prelude.{ℕ, ◌+◌, ◌*◌, List, slice_index}

-- four bytes as one number
abbrev pub four_bytes : ℕ → ℕ → ℕ → ℕ → ℕ
four_bytes lowest low high highest = lowest + low * 256 + high * 65536 + highest * 16777216

-- those from a place on, counted from 0
abbrev pub four_at : ℕ → List ℕ → ℕ
four_at i s = four_bytes (slice_index s i) (slice_index s (i + 1)) (slice_index s (i + 2)) (slice_index s (i + 3))
