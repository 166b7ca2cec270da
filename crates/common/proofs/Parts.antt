-- Parts of a list that a slice is cut into.
-- Assumes nothing.
use Rattle.std.proofs.Common.{◌≡◌, ℕ, zero, suc, ◌+◌, ◌-◌, ◌≤◌, List, [], ◌∷◌, length, take, drop, zero-add, arith, length-drop, take_all}
use lib.Seq.{take-nil}

-- what is taken past the end is the rest
pub rest_taken : {A : Type 0} (s : List A) (at len : ℕ) → length s - at ≤ len → take len (drop at s) ≡ drop at s
rest_taken s at len h = take_all len (drop at s) (rw length-drop h)

-- the rest of a part is a part
pub part_rest : {A : Type 0} (k m : ℕ) (s : List A) → drop k (take (k + m) s) ≡ take m (drop k s)
part_rest zero m s = rw zero-add
part_rest (suc k) m [] = rw (take-nil (suc k + m), take-nil m)
part_rest (suc k) m (x ∷ s) = let e : suc k + m ≡ suc (k + m) = omega arith in rw e (part_rest k m s)
