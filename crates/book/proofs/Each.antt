-- What holds of f 0, f 1, .., f (n - 1), one by one.
-- Assumes nothing.
use Rattle.std.proofs.Common.{◌≡◌, ℕ, Bool, map, refl, sym, ap, ◌∙◌}
use mathlib.Core.List.{List, [], ◌∷◌, map-append}
use Prim.Native.Nat.{zero, suc}
use Rattle.std.specs.List.{list_all, range_with_len}
use Rattle.std.proofs.lemmas.List.FromFn.{fill_by_all}
use Rattle.common.specs.Lists.{every, up_to}
use Rattle.common.proofs.Lists.{upto_length, upto_at}

-- what a function makes of each
pub mapped : {A B : Type 0} (g : A → B) (f : ℕ → A) (n : ℕ) → map g (up_to f n) ≡ up_to (λ k. g (f k)) n
unfolding up_to
mapped g f zero = refl
mapped g f (suc n) = rw (map-append g (up_to f n) (f n ∷ []), mapped g f n)

-- std's words for it, as a chain over a range says them
every_map : {A : Type 0} (p : A → Bool) (f : ℕ → A) (ks : List ℕ) → list_all (λ k. p (f k)) ks ≡ every p (map f ks)
unfolding every
every_map p f [] = refl
every_map p f (k ∷ ks) = rw (every_map p f ks)

pub all_in_range : {A : Type 0} (p : A → Bool) (f : ℕ → A) (n : ℕ) → list_all (λ k. p (f k)) (range_with_len 0 n) ≡ every p (up_to f n)
all_in_range p f n =
    every_map p f (range_with_len 0 n)
    ∙ sym (ap (every p) (fill_by_all f (up_to f n) n (f 0) (upto_length f n) (λ k l. upto_at f n k (f 0) l)))
