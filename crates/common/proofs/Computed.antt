-- EVERY FIGURE of the list holds: antt computes each.
-- Assumes nothing.
use Rattle.std.proofs.Common.{refl}
use mathlib.Core.List.{Memᴰ}
use Rattle.common.specs.CheckDigit.{sum_from, check_digit, is_right, last_digits}
use Rattle.common.specs.Figures.{Figure, Says, figures}
use Rattle.common.proofs.Listed.{each}

pub check_digit_figures_hold : (x : Figure) → Memᴰ x figures → Says x
unfolding sum_from check_digit is_right last_digits
check_digit_figures_hold = each Says figures (refl, (refl, (refl, (refl, (refl, (refl, (refl, (refl, (refl, (refl, (refl, (refl, (refl, (refl, (refl, (refl, tt))))))))))))))))
