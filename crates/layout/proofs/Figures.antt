-- Every figure of the layout's list holds of the definitions.
-- Assumes nothing.
use Prim.Native.Nat.{ℕ}
use mathlib.Core.Path.{refl}
use mathlib.Core.List.{List, [], ◌∷◌, Memᴰ}
use lib.ListN.{drop}
use Rattle.common.specs.Lists.{every, any, sum, same, up_to}
use Rattle.common.specs.Digits.{digits_after, number_of}
use Rattle.common.proofs.Listed.{All, each}
use Rattle.common.proofs.Lists.{same_is, is_same}
use Rattle.common.proofs.Tests.{both_true}
use Rattle.layout.specs.Layout.{RE, AR, table_at, end_of, length_of}
use Rattle.layout.specs.Fields.{row_with, row_of, bytes_of, number_in, offer_of, railway_of, code_of, same_key, day_row, has_period, first_day, last_day, holds_day}
use Rattle.layout.specs.Dates.{month_lengths, month_length}
use Rattle.layout.specs.Figures.{Figure, Alike, Says, figures, in_a_row, in_runs}
use Rattle.layout.proofs.Meanings.{◌means◌, between, both}

-- parts that are the same in two records
alike_means : (parts : List (List ℕ → List ℕ)) (a b : List ℕ) → every (λ part. same (part a) (part b)) parts means Alike parts a b
unfolding every
alike_means [] a b = (λ e. tt, λ u. refl)
alike_means (part ∷ parts) a b =
    let f = alike_means parts a b in (
      λ e. let h = both_true (same (part a) (part b)) _ e in (same_is _ _ h.0, f.0 h.1),
      λ w. both _ _ (is_same _ _ w.0) (f.1 w.1),
    )

-- THE FIGURES, each of which antt computes: of letters and digits, of the calendar, of periods, of keys, and of marks, lengths, fields and codes.
of_bytes : All Says (drop 27 figures)
unfolding number_of digits_after
of_bytes = (refl, (refl, (refl, (refl, (refl, (refl, (refl, (refl, tt))))))))

of_calendar : All Says (drop 24 figures)
unfolding sum up_to month_lengths month_length
of_calendar = (refl, (refl, (refl, of_bytes)))

of_periods : All Says (drop 20 figures)
unfolding table_at any row_with bytes_of row_of number_in day_row has_period first_day last_day holds_day
of_periods =
    (λ body. (refl, refl, λ d. between _ d _), (λ body. (refl, refl, λ d. between _ d _), (λ body. (refl, refl, λ d. between _ d _), (λ body. (refl, refl, λ d. between _ d _), of_calendar))))

of_keys : All Says (drop 16 figures)
unfolding table_at every same row_with row_of bytes_of offer_of railway_of code_of same_key
of_keys =
    let of_offers_lem = alike_means (offer_of ∷ railway_of ∷ []) in
    (of_offers_lem, (of_offers_lem, (alike_means (code_of RE ∷ []), (alike_means (offer_of ∷ railway_of ∷ code_of AR ∷ []), of_periods))))

of_codes : All Says (drop 12 figures)
unfolding table_at row_with row_of bytes_of code_of
of_codes = (λ body. refl, (λ body. refl, (λ body. refl, (λ body. refl, of_keys))))

pub layout_figures_hold : (x : Figure) → Memᴰ x figures → Says x
unfolding table_at end_of length_of in_a_row in_runs sum
layout_figures_hold = each Says figures (refl, (refl, (refl, (refl, (refl, (refl, (refl, (refl, (refl, (refl, (refl, (refl, of_codes))))))))))))
