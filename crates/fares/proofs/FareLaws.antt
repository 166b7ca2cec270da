-- What the limits of a question say of the numbers that are computed with, and what comes before the price.
-- Assumes nothing.
use Prim.Native.Nat.{ℕ, ◌*◌, ◌≤◌, ◌<◌}
use mathlib.Core.Path.{◌≡◌}
use mathlib.Core.Bool.{true}
use mathlib.Core.List.{List, map}
use native.Mathlib.Nat.{le_trans}
use native.Mathlib.Omega.{arith}
use lib.ListN.{length, get_or, take}
use Rattle.std.specs.Prelude.{Ok, Err}
use Rattle.common.specs.Lists.{sum}
use Rattle.common.specs.Checks.{first_fault}
use Rattle.common.specs.declared.Refusal.{Refusal}
use Rattle.common.proofs.Lists.{first_length, first_at}
use Rattle.common.proofs.Checks.{fault_append}
use Rattle.common.proofs.Sums.{sum_small}
use Rattle.bundle.specs.Records.{Rec, records_of}
use Rattle.bundle.specs.Verdict.{checks, verdict_of}
use Rattle.bundle.proofs.PassLaws.{is_fault, is_clean_lem}
use Rattle.fares.specs.Question.{no_leg, legs_of, cards_of, in_limits}
use Rattle.fares.specs.Reductions.{part_bound, greatest_part}
use Rattle.fares.specs.Legs.{part_of}
use Rattle.fares.specs.Fare.{price_checks, fare_checks, fare_of}
use Rattle.fares.specs.Helpers.{price_of}
use Rattle.fares.specs.declared.Question.{Question}
use Rattle.fares.proofs.QuestionLimits.{limits_mean}
use Rattle.fares.proofs.LegLaws.{bound_most, leg_small}

-- what the limits say of the numbers that are computed with
pub record Asked (q : Question) : Type 0 where
  pub persons : q.persons ≤ 99
  pub few : q.count ≤ 8
  pub fares : (k : ℕ) → k < length (legs_of q) → (get_or (legs_of q) k no_leg).fare ≤ 999999

pub asked : (q : Question) → in_limits q ≡ true → Asked q
asked q e =
    let h = limits_mean q e in
    record {
      persons = h.persons.1;
      few = h.count.1;
      fares = λ k l.
          let m : k < q.count = omega (arith, first_length no_leg q.count q.legs) in
          rw (first_at no_leg q.count q.legs k m) (h.legs k m).fare;
    }

-- the parts are small
module _ (R : List Rec) (q : Question) (a : Asked q) where
  pub part_small : (k : ℕ) → k < length (legs_of q) → part_of R q (get_or (legs_of q) k no_leg) ≤ part_bound (length (cards_of q))
  part_small k l = leg_small R q (get_or (legs_of q) k no_leg) (a.fares k l) a.persons

  pub sum_of_parts : (k : ℕ) → k ≤ length (legs_of q) → sum (map (part_of R q) (take k (legs_of q))) ≤ k * greatest_part
  sum_of_parts k l = sum_small (part_of R q) (legs_of q) no_leg greatest_part k l (λ j h. le_trans (part_small j (omega arith)) (bound_most q))

-- the verdict comes first
module _ (s : List ℕ) (q : Question) where
  pub verdict_first : (r : Refusal) → verdict_of s ≡ Err r → fare_of s q ≡ Err r
  unfolding fare_of fare_checks verdict_of
  verdict_first r e =
      let f = is_fault (first_fault (checks s)) (length (records_of s)) r e in
      rw (fault_append (checks s) (price_checks (records_of s) q), f)

  pub then_the_price : (n : ℕ) → verdict_of s ≡ Ok n → fare_of s q ≡ price_of (records_of s) q
  unfolding fare_of fare_checks verdict_of price_of
  then_the_price n e =
      let f = (is_clean_lem (first_fault (checks s)) (length (records_of s)) n e).0 in
      rw (fault_append (checks s) (price_checks (records_of s) q), f)
