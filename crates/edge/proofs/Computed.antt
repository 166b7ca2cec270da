-- WHAT C GETS is computed.
-- Assumes nothing.
use Prim.Native.Nat.{ℕ}
use mathlib.Core.Path.{◌≡◌, refl}
use mathlib.Core.List.{List}
use Rattle.std.specs.Prelude.{Err}
use Rattle.common.specs.declared.reasons.Reason.TheVariants.{LinkMissing}
use Rattle.common.specs.Checks.{refuse}
use Rattle.offers.specs.Answers.{tells_values}
use Rattle.edge.specs.Replies.{judgement_reply, quote_reply, receipt_reply, sum_reply, tally_reply, booking_reply}
use Rattle.edge.specs.Figures.{refused, Replies}

pub what_c_gets : Replies
unfolding judgement_reply quote_reply receipt_reply sum_reply tally_reply booking_reply
what_c_gets =
    record {
      no_verdict = refl;
      verdict = refl;
      no_fare_told = refl;
      fare = refl;
      no_receipt_told = refl;
      receipt = refl;
      late_receipt = refl;
      no_sum = refl;
      sum = refl;
      no_tally = refl;
      tally = refl;
      no_booking_told = refl;
      booking = refl;
    }

-- and the refusal in these figures is told of a missing link
pub a_missing_link_is_told : {A : Type 0} (n : ℕ) (values : A → List ℕ) → tells_values n values (Err (refuse LinkMissing 5 3)) ≡ refused n
unfolding tells_values
a_missing_link_is_told n values = refl
