-- What C gets, in figures: each value of a reply is that of its name, for a refusal and for an answer.
-- Assumes nothing.
use Rattle.std.specs.Prelude.{ℕ, ◌≡◌, List, [], ◌∷◌, replicate, Ok, Err}
use Rattle.common.specs.declared.reasons.Reason.TheVariants.{SaleUnknown}
use Rattle.common.specs.Checks.{refuse}
use Rattle.offers.specs.Answers.{Told, answers, refuses, booked, already_booked}
use Rattle.fares.specs.Samples.{leg, ticket}
use Rattle.fares.specs.declared.Question.{Question}
use Rattle.book.specs.declared.status.Status.TheVariants.{Cancelled}
use Rattle.sales.specs.declared.Booking.{Booking}
use Rattle.edge.specs.Replies.{judgement_reply, quote_reply, receipt_reply, sum_reply, tally_reply, no_question, booking_reply}

-- a refusal by 7 at record 5, detail 3, with so many values; the parts of two legs
abbrev pub refused : ℕ → Told
refused values = refuses 7 5 3 (replicate values 0)

abbrev pub parts : List ℕ
parts = 2274 ∷ 1500 ∷ 0 ∷ 0 ∷ 0 ∷ 0 ∷ 0 ∷ 0 ∷ []

-- a sale of till 7, its twelfth, at entry 3, cancelled
abbrev pub asked : Question
asked = ticket 3 [] 2 (leg 1185 1010 ∷ leg 1181 500 ∷ [])

abbrev pub sold : Booking
sold = record { entry = 3; till = 7; sequence = 12; question = asked; parts = parts; status = Cancelled }

pub record Replies : Type 0 where
  pub no_verdict : judgement_reply (refused 1) ≡ record { number = 7; place = 5; detail = 3; records = 0 }
  pub verdict : judgement_reply (answers (10 ∷ [])) ≡ record { number = 0; place = 0; detail = 0; records = 10 }
  pub no_fare_told : quote_reply (refused 9) ≡ record { number = 7; place = 5; detail = 3; fare = 0; parts = replicate 8 0 }
  pub fare : quote_reply (answers (3774 ∷ parts)) ≡ record { number = 0; place = 0; detail = 0; fare = 3774; parts = parts }
  pub no_receipt_told : receipt_reply (refused 10) ≡ record { number = 7; place = 5; detail = 3; outcome = 0; cancelled = 0; parts = replicate 8 0 }
  pub receipt : receipt_reply (answers (booked ∷ 0 ∷ parts)) ≡ record { number = 0; place = 0; detail = 0; outcome = 1; cancelled = 0; parts = parts }
  pub late_receipt : receipt_reply (answers (already_booked ∷ 1 ∷ parts)) ≡ record { number = 0; place = 0; detail = 0; outcome = 2; cancelled = 1; parts = parts }
  pub no_sum : sum_reply (refused 1) ≡ record { number = 7; place = 5; detail = 3; amount = 0 }
  pub sum : sum_reply (answers (3774 ∷ [])) ≡ record { number = 0; place = 0; detail = 0; amount = 3774 }
  pub no_tally : tally_reply (refused 1) ≡ record { number = 7; place = 5; detail = 3; entries = 0 }
  pub tally : tally_reply (answers (2 ∷ [])) ≡ record { number = 0; place = 0; detail = 0; entries = 2 }
  pub no_booking_told : booking_reply (Err (refuse SaleUnknown 0 0))
      ≡ record { number = 25; place = 0; detail = 0; entry = 0; sequence = 0; till = 0; status = 0; question = no_question; parts = replicate 8 0 }
  pub booking : booking_reply (Ok sold) ≡ record { number = 0; place = 0; detail = 0; entry = 3; sequence = 12; till = 7; status = 1; question = asked; parts = parts }
