-- The structs that C gets for an answer: number, place and detail, and the values in their order.
-- Assumes nothing.
use Rattle.std.specs.Prelude.{ℕ, List, get_or, drop, replicate, Result, Ok, Err}
use Rattle.common.specs.Reasons.{number_of_reason}
use Rattle.common.specs.declared.Refusal.{Refusal}
use Rattle.offers.specs.Answers.{Told, answers, refuses}
use Rattle.book.specs.Status.{number_of_status}
use Rattle.sales.specs.declared.Booking.{Booking}
use Rattle.fares.specs.Question.{no_leg}
use Rattle.fares.specs.declared.Question.{Question}
use Rattle.edge.specs.declared.BookingReply.{BookingReply}
use Rattle.edge.specs.declared.JudgementReply.{JudgementReply}
use Rattle.edge.specs.declared.QuoteReply.{QuoteReply}
use Rattle.edge.specs.declared.ReceiptReply.{ReceiptReply}
use Rattle.edge.specs.declared.SumReply.{SumReply}
use Rattle.edge.specs.declared.TallyReply.{TallyReply}

-- number, place and detail of the refusal that is told; 0 stands for none, as those of the table start at 1
abbrev pub number_in : Told → ℕ
number_in (answers vs) = 0
number_in (refuses number place detail vs) = number

abbrev pub place_in : Told → ℕ
place_in (answers vs) = 0
place_in (refuses number place detail vs) = place

abbrev pub detail_in : Told → ℕ
detail_in (answers vs) = 0
detail_in (refuses number place detail vs) = detail

abbrev pub values_of : Told → List ℕ
values_of (answers vs) = vs
values_of (refuses number place detail vs) = vs

abbrev pub value_at : ℕ → Told → ℕ
value_at i t = get_or (values_of t) i 0

unfoldable pub judgement_reply : Told → JudgementReply
judgement_reply t = record {
  number = number_in t;
  place = place_in t;
  detail = detail_in t;
  records = value_at 0 t;
}

unfoldable pub quote_reply : Told → QuoteReply
quote_reply t = record {
  number = number_in t;
  place = place_in t;
  detail = detail_in t;
  fare = value_at 0 t;
  parts = drop 1 (values_of t);
}

unfoldable pub receipt_reply : Told → ReceiptReply
receipt_reply t = record {
  number = number_in t;
  place = place_in t;
  detail = detail_in t;
  outcome = value_at 0 t;
  cancelled = value_at 1 t;
  parts = drop 2 (values_of t);
}

unfoldable pub sum_reply : Told → SumReply
sum_reply t = record {
  number = number_in t;
  place = place_in t;
  detail = detail_in t;
  amount = value_at 0 t;
}

unfoldable pub tally_reply : Told → TallyReply
tally_reply t = record {
  number = number_in t;
  place = place_in t;
  detail = detail_in t;
  entries = value_at 0 t;
}

-- A sale that is read is told by its fields, as the question is a struct in it; a refusal has every value zero.
abbrev pub no_question : Question
no_question = record { offer = 0; day = 0; persons = 0; cards = replicate 4 0; count = 0; legs = replicate 8 no_leg }

unfoldable pub booking_reply : Result Booking Refusal → BookingReply
booking_reply (Ok b) = record {
  number = 0;
  place = 0;
  detail = 0;
  entry = b.entry;
  sequence = b.sequence;
  till = b.till;
  status = number_of_status b.status;
  question = b.question;
  parts = b.parts;
}
booking_reply (Err why) = record {
  number = number_of_reason why.reason;
  place = why.place;
  detail = why.detail;
  entry = 0;
  sequence = 0;
  till = 0;
  status = 0;
  question = no_question;
  parts = replicate 8 0;
}
