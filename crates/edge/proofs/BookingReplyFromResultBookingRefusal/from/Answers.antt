-- `edge::BookingReplyFromResultBookingRefusal::from` meets its contract, case by case.
-- Assumes nothing.
use Rattle.edge.specs.Replies.{booking_reply}
use Rattle.edge.proofs.BookingReplyFromResultBookingRefusal.from.Goals as goal

pub returns-in-Ok : goal.returns-in-Ok
unfolding booking_reply
returns-in-Ok c = rw (c.in-Ok.is, c.into.ensures)

pub returns-in-Err : goal.returns-in-Err
unfolding booking_reply
returns-in-Err c = rw (c.in-Err.is, c.from.ensures)
