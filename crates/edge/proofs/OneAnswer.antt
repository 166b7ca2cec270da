-- No second reply meets the contract of a call for C, and no second book that of a sale or a cancellation.
-- Assumes nothing.
use mathlib.Core.Path.{sym, ◌∙◌}
use Rattle.common.specs.OneAnswer.{OneAnswer, OneBook}
use Rattle.edge.proofs.offers_verdict.Kinds as verdict
use Rattle.edge.proofs.offers_verdict.Reads as of-verdict
use Rattle.edge.proofs.offers_fare.Kinds as fare
use Rattle.edge.proofs.offers_fare.Reads as of-fare
use Rattle.edge.proofs.offers_sale.Kinds as sale
use Rattle.edge.proofs.offers_sale.Reads as of-sale
use Rattle.edge.proofs.offers_cancel.Kinds as cancel
use Rattle.edge.proofs.offers_cancel.Reads as of-cancel
use Rattle.edge.proofs.offers_balance.Kinds as balance
use Rattle.edge.proofs.offers_balance.Reads as of-balance
use Rattle.edge.proofs.offers_total.Kinds as total
use Rattle.edge.proofs.offers_total.Reads as of-total
use Rattle.edge.proofs.offers_count.Kinds as count
use Rattle.edge.proofs.offers_count.Reads as of-count
use Rattle.edge.proofs.offers_entry.Kinds as entry
use Rattle.edge.proofs.offers_entry.Reads as of_entry
use Rattle.edge.proofs.offers_find.Kinds as find
use Rattle.edge.proofs.offers_find.Reads as of-find

pub one_verdict : OneAnswer 1 verdict.ps verdict.r of-verdict.Post
one_verdict κs a x y u v e f = e ∙ sym f

pub one_fare : OneAnswer 1 fare.ps fare.r of-fare.Post
one_fare κs a x y u v e f = e ∙ sym f

pub one_sale : OneAnswer 2 sale.ps sale.r of-sale.Post
one_sale κs a x y u v e f = e.0 ∙ sym f.0

pub one_book_after_a_sale : OneBook 2 sale.ps sale.r (λ κs u. u.0.now) of-sale.Post
one_book_after_a_sale κs a x y u v e f = e.1 ∙ sym f.1

pub one_cancellation : OneAnswer 1 cancel.ps cancel.r of-cancel.Post
one_cancellation κs a x y u v e f = e.0 ∙ sym f.0

pub one_book_after_a_cancellation : OneBook 1 cancel.ps cancel.r (λ κs u. u.0.now) of-cancel.Post
one_book_after_a_cancellation κs a x y u v e f = e.1 ∙ sym f.1

pub one_balance : OneAnswer 1 balance.ps balance.r of-balance.Post
one_balance κs a x y u v e f = e ∙ sym f

pub one_total : OneAnswer 1 total.ps total.r of-total.Post
one_total κs a x y u v e f = e ∙ sym f

pub one_count : OneAnswer 1 count.ps count.r of-count.Post
one_count κs a x y u v e f = e ∙ sym f

pub one_entry : OneAnswer 1 entry.ps entry.r of_entry.Post
one_entry κs a x y u v e f = e ∙ sym f

pub one_find : OneAnswer 1 find.ps find.r of-find.Post
one_find κs a x y u v e f = e ∙ sym f
