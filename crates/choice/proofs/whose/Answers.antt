-- `choice::whose` meets its contract. Each test decides, or leaves the rest to those after it.
-- Assumes nothing.
use mathlib.Core.Path.{sym, ◌∙◌}
use mathlib.Core.Bool.{true, false}
use borrow.Author.Tests.{not-true, not-false}
use Rattle.layout.proofs.Tables.{differ, agree}
use Rattle.choice.proofs.WalkLaws.{by_table, by_offer, by_code, by_own, by_all}
use Rattle.choice.proofs.whose.Goals as goal

pub returns-then-ne : goal.returns-then-ne
returns-then-ne c = by_table _ _ (differ c.ne.ensures c.if-ne.true)

pub returns-then-offer_number-wanted : goal.returns-then-offer_number-wanted
returns-then-offer_number-wanted c = by_offer _ _ (agree c.ne.ensures c.if-ne.false) c.offer_number.ensures c.if-offer_number-wanted.true

pub returns-then-not-code_fits : goal.returns-then-not-code_fits
returns-then-not-code_fits c = by_code _ _ (agree c.ne.ensures c.if-ne.false) c.offer_number.ensures c.if-offer_number-wanted.false c.code_fits.ensures (not-true c.code_fits.result c.if-not-code_fits.true-raw)

pub returns-then-company_of-wanted : goal.returns-then-company_of-wanted
returns-then-company_of-wanted c = by_own _ _ (agree c.ne.ensures c.if-ne.false) c.offer_number.ensures c.if-offer_number-wanted.false c.code_fits.ensures (not-false c.code_fits.result c.if-not-code_fits.false-raw) (rw (← c.railway-railway.ensures) c.company_of.ensures) c.if-company_of-wanted.true

pub returns-then-is_all_railways : goal.returns-then-is_all_railways
returns-then-is_all_railways c = by_all _ _ (agree c.ne.ensures c.if-ne.false) c.offer_number.ensures c.if-offer_number-wanted.false c.code_fits.ensures (not-false c.code_fits.result c.if-not-code_fits.false-raw) (rw (← c.railway-railway.ensures) c.company_of.ensures) c.if-company_of-wanted.false {b = true} (sym c.if-is_all_railways.true ∙ rw (← c.railway-railway.ensures) c.is_all_railways.ensures)

pub returns : goal.returns
returns c = by_all _ _ (agree c.ne.ensures c.if-ne.false) c.offer_number.ensures c.if-offer_number-wanted.false c.code_fits.ensures (not-false c.code_fits.result c.if-not-code_fits.false-raw) (rw (← c.railway-railway.ensures) c.company_of.ensures) c.if-company_of-wanted.false {b = false} (sym c.if-is_all_railways.false ∙ rw (← c.railway-railway.ensures) c.is_all_railways.ensures)
