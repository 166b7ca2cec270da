-- `layout::fields::code_fits` meets its contract: the code stands where its span says.
-- Assumes nothing.
use mathlib.Core.Path.{sym, ◌∙◌, ap}
use lib.Dec.{eqb}
use Rattle.layout.proofs.Tables.{no_span_lem, a_span}
use Rattle.layout.proofs.fields.code_fits.Goals as goal

pub returns-then-span-eq0 : goal.returns-then-span-eq0
returns-then-span-eq0 g c =
    rw (← c.named.ensures, c.in-Ok.is) (no_span_lem _ _ _ (ap (λ s. s.1) (sym c.code_span-span.ensures) ∙ c.if-span-eq0.true))

pub returns : goal.returns
returns g c =
    let spanned = a_span _ _ _ (λ e. c.if-span-eq0.false (ap (λ x. x.1) c.code_span-span.ensures ∙ e)) in
    rw (← c.named.ensures, c.in-Ok.is) (ap (λ n. eqb n c.args.code) c.number_at.ensures ∙ rw c.code_span-span.ensures spanned)
