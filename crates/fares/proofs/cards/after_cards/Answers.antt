-- `fares::cards::after_cards` meets its contract.
-- Assumes nothing.
use Prim.Native.Nat.{ℕ, ◌≤◌, ◌<◌}
use mathlib.Core.Path.{◌≡◌, sym, ◌∙◌}
use mathlib.Core.List.{List}
use native.Mathlib.Omega.{arith}
use lib.ListN.{length, get_or}
use borrow.Author.Tests.{eqb-true}
use Rattle.bundle.specs.Helpers.{body_at}
use Rattle.fares.specs.Cards.{together_of}
use Rattle.fares.specs.Helpers.{bodies_at}
use Rattle.fares.proofs.LegCards.{card_bodies_long, card_body_at, no_bodies, one_body, some_by, none_applies, one_choice, all_alone, some_together, row_count_lem, row_grants, row_fits}
use Rattle.fares.proofs.cards.after_cards.Goals as goal

pub returns-then-is_empty : goal.returns-then-is_empty
returns-then-is_empty c =
    let a = c.args in
    none_applies a.amount (bodies_at a.bundle.now a.places.now) (no_bodies a.bundle.now a.places.now (eqb-true _ 0 (sym c.is_empty.ensures ∙ c.if-is_empty.true)))

pub returns-then-places-eq1 : goal.returns-then-places-eq1
returns-then-places-eq1 c =
    let a = c.args in
    c.after_alone-alone.ensures ∙ rw (one_body a.bundle.now a.places.now c.if-places-eq1.true, c.body_at.ensures) (sym (one_choice a.amount (body_at a.bundle.now (get_or a.places.now 0 0))))

pub returns-then-is_empty-2 : goal.returns-then-is_empty-2
returns-then-is_empty-2 c =
    let a = c.args in
    let ars : List (List ℕ) = bodies_at a.bundle.now a.places.now in
    let k : 0 < length a.places.now = some_by _ (sym c.is_empty.ensures ∙ c.if-is_empty.false) in
    let row = c.together-row.result.items in
    let none : length row ≡ 0 = eqb-true _ 0 (sym c.is_empty-2.ensures ∙ c.if-is_empty-2.true) in
    let e : length (together_of ars) ≡ 0 = sym (row_count_lem a.amount ars c.together-row.ensures) ∙ none in
    c.least_alone.ensures
    ∙ rw (c.after_alone-alone.ensures, c.body_at.ensures, ← card_body_at a.bundle.now a.places.now 0 k) (all_alone a.amount ars e (omega (arith, k, card_bodies_long a.bundle.now a.places.now)))

pub after_row-requires : goal.after_row-requires
after_row-requires c =
    let a = c.args in
    let ars : List (List ℕ) = bodies_at a.bundle.now a.places.now in
    let few : length ars ≤ 4 = omega (arith, card_bodies_long a.bundle.now a.places.now, c.requires.0) in (
      omega (arith, c.as_slice.ensures.fits),
      c.requires.1,
      rw c.as_slice.ensures.value (row_fits a.amount ars c.together-row.ensures),
    )

pub returns : goal.returns
returns c =
    let a = c.args in
    let ars : List (List ℕ) = bodies_at a.bundle.now a.places.now in
    let e = c.together-row.ensures in
    let some : 0 < length c.together-row.result.items = some_by _ (sym c.is_empty-2.ensures ∙ c.if-is_empty-2.false) in
    c.least_alone-2.ensures
    ∙ rw (c.after_row.ensures, c.as_slice.ensures.value, row_grants a.amount ars e) (some_together a.amount ars (omega (arith, some, row_count_lem a.amount ars e)))
