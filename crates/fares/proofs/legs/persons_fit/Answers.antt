-- `fares::legs::persons_fit` meets its contract.
-- Assumes nothing.
use mathlib.Core.Bool.{true}
use mathlib.Core.Path.{◌≡◌}
use lib.Dec.{leb}
use borrow.Author.Tests.{le-leb, lt-leb, eq-eqb, ne_eqb}
use Rattle.layout.specs.Layout.{CO}
use Rattle.layout.specs.Fields.{number_in}
use Rattle.fares.specs.Legs.{persons_fit}
use Rattle.fares.proofs.legs.persons_fit.Goals as goal

pub returns-then-persons-least_persons : goal.returns-then-persons-least_persons
unfolding persons_fit
returns-then-persons-least_persons c = rw (← c.least_persons.ensures, lt-leb _ _ c.if-persons-least_persons.true)

pub returns-then-most-eq0 : goal.returns-then-most-eq0
unfolding persons_fit
returns-then-most-eq0 c =
    let enough : let a = c.args in leb (number_in CO 28 a.co.now) a.persons ≡ true = rw (← c.least_persons.ensures) (le-leb _ _ c.if-persons-least_persons.false) in
    rw (enough, ← c.most_persons-most.ensures, eq-eqb _ _ c.if-most-eq0.true)

pub returns : goal.returns
unfolding persons_fit
returns c =
    let enough : let a = c.args in leb (number_in CO 28 a.co.now) a.persons ≡ true = rw (← c.least_persons.ensures) (le-leb _ _ c.if-persons-least_persons.false) in
    rw (enough, ← c.most_persons-most.ensures, ne_eqb _ _ c.if-most-eq0.false)
