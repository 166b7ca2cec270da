-- THE ORDER OF THE CARDS has no effect on a fare: what applies, what is permitted and what it leaves go by the cards and not by their slots.
-- Assumes nothing.
use Prim.Native.Nat.{ℕ}
use mathlib.Core.Path.{◌∙◌}
use mathlib.Core.List.{List}
use Rattle.bundle.specs.Records.{Rec}
use Rattle.fares.specs.Meaning.{with_cards, SameCards, InLimits, CardsDiffer, Applies, AppliesWith, AllTogether, Permitted, together, alone, After, done, then, AfterCards, none_applies, least, LegFare, IsFare}
use Rattle.fares.specs.declared.Leg.{Leg}
use Rattle.fares.specs.declared.Question.{Question}

-- of two questions that differ in their cards alone
module _ (R : List Rec) (q : Question) (leg : Leg) (before after : List ℕ) (s : SameCards before after) (co : List ℕ) where
  abbrev here : Question
  here = with_cards q before

  abbrev there : Question
  there = with_cards q after

  applies : {i : ℕ} → Applies R here leg co i → Applies R there leg co i
  applies a =
      let k = s a.slot a.inside a.given in
      record {
        allowed = a.allowed;
        slot = k.0;
        inside = k.1;
        given = λ e. a.given (k.2 ∙ e);
        is_card = rw (← k.2) a.is_card;
      }

  applies_with : {flag i : ℕ} → AppliesWith R here leg co flag i → AppliesWith R there leg co flag i
  applies_with a = record { applies = applies a.applies; says = a.says }

  left : {is : List ℕ} {amount last : ℕ} → After R here leg is amount last → After R there leg is amount last
  left done = done
  left (then r a) = then r (left a)

module _ (R : List Rec) (q : Question) (leg : Leg) (before after : List ℕ) (s : SameCards before after) (t : SameCards after before) (co : List ℕ) where
  all_together : {is : List ℕ} → AllTogether R (with_cards q before) leg co is → AllTogether R (with_cards q after) leg co is
  all_together a =
      record {
        each = λ k l. applies_with R q leg before after s co (a.each k l);
        all = λ i w. a.all i (applies_with R q leg after before t co w);
        in_order = a.in_order;
      }

  permitted : {is : List ℕ} → Permitted R (with_cards q before) leg co is → Permitted R (with_cards q after) leg co is
  permitted (together a l) = together (all_together a) l
  permitted (alone a) = alone (applies_with R q leg before after s co a)

-- the least is the least in any order
module _ (R : List Rec) (q : Question) (leg : Leg) (before after : List ℕ) (s : SameCards before after) (t : SameCards after before) where
  after_cards_lem : (co : List ℕ) {amount last : ℕ} → AfterCards R (with_cards q before) leg co amount last → AfterCards R (with_cards q after) leg co amount last
  after_cards_lem co (none_applies f) = none_applies (λ i a. f i (applies R q leg after before t co a))
  after_cards_lem co (least choice p a m) =
      least choice (permitted R q leg before after s t co p) (left R q leg before after s co a)
      (λ other amount r b. m other amount (permitted R q leg after before t s co r) (left R q leg after before t co b))

  leg_fare : {part : ℕ} → LegFare R (with_cards q before) leg part → LegFare R (with_cards q after) leg part
  leg_fare l =
      record {
        at = l.at;
        is_conditions = l.is_conditions;
        persons_fit_lem = l.persons_fit_lem;
        none_unread = l.none_unread;
        amount = l.amount;
        reduced = l.reduced;
        last = l.last;
        by_cards = after_cards_lem _ l.by_cards;
        times_persons = l.times_persons;
      }

-- SO THE FARE is the same, if the question is within its limits and gives no card twice in the other order too
pub any_order : (bundle : List ℕ) (R : List Rec) (q : Question) (before after : List ℕ) → SameCards before after → SameCards after before
    → InLimits (with_cards q after) → CardsDiffer (with_cards q after) → (fare : ℕ) (parts : List ℕ)
    → IsFare bundle R (with_cards q before) fare parts → IsFare bundle R (with_cards q after) fare parts
any_order bundle R q before after s t l d fare parts f =
    record {
      good = f.good;
      within_limits = l;
      cards_apart = d;
      leg_by_leg = λ k m. leg_fare R q _ before after s t (f.leg_by_leg k m);
      none_beyond = f.none_beyond;
      eight = f.eight;
      summed = f.summed;
    }
