-- AS BEFORE: a bundle was accepted exactly if it is now and repeats no key.
-- Assumes nothing.
use Prim.Native.Nat.{ℕ, ◌<◌}
use mathlib.Core.List.{List}
use lib.ListN.{length}
use Rattle.bundle.specs.Records.{Rec}
use Rattle.bundle.specs.Meaning.{record_at, SameKey, Clash, GoodBy, Good}
use Rattle.bundle.specs.Before.{GoodBefore, NoKeyTwice}

-- the same bundle, by another rule of what may not stand together
by_rule : (A B : Rec → Rec → Type 0) (s : List ℕ) (R : List Rec) → GoodBy A s R → ((i j : ℕ) → i < length R → j < i → B (record_at R i) (record_at R j) → ⊥)
    → GoodBy B s R
by_rule A B s R g n = record {
  size = g.size;
  bytes = g.bytes;
  whole = g.whole;
  fields = g.fields;
  transferors = g.transferors;
  apart = n;
  linked = g.linked;
}

pub before_good : (s : List ℕ) (R : List Rec) → GoodBefore s R → Good s R
before_good s R g = by_rule SameKey Clash s R g (λ i j l m c. g.apart i j l m c.0)

pub good_before : (s : List ℕ) (R : List Rec) → Good s R → NoKeyTwice R → GoodBefore s R
good_before s R g n = by_rule Clash SameKey s R g n
