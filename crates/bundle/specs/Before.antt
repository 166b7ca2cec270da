-- WHAT WAS ACCEPTED BEFORE records of one key could share it by the year (document 01, 'Keys and links'). It is kept to say that a bundle in which no key is
-- repeated is accepted exactly if it was.
-- Assumes nothing.
use Rattle.std.specs.Prelude.{ℕ, ◌<◌, List, length}
use Rattle.bundle.specs.Records.{Rec}
use Rattle.bundle.specs.Meaning.{record_at, SameKey, GoodBy}

-- "Keys, each at most once in its table .. Dates are not part of a key."
abbrev pub GoodBefore : List ℕ → List Rec → Type 0
GoodBefore = GoodBy SameKey

abbrev pub NoKeyTwice : List Rec → Type 0
NoKeyTwice R = (i j : ℕ) → i < length R → j < i → SameKey (record_at R i) (record_at R j) → ⊥
