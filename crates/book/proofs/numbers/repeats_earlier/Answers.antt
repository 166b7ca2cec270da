-- `book::numbers::repeats_earlier` meets its contract.
-- Assumes nothing.
use Rattle.std.proofs.Common.{◌≡◌, ◌∙◌, ◌<◌, ℕ, List, [], map, take, get_or, is_some, ap, sym, arith}
use Rattle.std.proofs.lemmas.List.{take-map}
use lib.ListN.{length, length-map}
use Rattle.common.proofs.Sums.{map_at}
use Rattle.book.specs.Words.{Entry, no_entry, entry_of, till_at, sequence_at}
use Rattle.book.specs.Helpers.{rank_of}
use Rattle.book.specs.Sound.{held, repeats}
use Rattle.book.proofs.NumbersDiffer.{above_none, first_held, in_front}
use Rattle.book.proofs.numbers.repeats_earlier.Goals as goal

-- what stands in front of entry i has its number
looked_for : (es : List (List ℕ)) (i : ℕ) → i < length es
    → is_some (held (get_or (get_or es i []) till_at 0) (get_or (get_or es i []) sequence_at 0) (map entry_of (take i es))) ≡ repeats (map entry_of es) i
looked_for es i l =
    let e : entry_of (get_or es i []) ≡ get_or (map entry_of es) i no_entry = sym (map_at entry_of es i no_entry [] l) in
    let f : map entry_of (take i es) ≡ take i (map entry_of es) = sym (take-map entry_of i es) in
    ap (λ (x : Entry). is_some (held x.till x.sequence (map entry_of (take i es)))) e
    ∙ rw f (in_front (get_or (map entry_of es) i no_entry).till (get_or (map entry_of es) i no_entry).sequence (map entry_of es) i (rw length-map (omega arith)))

pub returns-then-top-rank : goal.returns-then-top-rank
returns-then-top-rank c =
    let a = c.args in
    let r = ap rank_of (map_at entry_of a.entries.now a.i no_entry [] c.requires.0) in
    sym (above_none (map entry_of a.entries.now) a.i a.top c.requires.1 (omega (arith, r, c.rank.ensures, c.if-top-rank.true)))

pub returns : goal.returns
returns c = let a = c.args in c.is_some.ensures ∙ (ap is_some (c.find_in.ensures ∙ first_held _ _ _) ∙ looked_for a.entries.now a.i c.requires.0)
