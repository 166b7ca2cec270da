-- `book::numbers::numbers_differ` meets its contract. The loop's invariant: no entry passed repeats an earlier number or ranks above `top`.
-- Assumes nothing.
use Rattle.std.proofs.Common.{◌≡◌, ◌∙◌, [], map, length, get_or, ap, sym, arith}
use lib.ListN.{length-map}
use Rattle.common.proofs.Least.{start, more}
use Rattle.common.proofs.Sums.{map_at}
use Rattle.book.specs.Words.{no_entry, entry_of}
use Rattle.book.specs.Helpers.{rank_of}
use Rattle.book.proofs.NumbersDiffer.{number_repeats, none_repeats, ranks_none, ranks_more}
use Rattle.book.proofs.numbers.numbers_differ.Goals as goal

pub loop-i-init : goal.loop-i-init
loop-i-init c = (start _, ranks_none (map entry_of c.args.entries.now) 0)

pub returns-then-repeats_earlier : goal.returns-then-repeats_earlier
returns-then-repeats_earlier c =
    let e = map entry_of c.args.entries.now in
    sym
    (number_repeats e c.loop-i.i (rw length-map c.loop-i-test.true) c.loop-i.invariant.0
    (sym c.repeats_earlier.ensures ∙ c.if-repeats_earlier.true))

pub loop-i-preserved : goal.loop-i-preserved
loop-i-preserved c =
    let es = c.args.entries.now in
    let i = c.loop-i.i in
    let r : rank_of (get_or (map entry_of es) i no_entry) ≡ c.rank.result = ap rank_of (map_at entry_of es i no_entry [] c.loop-i-test.true) ∙ sym c.rank.ensures in (
      more _ i c.loop-i.invariant.0 (sym c.repeats_earlier.ensures ∙ c.if-repeats_earlier.false),
      ranks_more (map entry_of es) i c.loop-i.top _ c.loop-i.invariant.1 (omega (arith, c.max-top.ensures)) (omega (arith, r, c.max-top.ensures)),
    )

pub returns : goal.returns
returns c =
    let es = c.args.entries.now in
    let e : c.loop-i.i ≡ length (map entry_of es) = rw length-map (omega arith) in
    sym (none_repeats (map entry_of es) (rw e at c.loop-i.invariant.0))
