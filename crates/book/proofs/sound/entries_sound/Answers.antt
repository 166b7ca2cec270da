-- `book::sound::entries_sound` meets its contract. The loop's invariant: the entries passed are sound.
-- Assumes nothing.
use Rattle.std.proofs.Common.{◌∙◌, [], sym, arith}
use borrow.Author.Count.{below_more}
use Rattle.common.proofs.Lists.{every_at, every_by, every_mapped}
use Rattle.common.proofs.Tests.{never, refuted}
use Rattle.book.specs.Words.{entry_of}
use Rattle.book.specs.Sound.{entry_sound}
use Rattle.book.proofs.sound.entries_sound.Goals as goal

pub returns-then-not-entry_sound : goal.returns-then-not-entry_sound
returns-then-not-entry_sound c =
    let es = c.args.entries.now in
    sym
    (every_mapped entry_sound entry_of es
    ∙ refuted _
    (λ e. never (every_at (λ ws. entry_sound (entry_of ws)) es e c.loop-words.words-index [] c.loop-words-test.true)
    (sym c.if-not-entry_sound.ensures)))

pub loop-words-preserved : goal.loop-words-preserved
loop-words-preserved c = below_more _ _ c.loop-words.invariant (sym c.if-not-entry_sound.ensures)

pub returns : goal.returns
returns c =
    let es = c.args.entries.now in
    sym (every_mapped entry_sound entry_of es ∙ every_by (λ ws. entry_sound (entry_of ws)) [] es (λ k l. c.loop-words.invariant k (omega arith)))
