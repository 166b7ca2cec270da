-- `book::sums::owed` meets its contract. The loop's invariant: the sum is the balance of the entries passed, each of them small.
-- Assumes nothing.
use Rattle.std.proofs.Common.{◌≡◌, ◌∙◌, ◌≤◌, ◌<◌, ◌+◌, ℕ, [], get_or, ap, arith, length}
use Rattle.common.proofs.Lists.{upto_length, upto_at}
use Rattle.book.specs.Words.{count_of, entry_of, entry_words, entry_at}
use Rattle.book.specs.Amounts.{live_amount}
use Rattle.book.specs.Helpers.{counted}
use Rattle.book.proofs.SoundBook.{most, is_sound}
use Rattle.book.proofs.BalanceSums.{counted_small, Summed, sum_start, sum_turn, sum_end}
use Rattle.book.proofs.sums.owed.Goals as goal

pub bounds-book-0 : goal.bounds-book-0
bounds-book-0 c = omega (arith, (is_sound c.args.book.now c.requires).long)

pub first-words-items-requires : goal.first-words-items-requires
first-words-items-requires c = let s = is_sound c.args.book.now c.requires in omega (arith, s.long, s.few)

pub loop-words-init : goal.loop-words-init
loop-words-init c = sum_start (counted c.args.railway) c.args.book.now

pub overflow_add-sum : goal.overflow_add-sum
overflow_add-sum c =
    let a = c.args in
    let w = a.book.now in
    let i = c.loop-words.words-index in
    let l : i < count_of w = omega (arith, ap length c.first-words-items.ensures ∙ upto_length (entry_words w) (count_of w)) in
    let e : entry_of (get_or c.first-words-items.result.now i []) ≡ entry_at w i = ap (λ bs. entry_of (get_or bs i [])) c.first-words-items.ensures ∙ ap entry_of (upto_at (entry_words w) (count_of w) i [] l) in
    let small : (k : ℕ) → get_or w k 0 ≤ most = λ k. omega (arith, c.type_inv.book k) in
    let turned : Summed (counted a.railway) w (i + 1) (c.loop-words.sum + c.entry_owed-sum.result) =
    sum_turn (counted a.railway) w (counted_small w small a.railway) i c.loop-words.sum c.entry_owed-sum.result c.loop-words.invariant
    (c.entry_owed-sum.ensures ∙ ap (live_amount (counted a.railway)) e) in
    omega (arith, (is_sound w c.requires).few, turned.0)

pub loop-words-preserved : goal.loop-words-preserved
loop-words-preserved c =
    let a = c.args in
    let w = a.book.now in
    let i = c.loop-words.words-index in
    let l : i < count_of w = omega (arith, ap length c.first-words-items.ensures ∙ upto_length (entry_words w) (count_of w)) in
    let e : entry_of (get_or c.first-words-items.result.now i []) ≡ entry_at w i = ap (λ bs. entry_of (get_or bs i [])) c.first-words-items.ensures ∙ ap entry_of (upto_at (entry_words w) (count_of w) i [] l) in
    let small : (k : ℕ) → get_or w k 0 ≤ most = λ k. omega (arith, c.type_inv.book k) in
    let turned : Summed (counted a.railway) w (i + 1) (c.loop-words.sum + c.entry_owed-sum.result) =
    sum_turn (counted a.railway) w (counted_small w small a.railway) i c.loop-words.sum c.entry_owed-sum.result c.loop-words.invariant
    (c.entry_owed-sum.ensures ∙ ap (live_amount (counted a.railway)) e) in
    turned

pub returns : goal.returns
returns c =
    let a = c.args in
    let w = a.book.now in
    let n = ap length c.first-words-items.ensures ∙ upto_length (entry_words w) (count_of w) in
    sum_end (counted a.railway) w c.loop-words.words-index c.loop-words.sum (omega (arith, n)) c.loop-words.invariant
