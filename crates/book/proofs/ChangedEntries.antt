-- What an entry added and one cancelled do to the entries of a sound book: each stands in words of its own, so the others stay.
-- Assumes nothing.
use Prim.Native.Nat.{ℕ, ◌+◌, ◌-◌, ◌*◌, ◌≤◌, ◌<◌}
use mathlib.Core.Path.{◌≡◌, sym, ◌∙◌, ap, ap₂}
use mathlib.Core.Bool.{true}
use mathlib.Core.List.{List, [], ◌∷◌, ◌++◌}
use mathlib.Core.Logic.{◌⊎◌, inl, inr, ⊎_elim}
use native.Mathlib.Omega.{arith}
use lib.ListN.{length, get_or, drop, set, length-set, length-take, length-drop}
use lib.Seq.{ext_get_or, get_or-set_same, get_or-set_other, drop-set-lt, drop-drop, paste}
use Rattle.common.specs.Lists.{every}
use Rattle.common.proofs.Tests.{order}
use Rattle.common.proofs.Lists.{upto_same, upto_more, every_drop}
use Rattle.book.specs.Words.{Entry, no_entry, entry_of, entry_words, entry_at, capacity, width, book_length, count_of, entries, words_of, status_at, start_of}
use Rattle.book.specs.Sound.{is_zero}
use Rattle.book.specs.Changes.{added}
use Rattle.book.proofs.EntryWords.{cancelled_entry, store_before, store_in, store_after, status_set, added_before, added_there, added_behind, added_length, Whole, words_back}
use Rattle.book.proofs.SoundBook.{IsSound, entry_is, entries_length}

-- ONE CANCELLED
module _ (w : List ℕ) (s : IsSound w) (i : ℕ) (l : i < count_of w) where
  abbrev w' : List ℕ
  w' = set w (start_of i + status_at) 1

  same_count : count_of w' ≡ count_of w
  same_count = get_or-set_other w (start_of i + status_at) 0 1 0 (λ e. omega arith)

  room : start_of i + width ≤ length w
  room = omega (arith, s.long, s.few)

  cancelled_there : entry_at w' i ≡ cancelled_entry (entry_at w i)
  cancelled_there =
      ap entry_of (store_in w 1 i status_at (omega arith))
      ∙ status_set (entry_words w i) (rw (length-take, length-drop) (omega (arith, room)))

  kept : (j : ℕ) → (j < i) ⊎ (i < j) → entry_at w' j ≡ entry_at w j
  kept j (inl h) =
      let e : start_of i + status_at ≡ start_of j + ((i - j) * width + status_at) = omega arith in
      ap (λ p. entry_at (set w p 1) j) e ∙ ap entry_of (store_after w 1 j ((i - j) * width + status_at) (omega arith))
  kept j (inr h) = ap entry_of (store_before w 1 (start_of i + status_at) j (omega arith))

  abbrev Same : ℕ → Type 0
  Same j = entry_at w' j ≡ get_or (set (entries w) i (cancelled_entry (entry_at w i))) j no_entry

  other : (j : ℕ) → (j ≡ i → ⊥) → j < count_of w → (j < i) ⊎ (i < j) → Same j
  other j n m h = kept j h ∙ sym (get_or-set_other (entries w) i j (cancelled_entry (entry_at w i)) no_entry n ∙ entry_is w j m)

  there : (j : ℕ) → j ≡ i → Same j
  there j e =
      ap (entry_at w') e
      ∙ (cancelled_there
      ∙ sym (ap (λ k. get_or (set (entries w) i (cancelled_entry (entry_at w i))) k no_entry) e ∙ get_or-set_same (entries w) i (cancelled_entry (entry_at w i)) no_entry (rw (entries_length w) l)))

  each : (j : ℕ) → j < count_of w → Same j
  each j m =
      ⊎_elim (λ h. other j (λ e. omega arith) m (inl h)) (⊎_elim (there j) (λ h. other j (λ e. omega arith) m (inr h))) (order j i)

  pub entries_cancelled : entries w' ≡ set (entries w) i (cancelled_entry (entry_at w i))
  entries_cancelled =
      ext_get_or no_entry (entries w') (set (entries w) i (cancelled_entry (entry_at w i)))
      (entries_length w' ∙ (same_count ∙ sym (length-set (entries w) i (cancelled_entry (entry_at w i)) ∙ entries_length w)))
      (λ j m. entry_is w' j (rw (← entries_length w') m) ∙ each j (omega (arith, entries_length w', same_count)))

-- AN ENTRY ADDED
module _ (w : List ℕ) (s : IsSound w) (e : Entry) (more : count_of w < capacity) (h : Whole e) where
  abbrev n : ℕ
  n = count_of w

  abbrev ws : List ℕ
  ws = words_of e

  back : (entry_of ws ≡ e) × (length ws ≡ width)
  back = words_back e h

  fits : start_of n + width ≤ length w
  fits = omega (arith, s.long)

  abbrev pasted : List ℕ
  pasted = paste w (start_of n) ws width

  pub added_count : count_of (added w e) ≡ n + 1
  unfolding added
  added_count = get_or-set_same pasted 0 (n + 1) 0 (rw (added_length w n ws fits back.1) (omega (arith, s.long)))

  entry_before : (i : ℕ) → i < n → entry_at (added w e) i ≡ entry_at w i
  unfolding added
  entry_before i l = ap entry_of (store_before pasted (n + 1) 0 i (omega arith) ∙ added_before w n ws fits back.1 i l)

  entry_there : entry_at (added w e) n ≡ e
  unfolding added
  entry_there = ap entry_of (store_before pasted (n + 1) 0 n (omega arith) ∙ added_there w n ws fits back.1) ∙ back.0

  pub entries_added : entries (added w e) ≡ entries w ++ (e ∷ [])
  unfolding entries
  entries_added =
      rw added_count
      (upto_more (entry_at (added w e)) n
      ∙ ap₂ (λ xs x. xs ++ (x ∷ [])) (upto_same (entry_at (added w e)) (entry_at w) n entry_before) entry_there)

  pub added_long : length (added w e) ≡ book_length
  unfolding added
  added_long = length-set pasted 0 (n + 1) ∙ (added_length w n ws fits back.1 ∙ s.long)

  pub added_clear : every is_zero (drop (start_of (count_of (added w e))) (added w e)) ≡ true
  unfolding added
  added_clear =
      let c : start_of (count_of (set pasted 0 (n + 1))) ≡ start_of n + width = omega (arith, added_count) in
      let d : drop (start_of n + width) (set pasted 0 (n + 1)) ≡ drop width (drop (start_of n) w) =
      drop-set-lt (start_of n + width) pasted 0 (n + 1) (omega arith) ∙ (added_behind w n ws fits back.1 ∙ sym (drop-drop width (start_of n) w)) in
      rw (c, d) (every_drop is_zero (drop (start_of n) w) width s.clear)
