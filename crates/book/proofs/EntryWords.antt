-- The words of an entry as a part of the book's: read there, changed there, and put there. An entry and its words say each other.
-- Assumes nothing.
use Prim.Native.Nat.{ℕ, zero, suc, ◌+◌, ◌-◌, ◌*◌, ◌≤◌, ◌<◌}
use mathlib.Core.Path.{◌≡◌, refl, sym, ◌∙◌, ap}
use mathlib.Core.List.{List, [], ◌∷◌, ◌++◌, map, append_assoc}
use native.Mathlib.Nat.{add-zero, add_assoc}
use native.Mathlib.Omega.{arith}
use lib.ListN.{length, get_or, take, drop, set, replicate, length-append, length-drop, take-append-drop}
use lib.Seq.{ext_get_or, get_or-take, get_or-drop, drop-cons, drop-drop, drop-set-lt, drop-set-add, take-set-lt, take-set-le, get_or-set_same, get_or-set_other, take_at, drop_at, take_all, length-take-le, take-append-add, paste, take-paste, drop-paste, length-paste}
use Rattle.std.specs.Simd.{first_chunks}
use Rattle.common.specs.Lists.{up_to}
use Rattle.common.proofs.Lists.{part_front, upto_length, upto_at}
use Rattle.common.proofs.Parts.{part_rest}
use Rattle.fares.specs.Meaning.{card_at}
use Rattle.fares.specs.declared.Question.{Question}
use Rattle.book.specs.Words.{Entry, cards_at, cards_width, count_at, legs_at, leg_width, railway_at, card_in, question_of, entry_words, entry_at, asked_at, parts_at, status_at, spare_at, till_at, sequence_at, width, question_width, question_words, entry_of, words_of, booking, start_of}
use Rattle.book.proofs.Each.{mapped}
use Rattle.book.proofs.QuestionWords.{words_length}

-- READ: word k of entry i
pub word_at : (w : List ℕ) (i k : ℕ) → k < width → get_or (entry_words w i) k 0 ≡ get_or w (start_of i + k) 0
word_at w i k l = get_or-take width (drop (start_of i) w) k 0 l ∙ get_or-drop (start_of i) w k 0

-- in words that are an entry's: a part, the railway of a leg, a card, the leg count, and the parts from there on
pub part_at : (b : List ℕ) (j : ℕ) → j < 8 → get_or (take 8 (drop parts_at b)) j 0 ≡ get_or b (parts_at + j) 0
part_at b j l = get_or-take 8 (drop parts_at b) j 0 l ∙ get_or-drop parts_at b j 0

pub asked_at_lem : (b : List ℕ) (k : ℕ) → k < question_width → get_or (take question_width (drop asked_at b)) k 0 ≡ get_or b (asked_at + k) 0
asked_at_lem b k l = get_or-take question_width (drop asked_at b) k 0 l ∙ get_or-drop asked_at b k 0

pub railway_at_lem : (b : List ℕ) (j : ℕ) → j < 8 → get_or (take question_width (drop asked_at b)) (railway_at j) 0 ≡ get_or b (asked_at + legs_at + leg_width * j) 0
railway_at_lem b j l =
    let e : asked_at + railway_at j ≡ asked_at + legs_at + leg_width * j = omega arith in
    asked_at_lem b (railway_at j) (omega arith) ∙ ap (λ k. get_or b k 0) e

pub card_at_lem : (b : List ℕ) (k : ℕ) → k < 4 → card_at (question_of (take question_width (drop asked_at b))) k ≡ get_or b (asked_at + (cards_at + k)) 0
unfolding question_of
card_at_lem b k l = upto_at (card_in (take question_width (drop asked_at b))) cards_width k 0 l ∙ asked_at_lem b (cards_at + k) (omega arith)

pub count_at_lem : (b : List ℕ) → (question_of (take question_width (drop asked_at b))).count ≡ get_or b (asked_at + count_at) 0
unfolding question_of
count_at_lem b = asked_at_lem b count_at (omega arith)

pub unused_parts : (b : List ℕ) (n : ℕ) → n ≤ 8 → take (status_at - (parts_at + n)) (drop (parts_at + n) b) ≡ drop n (take 8 (drop parts_at b))
unused_parts b n l =
    let m : status_at - (parts_at + n) ≡ 8 - n = omega arith in
    let e : n + (8 - n) ≡ 8 = omega arith in
    rw (m, ← drop-drop n parts_at b) (sym (rw e at (part_rest n (8 - n) (drop parts_at b))))

-- A STORE: a block that the place is not in stays as it was,
module _ (w : List ℕ) (v : ℕ) where
  pub store_before : (p i : ℕ) → p < start_of i → entry_words (set w p v) i ≡ entry_words w i
  store_before p i l = ap (take width) (drop-set-lt (start_of i) w p v l)

  pub store_in : (i k : ℕ) → k < width → entry_words (set w (start_of i + k) v) i ≡ set (entry_words w i) k v
  store_in i k l = ap (take width) (drop-set-add (start_of i) w k v) ∙ take-set-lt width (drop (start_of i) w) k v l

  pub store_after : (i k : ℕ) → width ≤ k → entry_words (set w (start_of i + k) v) i ≡ entry_words w i
  store_after i k l = ap (take width) (drop-set-add (start_of i) w k v) ∙ take-set-le width (drop (start_of i) w) k v l

-- and one at the status cancels the entry.
abbrev pub cancelled_entry : Entry → Entry
cancelled_entry e = record { till = e.till; sequence = e.sequence; asked = e.asked; parts = e.parts; status = 1; spare = e.spare }

pub status_set : (b : List ℕ) → status_at < length b → entry_of (set b status_at 1) ≡ cancelled_entry (entry_of b)
status_set b l =
    let a : take question_width (drop asked_at (set b status_at 1)) ≡ take question_width (drop asked_at b) =
    ap (take question_width) (drop-set-add asked_at b (question_width + 8) 1) ∙ take-set-le question_width (drop asked_at b) (question_width + 8) 1 (omega arith) in
    let p : take 8 (drop parts_at (set b status_at 1)) ≡ take 8 (drop parts_at b) =
    ap (take 8) (drop-set-add parts_at b 8 1) ∙ take-set-le 8 (drop parts_at b) 8 1 (omega arith) in
    let z : take 2 (drop spare_at (set b status_at 1)) ≡ take 2 (drop spare_at b) = ap (take 2) (drop-set-lt spare_at b status_at 1 (omega arith)) in
    let t : get_or (set b status_at 1) till_at 0 ≡ get_or b till_at 0 = get_or-set_other b status_at till_at 1 0 (λ e. omega arith) in
    let s : get_or (set b status_at 1) sequence_at 0 ≡ get_or b sequence_at 0 = get_or-set_other b status_at sequence_at 1 0 (λ e. omega arith) in
    let m : get_or (set b status_at 1) status_at 0 ≡ 1 = get_or-set_same b status_at 1 0 l in
    λ j. record { till = t j; sequence = s j; asked = a j; parts = p j; status = m j; spare = z j }

-- AN ENTRY ADDED: what stands in front of it, it itself, and what stands behind.
module _ (w : List ℕ) (n : ℕ) (ws : List ℕ) (fits : start_of n + width ≤ length w) (long : length ws ≡ width) where
  abbrev at : ℕ
  at = start_of n

  abbrev pasted : List ℕ
  pasted = paste w at ws width

  opened : pasted ≡ take at w ++ (take width ws ++ drop (at + width) w)
  opened = append_assoc (take at w) (take width ws) (drop (at + width) w)

  head_length : length (take at w) ≡ at
  head_length = length-take-le at w (omega arith)

  pub added_before : (i : ℕ) → i < n → entry_words pasted i ≡ entry_words w i
  added_before i l =
      let a : (start_of i) + width ≤ length (take at w) = rw head_length (omega arith) in
      ap (λ l. entry_words l i) opened
      ∙ part_front (take at w) (take width ws ++ drop (at + width) w) (start_of i) width a
      ∙ sym (rw (take-append-drop at w) at (part_front (take at w) (drop at w) (start_of i) width a))

  pub added_there : entry_words pasted n ≡ ws
  added_there =
      ap (λ l. entry_words l n) opened
      ∙ (ap (take width) (drop_at (take at w) (take width ws ++ drop (at + width) w) at head_length)
      ∙ (ap (λ l. take width (l ++ drop (at + width) w)) (take_all width ws (omega (arith, long))) ∙ take_at ws (drop (at + width) w) width long))

  pub added_behind : drop (at + width) pasted ≡ drop (at + width) w
  added_behind = drop-paste w at ws width (omega arith) (omega (arith, long))

  pub added_length : length pasted ≡ length w
  added_length = length-paste w at ws width fits (omega (arith, long))

-- an entry of the right widths
pub record Whole (e : Entry) : Type 0 where
  pub asked_long : length e.asked ≡ question_width
  pub parts_long : length e.parts ≡ 8
  pub spare_long : length e.spare ≡ 2

-- the words of an entry say the entry
pub words_back : (e : Entry) → Whole e → (entry_of (words_of e) ≡ e) × (length (words_of e) ≡ width)
unfolding words_of
words_back e h =
    let tail = e.status ∷ e.spare in
    let r = e.asked ++ (e.parts ++ tail) in
    let a : take question_width r ≡ e.asked = take_at e.asked (e.parts ++ tail) question_width h.asked_long in
    let d : drop question_width r ≡ e.parts ++ tail = drop_at e.asked (e.parts ++ tail) question_width h.asked_long in
    let p : take 8 (drop question_width r) ≡ e.parts = rw d (take_at e.parts tail 8 h.parts_long) in
    let x : drop (question_width + 8) r ≡ tail = sym (drop-drop 8 question_width r) ∙ rw d (drop_at e.parts tail 8 h.parts_long) in
    let m : get_or r (question_width + 8) 0 ≡ e.status = sym (rw add-zero at (get_or-drop (question_width + 8) r 0 0)) ∙ rw x in
    let z : take 2 (drop (question_width + 8 + 1) r) ≡ e.spare =
    ap (take 2) (sym (drop-drop 1 (question_width + 8) r) ∙ ap (drop 1) x) ∙ take_all 2 e.spare (omega (arith, h.spare_long)) in (
      λ j. record { till = e.till; sequence = e.sequence; asked = a j; parts = p j; status = m j; spare = z j },
      simp length-append (omega (arith, h.asked_long, h.parts_long, h.spare_long)),
    )

-- and the entry that words say has those words: between words and entries nothing is lost either way
pub block_back : (ws : List ℕ) → length ws ≡ width → words_of (entry_of ws) ≡ ws
unfolding words_of
block_back [] l = absurd (omega (arith, l))
block_back (x ∷ []) l = absurd (omega (arith, l))
block_back (x ∷ y ∷ r) l =
    let p = drop question_width r in
    let z = drop (question_width + 8) r in
    let n : length r ≡ question_width + 11 = omega (arith, l) in
    let s : get_or r (question_width + 8) 0 ∷ take 2 (drop (question_width + 9) r) ≡ z =
    ap (get_or r (question_width + 8) 0 ∷◌) (take_all 2 (drop (question_width + 9) r) (rw (length-drop (question_width + 9) r, n) (omega arith)))
    ∙ sym (drop-cons r (question_width + 8) 0 (rw n (omega arith))) in
    let e : take 8 p ++ z ≡ p = ap (take 8 p ++◌) (sym (drop-drop 8 question_width r)) ∙ take-append-drop 8 p in
    ap (λ t. x ∷ y ∷ (take question_width r ++ t)) (ap (take 8 p ++◌) s ∙ e) ∙ ap (λ t. x ∷ y ∷ t) (take-append-drop question_width r)

-- WORDS PUT ONE BEHIND ANOTHER are words put at once: those of a new entry
module _ (w xs ys : List ℕ) (at n m : ℕ) (k : length xs ≡ n) (l : length ys ≡ m) (h : at + n ≤ length w) where
  put_behind : paste (paste w at xs n) (at + n) ys m ≡ paste w at (xs ++ ys) (n + m)
  put_behind =
      let d : drop (at + n + m) (paste w at xs n) ≡ drop (at + (n + m)) w =
      sym (drop-drop m (at + n) (paste w at xs n))
      ∙ (ap (drop m) (drop-paste w at xs n (omega arith) (omega arith)) ∙ (drop-drop m (at + n) w ∙ ap (λ i. drop i w) (add_assoc at n m))) in
      let x : take (n + m) (xs ++ ys) ≡ take n xs ++ take m ys =
      ap (λ i. take (i + m) (xs ++ ys)) (sym k) ∙ (take-append-add xs ys m ∙ ap (◌++ take m ys) (sym (take_all n xs (omega arith)))) in
      rw (take-paste w at xs n (omega arith) (omega arith), d, x)
      (ap (◌++ drop (at + (n + m)) w) (append_assoc (take at w) (take n xs) (take m ys)))

module _ (w : List ℕ) (at t s : ℕ) (q : Question) (parts : List ℕ) (eight : length parts ≡ 8) (h : at + width ≤ length w) where
  abbrev new : Entry
  new = booking t s q parts

  abbrev number : List ℕ
  number = t ∷ s ∷ []

  pub new_whole : Whole new
  new_whole = record { asked_long = words_length q; parts_long = eight; spare_long = refl }

  pub entry_put : {asked a b c d : List ℕ} → asked ≡ question_words q → a ≡ paste w at number 2 → b ≡ paste a (at + asked_at) asked (length asked)
      → c ≡ paste b (at + parts_at) parts (length parts) → d ≡ paste c (at + status_at) (replicate 3 0) 3
      → (d ≡ paste w at (words_of new) width) × (length d ≡ length w)
  unfolding words_of
  entry_put {d = d} i ea eb ec ed =
      let n = words_length q in
      let m : length (number ++ question_words q) ≡ parts_at = omega (arith, n) in
      let k : length ((number ++ question_words q) ++ parts) ≡ status_at = length-append (number ++ question_words q) parts ∙ omega (arith, m) in
      let p : d ≡ paste w at (words_of new) width =
      ed
      ∙ rw (ec, eb, ea, i, n, eight, put_behind w number (question_words q) at 2 question_width refl n (omega arith), put_behind w (number ++ question_words q) parts at parts_at 8 m eight (omega arith), put_behind w ((number ++ question_words q) ++ parts) (replicate 3 0) at status_at 3 k refl (omega arith))
      (ap (λ ws. paste w at (t ∷ s ∷ ws) width) (append_assoc (question_words q) parts (replicate 3 0))) in
      (p, ap length p ∙ length-paste w at (words_of new) width h (omega (arith, (words_back new new_whole).1)))

-- THE WORDS OF THE FIRST ENTRIES, cut from the book as blocks
block_is : (m : ℕ) (s : List ℕ) (i : ℕ) → i < m → get_or (first_chunks width m s) i [] ≡ take width (drop (i * width) s)
block_is zero s i l = absurd (omega arith)
block_is (suc m) s zero l = refl
block_is (suc m) s (suc i) l =
    let e : width + i * width ≡ suc i * width = omega arith in
    block_is m (drop width s) i (omega arith) ∙ ap (take width) (drop-drop (i * width) width s ∙ ap (λ k. drop k s) e)

blocks_length : (m : ℕ) (s : List ℕ) → length (first_chunks width m s) ≡ m
blocks_length zero s = refl
blocks_length (suc m) s = ap suc (blocks_length m (drop width s))

pub first_blocks : (w : List ℕ) (n m : ℕ) → n ≤ m → take n (first_chunks width m (drop 1 w)) ≡ up_to (entry_words w) n
first_blocks w n m l =
    let b = first_chunks width m (drop 1 w) in
    let k : length (take n b) ≡ n = length-take-le n b (omega (arith, blocks_length m (drop 1 w))) in
    ext_get_or [] (take n b) (up_to (entry_words w) n) (k ∙ sym (upto_length (entry_words w) n))
    (λ i h. let j : i < n = omega (arith, k) in
    get_or-take n b i [] j
    ∙ (block_is m (drop 1 w) i (omega arith) ∙ (ap (take width) (drop-drop (i * width) 1 w) ∙ sym (upto_at (entry_words w) n i [] j))))

pub first_entries : (w : List ℕ) (n : ℕ) → map entry_of (up_to (entry_words w) n) ≡ up_to (entry_at w) n
first_entries w n = mapped entry_of (entry_words w) n
