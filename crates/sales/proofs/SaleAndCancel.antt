-- What a sale and a cancellation do to the entries of a sound book: a sale that the history says books adds one, a cancellation cancels that of its number.
-- Assumes nothing.
use Prim.Native.Nat.{ℕ, zero, suc, ◌-◌, ◌≤◌, ◌<◌, zero-le}
use mathlib.Core.Path.{◌≡◌, refl, sym, ◌∙◌, ap}
use mathlib.Core.Bool.{Bool, true, false, cond, not, ◌&&◌, ◌||◌, and-true}
use mathlib.Core.List.{List, [], ◌∷◌, ◌++◌, map}
use mathlib.Core.Logic.{⊎_elim}
use native.Mathlib.Omega.{arith}
use lib.Dec.{eqb, leb, ltb}
use lib.ListN.{length, get_or, drop, replicate, length-map}
use lib.Seq.{drop_at}
use borrow.Author.Tests.{le-leb, lt-leb, lt-ltb, le-ltb, ltb-false, ltb-true, leb-true, not-true, not-false}
use Rattle.std.specs.Prelude.{is_ok}
use Rattle.common.specs.declared.reasons.Reason.TheVariants.{OutsideLimits, CardTwice, NumberOutside, NumberTaken, BookFull, SaleUnknown}
use Rattle.common.specs.Lists.{every, any, same}
use Rattle.common.specs.Checks.{Finding, clean, fault, Check, check, first_fault}
use Rattle.common.proofs.Tests.{side, never, both_true}
use Rattle.common.proofs.Least.{within}
use Rattle.common.proofs.Lists.{every_at, every_append, every_by, every_replicate, any_least, first_length, map_fixed}
use Rattle.common.proofs.Sums.{map_at}
use Rattle.common.proofs.Checks.{append_clean, one_clean}
use Rattle.bundle.specs.Records.{records_of}
use Rattle.bundle.specs.Verdict.{checks}
use Rattle.fares.specs.Question.{no_leg, legs_of, card_slots, cards_differ, in_limits}
use Rattle.fares.specs.Legs.{part_of}
use Rattle.fares.specs.Fare.{parts_of, price_checks, fare_checks, quoted, fare_of}
use Rattle.fares.specs.declared.Leg.{Leg}
use Rattle.fares.specs.declared.Question.{Question}
use Rattle.fares.proofs.FareLaws.{asked, part_small}
use Rattle.fares.proofs.Meaning.{eight_parts}
use Rattle.book.specs.Words.{Entry, no_entry, capacity, count_of, entries, question_words, booking}
use Rattle.book.specs.Due.{due_from}
use Rattle.book.specs.Sound.{is_zero, number_in_limits, bound_of, is_bounded, entry_sound, has_number, held_at}
use Rattle.sales.specs.Sales.{is_clean, place, is_present, present, sale_checks, is_booked, sale_words, cancel_checks, is_cancelled, cancel_words}
use Rattle.sales.specs.History.{Number, is_in, parts_told, books}
use Rattle.book.proofs.EntryWords.{cancelled_entry, Whole}
use Rattle.book.proofs.NumbersDiffer.{has_number_lem, held_only}
use Rattle.book.proofs.SoundBook.{IsSound, sound_is, sound_entry, zero_from, entries_length}
use Rattle.book.proofs.ChangedEntries.{entries_added}
use Rattle.book.proofs.QuestionWords.{words_length}
use Rattle.book.proofs.AmountsAreDue.{Counts}
use Rattle.book.proofs.StaysSound.{cancelling, same_number_lem, booking_sound, added_sound, cancelled_after}
use Rattle.book.specs.Changes.{added, cancelled_at}

-- the number of an entry, which a cancellation leaves, and those of a book
abbrev pub sale_number_of : Entry → Number
sale_number_of e = record { till = e.till; sequence = e.sequence }

pub same_sale_number : (b : Bool) (e : Entry) → sale_number_of (cond b (cancelled_entry e) e) ≡ sale_number_of e
same_sale_number b e = let n = same_number_lem b e in λ j. record { till = n.0 j; sequence = n.1 j }

abbrev pub sale_numbers_of : List Entry → List Number
sale_numbers_of es = map sale_number_of es

any_number : (n : Number) (es : List Entry) → any (has_number n.till n.sequence) es ≡ is_in n (sale_numbers_of es)
unfolding any
any_number n [] = refl
any_number n (e ∷ es) = ap (λ b. has_number n.till n.sequence e || b) (any_number n es)

-- a number is present in a book exactly if it is among its numbers
pub present_is : (w : List ℕ) (n : Number) → is_present w n.till n.sequence ≡ is_in n (sale_numbers_of (entries w))
unfolding held_at
present_is w n = sym (any_least (has_number n.till n.sequence) no_entry (entries w)) ∙ any_number n (entries w)

-- the bundle gives a fare exactly if its checks find nothing
clean_price : (f : Finding) (parts : List ℕ) → is_clean f ≡ is_ok (quoted f parts)
clean_price clean parts = refl
clean_price (fault why) parts = refl

priced_is : (b : List ℕ) (q : Question) → is_clean (first_fault (fare_checks b q)) ≡ is_ok (fare_of b q)
unfolding fare_of
priced_is b q = clean_price (first_fault (fare_checks b q)) (parts_of (records_of b) q)

-- A SALE BOOKS exactly if the history says so
booked_by_lem : (L P D F : Bool) (i : ℕ) (cs : List Check)
    → (is_clean (first_fault (check (not L) NumberOutside 0 0 ∷ check (P && not D) NumberTaken i 0 ∷ cond P [] (check F BookFull 0 0 ∷ cs))) && not P)
    ≡ (L && (not P && (not F && is_clean (first_fault cs))))
unfolding first_fault
booked_by_lem true true true F i cs = refl
booked_by_lem true true false F i cs = refl
booked_by_lem true false D true i cs = refl
booked_by_lem true false D false i cs = and-true (is_clean (first_fault cs))
booked_by_lem false true true F i cs = refl
booked_by_lem false true false F i cs = refl
booked_by_lem false false D F i cs = refl

not_full : (k m : ℕ) → not (leb m k) ≡ ltb k m
not_full k m = ⊎_elim (λ h. rw (lt-leb m k h, lt-ltb k m h)) (λ h. rw (le-leb m k h, le-ltb k m h)) (side k m)

pub books_is : (w : List ℕ) → IsSound w → (n : Number) (b : List ℕ) (q : Question) → is_booked w n.till n.sequence b q ≡ books (sale_numbers_of (entries w)) n b q
unfolding is_booked sale_checks books first_fault
books_is w s n b q =
    let L = number_in_limits n.till n.sequence in
    let P = is_present w n.till n.sequence in
    let D = same (present w n.till n.sequence).asked (question_words q) in
    let F = leb capacity (length (entries w)) in
    let e = booked_by_lem L P D F (place w n.till n.sequence) (fare_checks b q) in
    let x : (is_clean (first_fault (sale_checks w n.till n.sequence b q)) && not P) ≡ (L && (not P && (not F && is_clean (first_fault (fare_checks b q))))) =
    rw (sound_is w s) e in
    x ∙ rw (not_full (length (entries w)) capacity, present_is w n, priced_is b q, ← length-map (entries w) sale_number_of)

-- what a sale that books has: a question within its limits, cards that differ, and parts within the bound, zero from the leg count on
module _ (b : List ℕ) (q : Question) (c : first_fault (fare_checks b q) ≡ clean) where
  passed : (not (in_limits q) ≡ false) × (not (cards_differ (card_slots q)) ≡ false)
  unfolding fare_checks price_checks
  passed =
      let l = one_clean (not (in_limits q)) OutsideLimits 0 0 _ (append_clean (checks b) (price_checks (records_of b) q) c).1 in
      (l.0, (one_clean (not (cards_differ (card_slots q))) CardTwice 0 0 _ l.1).0)

  pub priced_in_limits : in_limits q ≡ true
  priced_in_limits = not-false (in_limits q) passed.0

  priced_differ : cards_differ (card_slots q) ≡ true
  priced_differ = not-false (cards_differ (card_slots q)) passed.1

  abbrev parts : List ℕ
  parts = parts_of (records_of b) q

  pub fare_parts : parts_told (fare_of b q) ≡ parts
  unfolding fare_of
  fare_parts = rw c

  abbrev own : List ℕ
  own = map (part_of (records_of b) q) (legs_of q)

  own_length : length own ≡ q.count
  own_length = length-map (legs_of q) (part_of (records_of b) q) ∙ first_length no_leg q.count q.legs

  pub parts_length : length parts ≡ 8
  parts_length = eight_parts (records_of b) q (asked q priced_in_limits).few

  pub parts_clear : every is_zero (drop q.count parts) ≡ true
  unfolding parts_of
  parts_clear = rw (drop_at own (replicate (8 - q.count) 0) q.count own_length) (every_replicate is_zero 0 refl (8 - q.count))

  -- and what its words count is due from it
  pub sold_due : {f : List ℕ → List ℕ → ℕ} {legs : Leg → Bool} → Counts f legs → f (question_words q) parts ≡ due_from legs q (parts_told (fare_of b q))
  sold_due {legs = legs} k =
      k.as_due q parts (asked q priced_in_limits).few (zero_from parts q.count parts_clear) ∙ ap (due_from legs q) (sym fare_parts)

  own_small : is_bounded (bound_of q) own ≡ true
  own_small =
      every_by (λ p. leb p (bound_of q)) 0 own
      (λ i l. let m : i < length (legs_of q) = rw (← length-map (legs_of q) (part_of (records_of b) q)) l in
      le-leb (get_or own i 0) (bound_of q) (rw (map_at (part_of (records_of b) q) (legs_of q) i 0 no_leg m) (part_small (records_of b) q (asked q priced_in_limits) i m)))

  pub parts_small : is_bounded (bound_of q) parts ≡ true
  unfolding parts_of
  parts_small =
      every_append (λ p. leb p (bound_of q)) own (replicate (8 - q.count) 0)
      ∙ rw own_small (every_replicate (λ p. leb p (bound_of q)) 0 (le-leb 0 (bound_of q) zero-le) (8 - q.count))

clean_by : (f : Finding) → is_clean f ≡ true → f ≡ clean
clean_by clean e = refl
clean_by (fault why) e = never e refl

-- THE SALE, from the history's word
module _ (w : List ℕ) (s : IsSound w) (n : Number) (b : List ℕ) (q : Question) where
  abbrev t : ℕ
  t = n.till

  abbrev u : ℕ
  u = n.sequence

  abbrev entry : Entry
  entry = booking t u q (parts_of (records_of b) q)

  pub not_booked : books (sale_numbers_of (entries w)) n b q ≡ false → sale_words w t u b q ≡ w
  unfolding sale_words
  not_booked e = rw (books_is w s n b q ∙ e)

  module _ (e : books (sale_numbers_of (entries w)) n b q ≡ true) where
    pub books_number : number_in_limits t u ≡ true
    unfolding books
    books_number = (both_true (number_in_limits t u) _ e).0

    told : (number_in_limits t u ≡ true) × (is_present w t u ≡ false) × (length (entries w) < capacity) × (first_fault (fare_checks b q) ≡ clean)
    unfolding books
    told =
        let a = both_true (number_in_limits t u) _ e in
        let p = both_true (not (is_in n (sale_numbers_of (entries w)))) _ a.1 in
        let k = both_true (ltb (length (sale_numbers_of (entries w))) capacity) (is_ok (fare_of b q)) p.1 in (
          a.0,
          present_is w n ∙ not-true (is_in n (sale_numbers_of (entries w))) p.0,
          rw (length-map (entries w) sale_number_of) at (ltb-true (length (sale_numbers_of (entries w))) capacity k.0),
          clean_by (first_fault (fare_checks b q)) (priced_is b q ∙ k.1),
        )

    room : count_of w < capacity
    room = rw (entries_length w) at told.2

    absent : held_at t u (entries w) ≡ length (entries w)
    unfolding held_at
    absent = omega (arith, ltb-false (held_at t u (entries w)) (length (entries w)) told.1, within (λ i. has_number t u (get_or (entries w) i no_entry)) (length (entries w)))

    pub books_priced : first_fault (fare_checks b q) ≡ clean
    books_priced = told.3

    pub sale_adds : sale_words w t u b q ≡ added w entry
    unfolding sale_words
    sale_adds = rw (books_is w s n b q ∙ e)

    whole : Whole entry
    whole = record { asked_long = words_length q; parts_long = parts_length b q told.3; spare_long = refl }

    pub sale_entries : entries (sale_words w t u b q) ≡ entries w ++ (entry ∷ [])
    sale_entries = rw sale_adds (entries_added w s entry room whole)

    pub sale_sound : IsSound (sale_words w t u b q)
    sale_sound =
        rw sale_adds
        (added_sound w s entry room whole
        (booking_sound t u q (parts_of (records_of b) q) told.0 (priced_in_limits b q told.3) (priced_differ b q told.3) (parts_small b q told.3) (parts_clear b q told.3)) absent)

-- THE CANCELLATION
module _ (w : List ℕ) (s : IsSound w) (t u : ℕ) where
  abbrev es : List Entry
  es = entries w

  abbrev After : List ℕ → Type 0
  After x = (entries x ≡ map (cancelling t u) es) × IsSound x

  cancelled_by : (L P : Bool) → is_clean (first_fault (check (not L) NumberOutside 0 0 ∷ check (not P) SaleUnknown 0 0 ∷ [])) ≡ (L && P)
  unfolding first_fault
  cancelled_by true true = refl
  cancelled_by true false = refl
  cancelled_by false true = refl
  cancelled_by false false = refl

  cancels : is_cancelled w t u ≡ ((number_in_limits t u && is_present w t u) && eqb (present w t u).status 0)
  unfolding is_cancelled cancel_checks first_fault
  cancels =
      let e = cancelled_by (number_in_limits t u) (is_present w t u) in
      let x : is_clean (first_fault (cancel_checks w t u)) ≡ (number_in_limits t u && is_present w t u) = rw (sound_is w s) e in
      ap (λ b. b && eqb (present w t u).status 0) x

  -- any other leaves the entries as they are, which is what cancelling does to them
  already_cancelled_lem : (e : Entry) → entry_sound e ≡ true → (e.status ≡ 0 → ⊥) → cancelled_entry e ≡ e
  already_cancelled_lem e g n =
      let m : 1 ≡ e.status = one e.status n (leb-true e.status 1 (sound_entry e g).live_or_not) in
      λ i. record { till = e.till; sequence = e.sequence; asked = e.asked; parts = e.parts; status = m i; spare = e.spare }
    where
      one : (k : ℕ) → (k ≡ 0 → ⊥) → k ≤ 1 → 1 ≡ k
      one zero h l = absurd (h refl)
      one (suc k) h l = omega arith

  good_at : (j : ℕ) → j < length es → entry_sound (get_or es j no_entry) ≡ true
  good_at j l = every_at entry_sound es s.good j no_entry l

  -- an entry of the number is where the number is held, and its number is within the limits
  within_limits : (j : ℕ) → j < length es → has_number t u (get_or es j no_entry) ≡ true → number_in_limits t u ≡ true
  within_limits j l h =
      let e = get_or es j no_entry in
      let n = has_number_lem t u e h in
      rw (n.0, n.1) at (sound_entry e (good_at j l)).number

  pub at_place_lem : (j : ℕ) → j < length es → has_number t u (get_or es j no_entry) ≡ true → (is_present w t u ≡ true) × (place w t u ≡ j)
  at_place_lem j l h = let p = held_only t u es s.differ j l h in (lt-ltb (place w t u) (length es) (omega arith), p)

  stays : is_cancelled w t u ≡ false → (j : ℕ) → j < length es → cancelling t u (get_or es j no_entry) ≡ get_or es j no_entry
  stays c j l = by_number (has_number t u (get_or es j no_entry)) refl
    where
      by_number : (b : Bool) → has_number t u (get_or es j no_entry) ≡ b → cond b (cancelled_entry (get_or es j no_entry)) (get_or es j no_entry) ≡ get_or es j no_entry
      by_number false h = refl
      by_number true h =
          let p = at_place_lem j l h in
          already_cancelled_lem (get_or es j no_entry) (good_at j l) (λ z. never (rw (within_limits j l h, p.0, p.1, z) refl) (sym cancels ∙ c))

  pub cancel_after : After (cancel_words w t u)
  unfolding cancel_words
  cancel_after = go (is_cancelled w t u) refl
    where
      go : (b : Bool) → is_cancelled w t u ≡ b → After (cond b (cancelled_at w (place w t u)) w)
      go true e =
          let b = both_true (number_in_limits t u && is_present w t u) (eqb (present w t u).status 0) (sym cancels ∙ e) in
          cancelled_after w s t u (ltb-true (place w t u) (length es) (both_true (number_in_limits t u) (is_present w t u) b.0).1)
      go false e = (sym (map_fixed (cancelling t u) no_entry es (stays e)), s)
