-- What the answers on a sale and a cancellation come to, case by case as the code finds them; and that what is written follows from the answer.
-- Assumes nothing.
use Prim.Native.Nat.{ℕ, ◌+◌, ◌≤◌, ◌<◌}
use mathlib.Core.Path.{◌≡◌, refl, ◌∙◌, ap}
use mathlib.Core.Bool.{Bool, true, false, cond, not, ◌&&◌}
use mathlib.Core.List.{List, [], ◌∷◌}
use native.Mathlib.Omega.{arith}
use mathlib.Core.Logic.{⊎_elim}
use lib.Dec.{eqb, leb}
use lib.ListN.{length}
use borrow.Author.Tests.{lt-ltb, le-ltb, le-leb, lt-leb, leb-false, ltb-true, not-false}
use Rattle.common.specs.declared.reasons.Reason.TheVariants.{BookUnsound, NumberOutside, NumberTaken, BookFull, SaleUnknown}
use Rattle.std.specs.Prelude.{Ok, Err, Some, None, is_some}
use Rattle.std.specs.Option.{ok_or}
use Rattle.common.specs.Lists.{same}
use Rattle.common.specs.Checks.{refuse, Finding, clean, fault, check, unless, first_fault}
use Rattle.common.specs.declared.Refusal.{Refusal}
use Rattle.common.proofs.Checks.{by_finding, one_clean}
use Rattle.bundle.specs.Records.{records_of}
use Rattle.fares.specs.Fare.{parts_of, fare_checks, priced, quoted, fare_of}
use Rattle.fares.specs.declared.Question.{Question}
use Rattle.fares.specs.declared.Quote.{Quote}
use Rattle.book.specs.Words.{Entry, width, start_of, entry_at, capacity, count_of, entries, question_words, booking}
use Rattle.book.specs.Status.{status_of}
use Rattle.book.specs.Sound.{number_in_limits, held, sound_words}
use Rattle.sales.specs.Sales.{receipt, cancel_receipt, is_clean, place, is_present, present, sale_checks, sale_answer, is_booked, sale_words, cancel_checks, cancel_answer, is_cancelled, cancel_words}
use Rattle.sales.specs.declared.Outcome.TheVariants.{Booked, AlreadyBooked, Cancelled, AlreadyCancelled}
use Rattle.sales.specs.declared.Receipt.{Receipt}
use Rattle.sales.specs.Helpers.{looked_up, again_answer, first_answer}
use Rattle.sales.specs.Reading.{booking_at, find_answer}
use Rattle.book.proofs.NumbersDiffer.{held_some, held_none}
use Rattle.book.proofs.SoundBook.{is_sound, entry_is, entries_length}
use Rattle.book.specs.Changes.{added, cancelled_at}

module _ (w : List ℕ) (t s : ℕ) where
  abbrev at : ℕ
  at = place w t s

  is_present_lem : at < count_of w → is_present w t s ≡ true
  is_present_lem l = rw (entries_length w) (lt-ltb at (count_of w) l)

  is_absent : count_of w ≤ at → is_present w t s ≡ false
  is_absent l = rw (entries_length w) (le-ltb at (count_of w) l)

  the_present : at < count_of w → present w t s ≡ entry_at w at
  the_present l = entry_is w at l

  -- where the book's own search finds it, and that it does not
  pub found_at : {i : ℕ} → held t s (entries w) ≡ Some i → (at ≡ i) × (i < count_of w)
  found_at {i} e = let h = held_some t s (entries w) i e in (h.0, omega (arith, h.1, entries_length w))

  pub found_nowhere : held t s (entries w) ≡ None → count_of w ≤ at
  found_nowhere e = omega (arith, held_none t s (entries w) e, entries_length w)

  pub found_somewhere : at < count_of w → is_some (held t s (entries w)) ≡ true
  found_somewhere l = rw (is_present_lem l)

  pub found_inside : {i : ℕ} → sound_words w ≡ true → held t s (entries w) ≡ Some i → start_of i + width ≤ length w
  found_inside ok e = let k = is_sound w ok in omega (arith, (found_at e).1, k.long, k.few)

  module _ (b : List ℕ) (q : Question) where
    pub sale_unsound : sound_words w ≡ false → sale_answer w t s b q ≡ Err (refuse BookUnsound 0 0)
    unfolding sale_answer sale_checks first_fault
    sale_unsound e = rw e

    module _ (ok : sound_words w ≡ true) where
      pub sale_no_number : number_in_limits t s ≡ false → sale_answer w t s b q ≡ Err (refuse NumberOutside 0 0)
      unfolding sale_answer sale_checks first_fault
      sale_no_number e = rw (ok, e)

      module _ (n : number_in_limits t s ≡ true) where
        by_question : (d : Bool) (i : ℕ) (r : Receipt) → unless (first_fault (check (not d) NumberTaken i 0 ∷ [])) r ≡ cond d (Ok r) (Err (refuse NumberTaken i 0))
        unfolding first_fault
        by_question true i r = refl
        by_question false i r = refl

        pub present_again : is_present w t s ≡ true → sale_answer w t s b q ≡ again_answer (present w t s) (place w t s) q
        unfolding sale_answer sale_checks first_fault again_answer
        present_again l =
            rw (ok, n, l)
            (by_question (same (present w t s).asked (question_words q)) (place w t s) (receipt (AlreadyBooked (status_of (present w t s).status)) (present w t s).parts))

        pub sale_again : {i : ℕ} → held t s (entries w) ≡ Some i → sale_answer w t s b q ≡ again_answer (entry_at w i) i q
        sale_again h =
            let f = found_at h in
            let l : at < count_of w = omega (arith, f.0, f.1) in
            present_again (is_present_lem l) ∙ (ap (λ e. again_answer e at q) (the_present l) ∙ ap (λ k. again_answer (entry_at w k) k q) f.0)

        module _ (l : count_of w ≤ at) where
          pub sale_full : capacity ≤ count_of w → sale_answer w t s b q ≡ Err (refuse BookFull 0 0)
          unfolding sale_answer sale_checks first_fault
          sale_full f = rw (ok, n, is_absent l, entries_length w, le-leb capacity (count_of w) f)

          pub sale_first : count_of w < capacity → sale_answer w t s b q ≡ first_answer b q
          unfolding sale_answer sale_checks first_fault first_answer
          sale_first f = rw (ok, n, is_absent l, entries_length w, lt-leb capacity (count_of w) f)

  -- A NUMBER LOOKED FOR, as a cancellation and a find look: 21, 22, 25, or nothing is against it
  abbrev pub looked : Finding
  looked = first_fault (cancel_checks w t s)

  pub looked_unsound : sound_words w ≡ false → looked ≡ fault (refuse BookUnsound 0 0)
  unfolding cancel_checks first_fault
  looked_unsound e = rw e

  module _ (ok : sound_words w ≡ true) where
    pub looked_no_number : number_in_limits t s ≡ false → looked ≡ fault (refuse NumberOutside 0 0)
    unfolding cancel_checks first_fault
    looked_no_number e = rw (ok, e)

    module _ (n : number_in_limits t s ≡ true) where
      pub looked_unknown : count_of w ≤ at → looked ≡ fault (refuse SaleUnknown 0 0)
      unfolding cancel_checks first_fault
      looked_unknown l = rw (ok, n, is_absent l)

      pub looked_present : is_present w t s ≡ true → looked ≡ clean
      unfolding cancel_checks first_fault
      looked_present p = rw (ok, n, p)

      pub looked_for : looked_up w t s ≡ ok_or (held t s (entries w)) (refuse SaleUnknown 0 0)
      unfolding looked_up cancel_checks first_fault
      looked_for = rw (ok, n) (go (is_present w t s))
        where
          go : (b : Bool) → unless (cond (not b) (fault (refuse SaleUnknown 0 0)) clean) at ≡ ok_or (cond b (Some at) None) (refuse SaleUnknown 0 0)
          go true = refl
          go false = refl

  pub found_there : looked ≡ clean → (sound_words w ≡ true) × (number_in_limits t s ≡ true) × (at < count_of w)
  unfolding cancel_checks
  found_there e =
      let a = one_clean (not (sound_words w)) BookUnsound 0 0 _ e in
      let n = one_clean (not (number_in_limits t s)) NumberOutside 0 0 _ a.1 in
      let d = one_clean (not (is_present w t s)) SaleUnknown 0 0 _ n.1 in
      let p = ltb-true at (length (entries w)) (not-false (is_present w t s) d.0) in
      (not-false (sound_words w) a.0, not-false (number_in_limits t s) n.0, rw (entries_length w) at p)

  -- the place that is told of it
  pub looked_up_refused : {why : Refusal} → looked_up w t s ≡ Err why → looked ≡ fault why
  unfolding looked_up
  looked_up_refused e = ⊎_elim (λ h. cc) (λ h. cc) (by_finding looked at e)

  module _ {i : ℕ} (e : looked_up w t s ≡ Ok i) where
    pub looked_up_at : (looked ≡ clean) × (at ≡ i)
    unfolding looked_up
    looked_up_at = ⊎_elim (λ h. (h.0, cc)) (λ h. (cc, cc)) (by_finding looked at e)

    pub looked_up_inside : start_of i + width ≤ length w
    looked_up_inside =
        let f = found_there looked_up_at.0 in
        let k = is_sound w f.0 in
        omega (arith, f.2, looked_up_at.1, k.long, k.few)

    pub looked_up_entry : present w t s ≡ entry_at w i
    looked_up_entry = the_present (found_there looked_up_at.0).2 ∙ ap (entry_at w) looked_up_at.1

  -- the answers to a cancellation and to a find
  module _ {why : Refusal} (e : looked ≡ fault why) where
    pub cancel_refused : cancel_answer w t s ≡ Err why
    unfolding cancel_answer
    cancel_refused = rw e

    pub find_refused : find_answer w t s ≡ Err why
    unfolding find_answer
    find_refused = rw e

  module _ (e : looked ≡ clean) where
    pub cancel_answered : cancel_answer w t s ≡ Ok (cancel_receipt (present w t s))
    unfolding cancel_answer
    cancel_answered = rw e

    pub find_answered : find_answer w t s ≡ Ok (booking_at at (present w t s))
    unfolding find_answer
    find_answered = rw e

-- a quote that is refused, and one that is priced
module _ (b : List ℕ) (q : Question) where
  by_refusal : (f : Finding) (parts : List ℕ) (r : Refusal) → quoted f parts ≡ Err r → unless f (receipt Booked parts) ≡ Err r
  by_refusal clean parts r e = cc
  by_refusal (fault why) parts r e = cc

  pub quote_refused : (r : Refusal) → fare_of b q ≡ Err r → first_answer b q ≡ Err r
  unfolding fare_of first_answer
  quote_refused r e = by_refusal (first_fault (fare_checks b q)) (parts_of (records_of b) q) r e

  by_price : (f : Finding) (parts : List ℕ) (quote : Quote) → quoted f parts ≡ Ok quote → unless f (receipt Booked parts) ≡ Ok (receipt Booked quote.parts)
  by_price clean parts quote e =
      let x : priced parts ≡ quote = cc in
      ap (λ (y : Quote). Ok (receipt Booked y.parts)) x
  by_price (fault why) parts quote e = cc

  pub quote_priced : (quote : Quote) → fare_of b q ≡ Ok quote → first_answer b q ≡ Ok (receipt Booked quote.parts)
  unfolding fare_of first_answer
  quote_priced quote e = by_price (first_fault (fare_checks b q)) (parts_of (records_of b) q) quote e

module _ (e : Entry) (i : ℕ) (q : Question) where
  pub again_other : same e.asked (question_words q) ≡ false → again_answer e i q ≡ Err (refuse NumberTaken i 0)
  unfolding again_answer
  again_other d = rw d

  pub again_same : same e.asked (question_words q) ≡ true → again_answer e i q ≡ Ok (receipt (AlreadyBooked (status_of e.status)) e.parts)
  unfolding again_answer
  again_same d = rw d

-- WHAT IS WRITTEN follows from the answer: only a newly booked sale and a first cancellation change the book
module _ (w : List ℕ) (t s : ℕ) (b : List ℕ) (q : Question) where
  abbrev found : Finding
  found = first_fault (sale_checks w t s b q)

  abbrev there : Receipt
  there = receipt (AlreadyBooked (status_of (present w t s).status)) (present w t s).parts

  abbrev fresh : Receipt
  fresh = receipt Booked (parts_of (records_of b) q)

  booked_only : (f : Finding) (p : Bool) (r : Receipt) → unless f (cond p there fresh) ≡ Ok r → r.outcome ≡ Booked
      → (f ≡ clean) × (p ≡ false) × (r ≡ fresh)
  booked_only clean true r a e =
      let o : there.outcome ≡ Booked = ap (λ (x : Receipt). x.outcome) (let x : there ≡ r = cc in x) ∙ e in
      (cc, cc, cc)
  booked_only clean false r a e = (refl, refl, cc)
  booked_only (fault why) p r a e = (cc, cc, cc)

  else_not : (f : Finding) (p : Bool) (r : Receipt) → unless f (cond p there fresh) ≡ Ok r → (r.outcome ≡ Booked → ⊥) → (is_clean f && not p) ≡ false
  else_not clean true r a n = refl
  else_not clean false r a n = absurd (n (ap (λ (x : Receipt). x.outcome) (let x : r ≡ fresh = cc in x)))
  else_not (fault why) p r a n = refl

  refused_not : (f : Finding) (p : Bool) (why : Refusal) → unless f (cond p there fresh) ≡ Err why → (is_clean f && not p) ≡ false
  refused_not clean p why a = cc
  refused_not (fault other) p why a = refl

  pub refused_stays : {why : Refusal} → sale_answer w t s b q ≡ Err why → sale_words w t s b q ≡ w
  unfolding sale_answer sale_words is_booked
  refused_stays a = rw (refused_not found (is_present w t s) _ a)

  module _ {r : Receipt} (a : sale_answer w t s b q ≡ Ok r) where
    pub not_booked_stays : (r.outcome ≡ Booked → ⊥) → sale_words w t s b q ≡ w
    unfolding sale_answer sale_words is_booked
    not_booked_stays n = rw (else_not found (is_present w t s) r a n)

    module _ (e : r.outcome ≡ Booked) where
      told : (found ≡ clean) × (is_present w t s ≡ false) × (r ≡ fresh)
      unfolding sale_answer
      told = booked_only found (is_present w t s) r a e

      pub booked_is : is_booked w t s b q ≡ true
      unfolding is_booked
      booked_is = rw (told.0, told.1)

      pub booked_sound : (sound_words w ≡ true) × (number_in_limits t s ≡ true) × (count_of w < capacity)
      unfolding sale_checks
      booked_sound =
          let a = one_clean (not (sound_words w)) BookUnsound 0 0 _ told.0 in
          let n = one_clean (not (number_in_limits t s)) NumberOutside 0 0 _ a.1 in
          let d = one_clean (is_present w t s && not (same (present w t s).asked (question_words q))) NumberTaken (place w t s) 0 _ n.1 in
          let c : first_fault (check (leb capacity (length (entries w))) BookFull 0 0 ∷ fare_checks b q) ≡ clean = rw told.1 at d.1 in
          let l = (one_clean (leb capacity (length (entries w))) BookFull 0 0 (fare_checks b q) c).0 in
          (not-false (sound_words w) a.0, not-false (number_in_limits t s) n.0, rw (entries_length w) at (leb-false capacity (length (entries w)) l))

      pub booked_parts : r.parts ≡ parts_of (records_of b) q
      booked_parts = ap (λ (x : Receipt). x.parts) told.2

      pub booked_writes : sale_words w t s b q ≡ added w (booking t s q r.parts)
      unfolding sale_words is_booked
      booked_writes = rw (told.0, told.1, booked_parts)

module _ (w : List ℕ) (t s : ℕ) where
  abbrev is_live : Bool
  is_live = eqb (present w t s).status 0

  abbrev told_of : Bool → Receipt
  told_of m = receipt (cond m Cancelled AlreadyCancelled) (present w t s).parts

  cancelled_only : (f : Finding) (m : Bool) (r : Receipt) → unless f (told_of m) ≡ Ok r → r.outcome ≡ Cancelled → (f ≡ clean) × (m ≡ true)
  cancelled_only clean true r a e = (refl, refl)
  cancelled_only clean false r a e =
      let o : (told_of false).outcome ≡ Cancelled = ap (λ (x : Receipt). x.outcome) (let x : told_of false ≡ r = cc in x) ∙ e in
      (cc, cc)
  cancelled_only (fault why) m r a e = (cc, cc)

  cancelled_not : (f : Finding) (m : Bool) (r : Receipt) → unless f (told_of m) ≡ Ok r → (r.outcome ≡ Cancelled → ⊥) → (is_clean f && m) ≡ false
  cancelled_not clean true r a n = absurd (n (ap (λ (x : Receipt). x.outcome) (let x : r ≡ told_of true = cc in x)))
  cancelled_not clean false r a n = refl
  cancelled_not (fault why) m r a n = refl

  refused_cancel_not : (f : Finding) (m : Bool) (why : Refusal) → unless f (told_of m) ≡ Err why → (is_clean f && m) ≡ false
  refused_cancel_not clean m why a = cc
  refused_cancel_not (fault other) m why a = refl

  pub refused_cancel_stays : {why : Refusal} → cancel_answer w t s ≡ Err why → cancel_words w t s ≡ w
  unfolding cancel_answer cancel_words is_cancelled
  refused_cancel_stays a = rw (refused_cancel_not (looked w t s) is_live _ a)

  module _ {r : Receipt} (a : cancel_answer w t s ≡ Ok r) where
    pub not_cancelled_stays : (r.outcome ≡ Cancelled → ⊥) → cancel_words w t s ≡ w
    unfolding cancel_answer cancel_words is_cancelled
    not_cancelled_stays n = rw (cancelled_not (looked w t s) is_live r a n)

    module _ (e : r.outcome ≡ Cancelled) where
      told_cancel : (looked w t s ≡ clean) × (is_live ≡ true)
      unfolding cancel_answer
      told_cancel = cancelled_only (looked w t s) is_live r a e

      pub cancelled_sound : (sound_words w ≡ true) × (number_in_limits t s ≡ true) × (place w t s < count_of w)
      cancelled_sound = found_there w t s told_cancel.0

      pub cancelled_writes : cancel_words w t s ≡ cancelled_at w (place w t s)
      unfolding cancel_words is_cancelled
      cancelled_writes = rw (told_cancel.0, told_cancel.1)
