-- WHAT A FARE MEANS: it is answered with a part for each leg, as the records say, and their sum; or refused by the bundle, the question or a leg. Both are
-- proved both ways. And no part and no fare is above its bound.
-- Assumes nothing.
use Prim.Native.Nat.{ℕ, zero, suc, ◌+◌, ◌-◌, ◌*◌, ◌≤◌, ◌<◌}
use mathlib.Core.Path.{◌≡◌, refl, sym, ◌∙◌, ap}
use mathlib.Core.Bool.{true, not}
use mathlib.Core.List.{List, [], ◌∷◌, ◌++◌, map}
use mathlib.Core.Logic.{⊎_elim}
use native.Mathlib.Nat.{zero-add, le_of_suc-le-suc, not-suc-le-zero}
use native.Mathlib.Omega.{arith}
use lib.ListN.{length, get_or, replicate, length-map, length-append, length-replicate, get_or-append}
use lib.Seq.{ext_get_or}
use borrow.Author.Tests.{not-true, not-false}
use Rattle.std.specs.Prelude.{Ok, Err}
use Rattle.common.specs.Reasons.{number_of_reason}
use Rattle.common.specs.declared.reasons.Reason.TheVariants.{OutsideLimits, CardTwice}
use Rattle.common.specs.Lists.{sum}
use Rattle.common.specs.Checks.{refuse, clean, fault, Check, check, first_fault, each_from, IsFault, IsRefused}
use Rattle.common.specs.declared.Refusal.{Refusal}
use Rattle.common.proofs.Tests.{never, refuted, side}
use Rattle.common.proofs.Lists.{first_length, first_at}
use Rattle.common.proofs.Sums.{map_at, sum_bounded}
use Rattle.common.proofs.Checks.{by_finding, one_clean, clean_one, append_clean, clean_append, each_clean, clean_each, one_fault, append_fault, no_fault, fault_append, each_fault, fault_each}
use Rattle.bundle.specs.Records.{Rec, records_of, rest_of}
use Rattle.bundle.specs.Verdict.{checks, verdict_of}
use Rattle.bundle.specs.Meaning.{Good}
use Rattle.bundle.specs.Faults.{Cut}
use Rattle.bundle.proofs.PassLaws.{is_clean_lem}
use Rattle.bundle.proofs.CutAndJoin.{cut_only}
use Rattle.bundle.proofs.Meaning.{accepted_good, good_accepted, recut}
use Rattle.bundle.proofs.Faults.{fault_means, means_fault}
use Rattle.fares.specs.Question.{no_leg, legs_of, card_slots, cards_of, cards_differ, in_limits}
use Rattle.fares.specs.Reductions.{part_bound}
use Rattle.fares.specs.Legs.{leg_checks, part_of}
use Rattle.fares.specs.Fare.{parts_of, price_checks, fare_checks, quote, priced, fare_of}
use Rattle.fares.specs.Meaning.{leg_at, InLimits, CardsDiffer, LegFare, IsFare, NoFare, faulty, outside_limits, card_twice, at_leg}
use Rattle.fares.specs.declared.Question.{Question}
use Rattle.fares.specs.declared.Quote.{Quote}
use Rattle.fares.proofs.LegLaws.{leg_small}
use Rattle.fares.proofs.CardSlots.{differ_means, means_differ}
use Rattle.fares.proofs.QuestionLimits.{limits_mean, means_limits}
use Rattle.fares.proofs.LegMeaning.{leg_means, means_turned, means_priced}

-- THE PARTS: one for each leg, nothing in the slots beyond them, eight in all
beyond : (xs : List ℕ) (m k : ℕ) → length xs ≤ k → get_or (xs ++ replicate m 0) k 0 ≡ 0
beyond [] zero k l = refl
beyond [] (suc m) zero l = refl
beyond [] (suc m) (suc k) l = beyond [] m k (omega arith)
beyond (x ∷ xs) m zero l = absurd (not-suc-le-zero l)
beyond (x ∷ xs) m (suc k) l = beyond xs m k (le_of_suc-le-suc l)

module _ (R : List Rec) (q : Question) where
  abbrev own : List ℕ
  own = map (part_of R q) (legs_of q)

  as_many : length (legs_of q) ≡ q.count
  as_many = first_length no_leg q.count q.legs

  own_length : length own ≡ q.count
  own_length = length-map (legs_of q) (part_of R q) ∙ as_many

  leg_is : (k : ℕ) → k < q.count → get_or (legs_of q) k no_leg ≡ leg_at q k
  leg_is k l = first_at no_leg q.count q.legs k l

  part_of_leg : (k : ℕ) → k < q.count → get_or (parts_of R q) k 0 ≡ part_of R q (leg_at q k)
  unfolding parts_of
  part_of_leg k l =
      get_or-append own (replicate (8 - q.count) 0) 0 k (omega (arith, own_length))
      ∙ (map_at (part_of R q) (legs_of q) k 0 no_leg (omega (arith, as_many)) ∙ ap (part_of R q) (leg_is k l))

  none_beyond : (k : ℕ) → q.count ≤ k → get_or (parts_of R q) k 0 ≡ 0
  unfolding parts_of
  none_beyond k l = beyond own (8 - q.count) k (omega (arith, own_length))

  pub eight_parts : q.count ≤ 8 → length (parts_of R q) ≡ 8
  unfolding parts_of
  eight_parts l = length-append own (replicate (8 - q.count) 0) ∙ omega (arith, own_length, length-replicate {A = ℕ} (8 - q.count) 0)

module _ (s : List ℕ) (q : Question) where
  abbrev R : List Rec
  R = records_of s

  -- the verdict comes first
  clean_good : first_fault (checks s) ≡ clean → Good s R
  unfolding verdict_of
  clean_good e = (accepted_good s (length R) (rw e)).0

  good_clean : Good s R → first_fault (checks s) ≡ clean
  unfolding verdict_of
  good_clean g = (is_clean_lem (first_fault (checks s)) (length R) (length R) (good_accepted s R g)).0

  -- then the question and the legs
  abbrev cards : Check
  cards = check (not (cards_differ (card_slots q))) CardTwice 0 0

  abbrev leg_faults : List Check
  leg_faults = each_from 0 (leg_checks R q) (legs_of q)

  -- A FARE IS ANSWERED where nothing fails,
  answered : {fare : ℕ} {parts : List ℕ} → fare_of s q ≡ Ok (quote fare parts)
      → (first_fault (fare_checks s q) ≡ clean) × (fare ≡ sum (parts_of R q)) × (parts ≡ parts_of R q)
  unfolding fare_of
  answered {fare} {parts} e =
      ⊎_elim
      (λ h. let x : priced (parts_of R q) ≡ quote fare parts = cc in (h.0, sym (ap (λ (x : Quote). x.fare) x), sym (ap (λ (x : Quote). x.parts) x)))
      (λ h. cc) (by_finding (first_fault (fare_checks s q)) (priced (parts_of R q)) e)

  module _ (c : first_fault (fare_checks s q) ≡ clean) where
    passes : (first_fault (checks s) ≡ clean) × (first_fault (price_checks R q) ≡ clean)
    unfolding fare_checks
    passes = append_clean (checks s) (price_checks R q) c

    within_limits : (in_limits q ≡ true) × (cards_differ (card_slots q) ≡ true) × (first_fault leg_faults ≡ clean)
    unfolding price_checks
    within_limits =
        let b = one_clean (not (in_limits q)) OutsideLimits 0 0 (cards ∷ leg_faults) passes.1 in
        let d = one_clean (not (cards_differ (card_slots q))) CardTwice 0 0 leg_faults b.1 in
        (not-false (in_limits q) b.0, not-false (cards_differ (card_slots q)) d.0, d.1)

    leg_priced : (k : ℕ) → k < q.count → LegFare R q (leg_at q k) (get_or (parts_of R q) k 0)
    leg_priced k l =
        let e = each_clean (leg_checks R q) no_leg 0 (legs_of q) within_limits.2 k (omega (arith, as_many R q)) in
        let f : first_fault (leg_checks R q (0 + k) (leg_at q k)) ≡ clean = rw (leg_is R q k l) at e in
        rw (part_of_leg R q k l)
        (⊎_elim (λ h. h.1) (λ h. no_fault f h.2) (leg_means s R (clean_good passes.0) q (leg_at q k) (0 + k) (differ_means q within_limits.1)))

  -- with what it means,
  pub fare_means : (fare : ℕ) (parts : List ℕ) → fare_of s q ≡ Ok (quote fare parts) → IsFare s R q fare parts
  fare_means fare parts e =
      let a = answered e in
      let l = limits_mean q (within_limits a.0).0 in
      rw (a.1, a.2) (record {
        good = clean_good (passes a.0).0;
        within_limits = l;
        cards_apart = differ_means q (within_limits a.0).1;
        leg_by_leg = leg_priced a.0;
        none_beyond = none_beyond R q;
        eight = eight_parts R q l.count.1;
        summed = refl;
      })

  -- and is refused by the first check that fails,
  refused : (why : Refusal) → fare_of s q ≡ Err why → first_fault (fare_checks s q) ≡ fault why
  unfolding fare_of
  refused why e =
      ⊎_elim (λ h. cc) (λ h. let i : h.0 ≡ why = cc in h.1 ∙ ap fault i)
      (by_finding (first_fault (fare_checks s q)) (priced (parts_of R q)) e)

  abbrev Told : Refusal → Type 0
  Told why = NoFare s R (rest_of s) q (number_of_reason why.reason) why.place why.detail

  by_leg : Good s R → InLimits q → CardsDiffer q → (why : Refusal) → first_fault leg_faults ≡ fault why → Told why
  by_leg g l d why e =
      let h = each_fault (leg_checks R q) no_leg 0 (legs_of q) why e in
      let k = h.at in
      let m : k < q.count = omega (arith, h.inside, as_many R q) in
      let f : first_fault (leg_checks R q (0 + k) (leg_at q k)) ≡ fault why = rw (leg_is R q k m) at h.fails in
      ⊎_elim (λ c. no_fault c.0 f)
      (λ c. let i : refuse c.0 (0 + k) c.1 ≡ why = same_fault (sym c.2 ∙ f) in rw (← i, zero-add) (at_leg g l d k m (earlier k m h.earlier_clean) c.3))
      (leg_means s R g q (leg_at q k) (0 + k) d)
    where
      same_fault : {x y : Refusal} → fault x ≡ fault y → x ≡ y
      same_fault e = cc

      earlier : (k : ℕ) → k < q.count → ((j : ℕ) → j < k → first_fault (leg_checks R q (0 + j) (get_or (legs_of q) j no_leg)) ≡ clean)
          → (j : ℕ) → j < k → (part : ℕ) × LegFare R q (leg_at q j) part
      earlier k m h j l =
          let f : first_fault (leg_checks R q (0 + j) (leg_at q j)) ≡ clean = rw (leg_is R q j (omega arith)) at (h j l) in
          ⊎_elim (λ c. (part_of R q (leg_at q j), c.1)) (λ c. no_fault f c.2) (leg_means s R g q (leg_at q j) (0 + j) d)

  by_cards : Good s R → in_limits q ≡ true → (why : Refusal) → first_fault (cards ∷ leg_faults) ≡ fault why → Told why
  by_cards g t why e =
      ⊎_elim (λ b. rw (← b.1) (card_twice g (limits_mean q t) (λ d. never (means_differ q d) (not-true (cards_differ (card_slots q)) b.0))))
      (λ b. by_leg g (limits_mean q t) (differ_means q (not-false (cards_differ (card_slots q)) b.0)) why b.1)
      (one_fault (not (cards_differ (card_slots q))) CardTwice 0 0 leg_faults e)

  by_price : Good s R → (why : Refusal) → first_fault (price_checks R q) ≡ fault why → Told why
  unfolding price_checks
  by_price g why e =
      ⊎_elim (λ b. rw (← b.1) (outside_limits g (λ l. never (means_limits q l) (not-true (in_limits q) b.0))))
      (λ b. by_cards g (not-false (in_limits q) b.0) why b.1)
      (one_fault (not (in_limits q)) OutsideLimits 0 0 (cards ∷ leg_faults) e)

  -- with what that means;
  pub no_fare_means : (why : Refusal) → fare_of s q ≡ Err why → Told why
  unfolding fare_checks
  no_fare_means why e =
      ⊎_elim (λ f. faulty (fault_means s why f)) (λ f. by_price (clean_good f.0) why f.1) (append_fault (checks s) (price_checks R q) (refused why e))

  -- AND BACK
  clean_priced : first_fault (fare_checks s q) ≡ clean → fare_of s q ≡ Ok (priced (parts_of R q))
  unfolding fare_of
  clean_priced c = rw c

  fault_refused : (n p d : ℕ) → IsFault (first_fault (fare_checks s q)) n p d → IsRefused (fare_of s q) n p d
  unfolding fare_of
  fault_refused n p d f = (f.0, f.1, f.2, rw f.3)

  legs_clean : Good s R → CardsDiffer q → (n : ℕ) → n ≤ q.count → ((k : ℕ) → k < n → (part : ℕ) × LegFare R q (leg_at q k) part)
      → (k : ℕ) → k < n → first_fault (leg_checks R q (0 + k) (get_or (legs_of q) k no_leg)) ≡ clean
  legs_clean g d n m h k l = rw (leg_is R q k (omega arith)) (let p = h k l in (means_priced s R g q (leg_at q k) (0 + k) d p.0 p.1).0)

  all_clean : Good s R → InLimits q → CardsDiffer q → ((k : ℕ) → k < q.count → (part : ℕ) × LegFare R q (leg_at q k) part) → first_fault (fare_checks s q) ≡ clean
  unfolding fare_checks price_checks
  all_clean g l d h =
      clean_append (checks s) (price_checks R q) (good_clean g)
      (clean_one (not (in_limits q)) OutsideLimits 0 0 (cards ∷ leg_faults) (rw (means_limits q l))
      (clean_one (not (cards_differ (card_slots q))) CardTwice 0 0 leg_faults (rw (means_differ q d))
      (clean_each (leg_checks R q) no_leg 0 (legs_of q) (λ k m. legs_clean g d q.count (omega arith) h k (omega (arith, as_many R q))))))

  answered_by : (fare : ℕ) (parts : List ℕ) → IsFare s R q fare parts → fare_of s q ≡ Ok (quote fare parts)
  answered_by fare parts f =
      let c = all_clean f.good f.within_limits f.cards_apart (λ k l. (get_or parts k 0, f.leg_by_leg k l)) in
      let eight = eight_parts R q f.within_limits.count.1 in
      let same : parts ≡ parts_of R q = ext_get_or 0 parts (parts_of R q) (f.eight ∙ sym eight) (λ k l. part_alike f k) in
      clean_priced c ∙ (λ j. Ok (quote (sym (f.summed ∙ ap sum same) j) (sym same j)))
    where
      part_alike : IsFare s R q fare parts → (k : ℕ) → get_or parts k 0 ≡ get_or (parts_of R q) k 0
      part_alike f k =
          ⊎_elim (λ l. (means_priced s R f.good q (leg_at q k) k f.cards_apart _ (f.leg_by_leg k l)).1 ∙ sym (part_of_leg R q k l))
          (λ l. f.none_beyond k l ∙ sym (none_beyond R q k l)) (side k q.count)

  found_by : (n p d : ℕ) → NoFare s R (rest_of s) q n p d → IsFault (first_fault (fare_checks s q)) n p d
  unfolding fare_checks price_checks first_fault
  found_by n p d (faulty f) =
      let z = means_fault s n p d f in
      (z.0, z.1, z.2, fault_append (checks s) (price_checks R q) ∙ rw z.3)
  found_by n p d (outside_limits g l) =
      let z = fault_append (checks s) (price_checks R q) ∙ rw (good_clean g, refuted (in_limits q) (λ e. l (limits_mean q e))) in
      (OutsideLimits, refl, refl, z)
  found_by n p d (card_twice g l c) =
      let twice = refuted (cards_differ (card_slots q)) (λ e. c (differ_means q e)) in
      (CardTwice, refl, refl, fault_append (checks s) (price_checks R q) ∙ rw (good_clean g, means_limits q l, twice))
  found_by n p d (at_leg g l c k m h {d = f} t) =
      let z = means_turned s R g q (leg_at q k) k n f t in (
        z.0,
        z.1,
        z.2,
        fault_append (checks s) (price_checks R q)
            ∙ rw (good_clean g, means_limits q l, means_differ q c)
            (fault_each (leg_checks R q) no_leg 0 (legs_of q) (refuse z.0 k f)
            (record {
              at = k;
              inside = omega (arith, as_many R q);
              fails = rw (leg_is R q k m, zero-add) z.3;
              earlier_clean = legs_clean g c k (omega arith) h;
            })),
      )

pub means_fare : (s : List ℕ) (R : List Rec) (q : Question) (fare : ℕ) (parts : List ℕ) → IsFare s R q fare parts
    → fare_of s q ≡ Ok (quote fare parts)
means_fare s R q fare parts f = answered_by s q fare parts (rw (recut s R f.good) f)

pub means_no_fare : (s : List ℕ) (R : List Rec) (rest : List ℕ) → Cut s R rest → (q : Question) (n p d : ℕ) → NoFare s R rest q n p d
    → IsRefused (fare_of s q) n p d
means_no_fare s R rest c q n p d f = let e = cut_only s R rest c in fault_refused s q n p d (found_by s q n p d (rw (e.0, e.1) f))

-- NO PART of a fare is above the bound, and no fare above eight times the bound
module _ (s : List ℕ) (R : List Rec) (q : Question) (fare : ℕ) (parts : List ℕ) (f : IsFare s R q fare parts) where
  pub part_bounded : (k : ℕ) → get_or parts k 0 ≤ part_bound (length (cards_of q))
  part_bounded k =
      ⊎_elim
      (λ l. rw (means_priced s R f.good q (leg_at q k) k f.cards_apart _ (f.leg_by_leg k l)).1 (leg_small R q (leg_at q k) (f.within_limits.legs k l).fare f.within_limits.persons.1))
      (λ l. rw (f.none_beyond k l) (omega arith)) (side k q.count)

  pub fare_bounded : fare ≤ 8 * part_bound (length (cards_of q))
  fare_bounded = rw f.summed (rw f.eight at (sum_bounded parts (part_bound (length (cards_of q))) (λ k l. part_bounded k)))
